pub mod StatementTypes
