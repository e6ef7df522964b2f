pub mod BuiltLemmas
pub mod Codes
pub mod ColumnLemmas
pub mod ColumnLists
pub mod MeaningLemmas
pub mod Pairs
pub mod RowLemmas
