pub mod Scopes
pub mod Typing
pub mod Faults
pub mod Meaning
pub mod Checking
pub mod Valid
pub mod Views
pub mod TypingRules
