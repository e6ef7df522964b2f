pub mod Meaning
pub mod Rewriting
pub mod RewritingForms
