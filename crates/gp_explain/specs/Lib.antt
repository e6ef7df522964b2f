pub mod Explained
pub mod ExplainedLines
pub mod Explaining
pub mod Numbers
pub mod Shapes
pub mod SmallLogs
pub mod LineTexts
