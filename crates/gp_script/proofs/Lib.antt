mod HistoryLemmas
mod Progress
mod ReadingLemmas
mod ScriptLemmas
mod ScriptLineLemmas
pub mod ReadHistory
