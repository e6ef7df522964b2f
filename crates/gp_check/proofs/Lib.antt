pub mod ScopeLemmas
pub mod TypingLemmas
pub mod MeaningLemmas
pub mod FittingLemmas
pub mod ValidLemmas
