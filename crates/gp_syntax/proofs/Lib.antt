pub mod LinesLemmas
pub mod Ranks
pub mod RepetitionLemmas
pub mod NameLemmas
pub mod RuleLemmas
pub mod LimitLemmas
pub mod ReadingLemmas
pub mod CanonicalLemmas
