pub mod AgreementLemmas
mod AnnotatedScans
mod Cancelling
mod ChangeLemmas
pub mod CommitLemmas
mod DecodedLemmas
mod ElementLemmas
mod FoundLemmas
mod HistoryLemmas
mod ImageLemmas
mod KeepingLemmas
mod MakerLemmas
mod MatchingLemmas
pub mod NarrowLemmas
mod NarrowedChange
pub mod NarrowingLemmas
mod NarrowedLemmas
mod NotedLemmas
mod ProvenanceLemmas
mod ProvingLemmas
mod PublishedLemmas
mod ReachLemmas
mod RenewingLemmas
mod RunLemmas
mod SeekingLemmas
mod SpanLemmas
mod StartLemmas
mod StopLemmas
mod TableLemmas
mod ValuingLemmas
mod AnswerCounts
mod Bounds
pub mod DistinctLemmas
pub mod HeldLemmas
pub mod IgnoringLemmas
mod MakerBounds
mod OrderLemmas
pub mod RoomLemmas
mod RunBounds
mod SmallLemmas
mod SpanValues
mod StatementBounds
pub mod ValueLemmas
pub mod VersionReannotation
