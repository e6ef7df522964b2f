pub mod Prelude
pub mod ActionLemmas
pub mod ActiveLemmas
mod AnnotationLemmas
pub mod AskedLemmas
pub mod BaseLemmas
mod CommitLemmas
mod CommitterLemmas
mod ConflictLemmas
pub mod CountLemmas
pub mod Distinct
pub mod EngineLemmas
pub mod EntryCounts
pub mod FoundLemmas
pub mod HeldPoints
mod LeastLemmas
pub mod LimitLemmas
pub mod LogLemmas
pub mod Made
pub mod OverlayLemmas
pub mod PointReannotation
mod PublishLemmas
mod QuestionLemmas
pub mod ReachedLemmas
mod RecordedLemmas
mod ReplaceLemmas
pub mod SerialLemmas
pub mod ReplayLemmas
mod ReplayReannotation
pub mod ReplayedLemmas
mod RepresentLemmas
pub mod RunBags
pub mod RunLemmas
pub mod Simulation
pub mod SpanCommit
mod SpanEnds
mod SpanGrowth
pub mod SpanLaws
mod SpanOrder
mod SpanRows
mod StepViews
mod UnchangedLemmas
pub mod UnstoppedLemmas
mod ViewLemmas
mod Worked
pub mod AnyLemmas
