pub mod BackendLemmas
pub mod HeldLemmas
pub mod ReplayLemmas
pub mod StopLemmas
pub mod EncodingLemmas
pub mod LookingLemmas
pub mod StepStops
