pub mod RebuildingLemmas
pub mod SourceLemmas
pub mod SubstitutionLemmas
pub mod ViewLemmas
