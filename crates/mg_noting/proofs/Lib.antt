pub mod BuildingLemmas
pub mod MakingLemmas
