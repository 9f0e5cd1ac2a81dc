mod DemandLemmas
mod HandedLemmas
mod InventoryLemmas
mod ReadingLemmas
mod RegionLemmas
mod StackedLemmas
mod TakingLemmas
mod RoomsLemmas
