pub mod PlaceLemmas
pub mod CellLemmas
pub mod RowLemmas
pub mod StepLemmas
pub mod WalkLemmas
pub mod RecordLemmas
pub mod ListingLemmas
