pub mod CheckLemmas
pub mod NodeLemmas
pub mod OrderLemmas
pub mod PlaceLemmas
