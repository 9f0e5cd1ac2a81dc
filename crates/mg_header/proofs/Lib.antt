pub mod HeaderPageLemmas
pub mod Writes
