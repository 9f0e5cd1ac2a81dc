pub mod HalvesLemmas
pub mod PutLemmas
pub mod GrowingLemmas
pub mod InsertingLemmas
pub mod WrittenLemmas
pub mod ExitLemmas
pub mod HoldingLemmas
