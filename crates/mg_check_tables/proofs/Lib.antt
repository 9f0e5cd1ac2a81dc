pub mod ChainLemmas
pub mod EntryLemmas
pub mod PointerLemmas
pub mod SeatLemmas
pub mod TableLemmas
