pub mod CellLemmas
pub mod DataLemmas
