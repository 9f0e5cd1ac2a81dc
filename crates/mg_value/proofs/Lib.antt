pub mod PrintingLemmas
pub mod NameLemmas
pub mod ShapeLemmas
