pub mod TipPageLemmas
