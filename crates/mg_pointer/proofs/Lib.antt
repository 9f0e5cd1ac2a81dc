pub mod PointerPageLemmas
