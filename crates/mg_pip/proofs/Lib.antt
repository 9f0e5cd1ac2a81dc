pub mod PipPageLemmas
