pub mod ReleaseLemmas
