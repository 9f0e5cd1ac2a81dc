pub mod ForcedLemmas
