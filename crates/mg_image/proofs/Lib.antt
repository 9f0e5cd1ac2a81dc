pub mod OneRowLemmas
