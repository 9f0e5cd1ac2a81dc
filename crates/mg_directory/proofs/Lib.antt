pub mod ChainLemmas
pub mod TableLemmas
