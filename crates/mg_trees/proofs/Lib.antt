pub mod ChainLemmas
pub mod PageLemmas
pub mod RefusalLemmas
pub mod TreeLemmas
pub mod EntryLemmas
pub mod SearchLemmas
