mod BatchLemmas
mod WholeLemmas
