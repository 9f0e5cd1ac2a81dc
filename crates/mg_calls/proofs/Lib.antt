mod WriteLemmas
mod TableLemmas
mod WalkLemmas
