mod ReadLemmas
mod RowLemmas
mod BatchLemmas
