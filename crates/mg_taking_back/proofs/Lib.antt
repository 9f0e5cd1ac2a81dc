mod ReadLemmas
mod KeyLemmas
mod ChangeLemmas
mod NotedLemmas
mod TableLemmas
