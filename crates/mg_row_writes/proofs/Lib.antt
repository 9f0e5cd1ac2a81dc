mod StoredLemmas
mod FindLemmas
mod ChangeLemmas
mod LayLemmas
