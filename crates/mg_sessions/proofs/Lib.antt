mod BeginLemmas
mod OwnLemmas
mod TendingLemmas
