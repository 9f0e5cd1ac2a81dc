mod CollectLemmas
mod MakingLemmas
