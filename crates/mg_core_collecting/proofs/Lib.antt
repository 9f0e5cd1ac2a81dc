mod EveryLemmas
mod LookLemmas
mod PlaceLemmas
