mod DropLemmas
mod EveryLemmas
mod PlaceLemmas
