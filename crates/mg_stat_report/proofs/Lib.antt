mod LookingLemmas
mod TellingLemmas
