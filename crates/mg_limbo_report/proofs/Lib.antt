pub mod DamageLemmas
pub mod TellingLemmas
