pub mod HeaderLemmas
pub mod LimboLemmas
pub mod TipsLemmas
