pub mod HeaderLemmas
pub mod UndrawnLemmas
