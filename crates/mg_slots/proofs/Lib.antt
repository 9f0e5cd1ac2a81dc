pub mod CheckLemmas
pub mod LaidLemmas
pub mod NewPageLemmas
pub mod RewriteLemmas
