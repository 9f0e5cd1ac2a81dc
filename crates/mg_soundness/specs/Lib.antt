pub mod Joined
pub mod IndexRule
pub mod OwnRule
pub mod NewCatalog
pub mod Rungs
pub mod Ladder
