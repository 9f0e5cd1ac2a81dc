pub mod Chains
pub mod DropTies
pub mod TakeTies
