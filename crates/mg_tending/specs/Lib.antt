pub mod Collecting
pub mod Keyed
pub mod Tending
