pub mod Waits
pub mod Machine
