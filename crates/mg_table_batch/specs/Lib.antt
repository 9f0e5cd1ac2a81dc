pub mod Filling
pub mod Refusals
pub mod Making
