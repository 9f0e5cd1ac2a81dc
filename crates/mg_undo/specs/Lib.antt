pub mod Undo
pub mod Places
pub mod Placing
pub mod Machine
pub mod Whole
