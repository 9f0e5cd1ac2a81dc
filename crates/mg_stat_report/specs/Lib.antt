pub mod StatText
pub mod Telling
