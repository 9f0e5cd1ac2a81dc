pub mod Texts
pub mod Values
pub mod Names
pub mod Rows
pub mod OrderLaws
