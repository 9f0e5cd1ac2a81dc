pub mod Finding
pub mod Befores
pub mod Storing
pub mod Changing
pub mod Laying
pub mod Bare
pub mod BareLaws
