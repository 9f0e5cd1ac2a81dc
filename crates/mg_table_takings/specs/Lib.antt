pub mod Keys
pub mod Takings
