pub mod Keys
pub mod Keeping
pub mod Creating
