pub mod Every
pub mod Places
