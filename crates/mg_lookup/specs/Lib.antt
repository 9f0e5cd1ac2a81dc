pub mod Along
pub mod AlongLaws
pub mod Enough
pub mod Records
