pub mod Laws
pub mod Lines
pub mod Spelling
pub mod Texts
pub mod Transcript
