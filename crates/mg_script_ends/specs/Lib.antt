pub mod Ends
pub mod CauseLaws
pub mod ToldLaws
