pub mod Building
pub mod Making
pub mod MakingLaws
