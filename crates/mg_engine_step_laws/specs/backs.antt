-- Changes that are taken back, key by key.
pub mod Again
pub mod BackLaws
pub mod DeadLaws
pub mod DeadMidway
pub mod DeadRows
pub mod DeadRowsLaws
pub mod EngineBack
pub mod GivenUp
pub mod KeyLaws
pub mod Midway
pub mod MidwayLaws
pub mod OutLaws
pub mod Shown
pub mod ShownEnd
pub mod ShownSteps
pub mod ToldBack
