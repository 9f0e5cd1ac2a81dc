pub mod Preparing
pub mod Tested
pub mod Loading
pub mod Finishing
