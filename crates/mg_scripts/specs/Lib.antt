pub mod FaultLines
pub mod Printing
pub mod Runs
pub mod Steps
pub mod Ending
pub mod ReadableLaws
