pub mod Ends
pub mod Printing
pub mod Reading
pub mod Saying
