pub mod Counting
pub mod Fuse
pub mod Stopped
pub mod StoppedLaws
