pub mod Walks
pub mod Marks
pub mod Reads
pub mod Records
pub mod WalkLaws
pub mod Listing
