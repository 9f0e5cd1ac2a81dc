-- Transactions that begin and are committed, and page writes.
pub mod BeginLaws
pub mod Begins
pub mod CommitLaws
pub mod Commits
pub mod DrawnLists
pub mod DrawnPages
pub mod FailLaws
pub mod Idle
pub mod IdleLaws
pub mod ListShows
pub mod PageWriteLaws
pub mod PageWrites
pub mod TipPages
pub mod Unasked
