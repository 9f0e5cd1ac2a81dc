-- Entries of indexes that are laid while a row is written, or comes back.
pub mod BackEntries
pub mod BackEntryLaws
pub mod EnterSomeLaws
pub mod EnteredAllLaws
pub mod EntryOverLaws
pub mod EntryStages
