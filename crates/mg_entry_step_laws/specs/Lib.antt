pub mod EntryBatchLaws
pub mod EntryMidway
pub mod EntryMidwayLaws
pub mod EntryStays
pub mod EntryStaysLaws
