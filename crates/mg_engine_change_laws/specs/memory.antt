-- What an engine keeps in memory for a transaction, and the stages of a call.
pub mod Directories
pub mod KeptTables
pub mod NoteLaws
pub mod Notes
pub mod NotesLaws
pub mod RecordChanges
pub mod Retracted
pub mod RetractedLaws
pub mod StageLaws
pub mod Stages
pub mod WorksBack
pub mod WorksMade
