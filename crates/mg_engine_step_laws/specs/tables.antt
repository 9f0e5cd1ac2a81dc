-- Tables that a transaction finds and sees, by the rows of the catalog.
pub mod ChosenTables
pub mod Finding
pub mod FindingLaws
pub mod Found
pub mod FoundLaws
pub mod FoundWhole
pub mod Lawful
pub mod LawfulLaws
pub mod NamedTables
pub mod SameRecords
pub mod Seen
pub mod SeenLaws
pub mod SeenRows
pub mod SeenTables
pub mod TablePages
