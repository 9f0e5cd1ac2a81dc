pub mod TableRung
pub mod FewPlaces
pub mod Seats
pub mod DataPageLaws
