pub mod TipPage
pub mod TipPageLaws
