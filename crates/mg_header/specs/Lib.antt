pub mod HeaderPage
pub mod HeaderPageLaws
