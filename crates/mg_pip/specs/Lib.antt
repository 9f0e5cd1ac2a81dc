pub mod PipPage
pub mod PipPageLaws
