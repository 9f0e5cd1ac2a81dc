pub mod PointerPage
pub mod PointerPageLaws
