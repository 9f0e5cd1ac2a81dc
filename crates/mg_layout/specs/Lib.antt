pub mod Choices
pub mod HasPages
pub mod LayoutLaws
pub mod Refusals
pub mod Standing
pub mod TreeLaws
