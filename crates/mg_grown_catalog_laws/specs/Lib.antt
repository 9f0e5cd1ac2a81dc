pub mod Grown
pub mod GrownLaws
pub mod MadeOnce
pub mod MadeOnceLaws
pub mod Together
pub mod TogetherLaws
