pub mod FormLemmas
pub mod FrontLemmas
pub mod PuttingLemmas
pub mod ReadingLemmas
pub mod SplittingLemmas
