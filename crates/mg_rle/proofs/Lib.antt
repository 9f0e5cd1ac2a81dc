pub mod RunLemmas
pub mod WritingLemmas
pub mod WriterLemmas
pub mod ReadingLemmas
