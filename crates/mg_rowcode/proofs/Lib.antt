pub mod BitLemmas
pub mod NullLemmas
pub mod ValueLemmas
pub mod RowLemmas
pub mod LawLemmas
pub mod PutLemmas
pub mod StorableLemmas
