pub mod AllowLemmas
pub mod RowLemmas
pub mod CatalogLemmas
pub mod IndexLemmas
pub mod SaidLemmas
pub mod TextLemmas
pub mod IndexRowLemmas
