pub mod NameLemmas
pub mod ShownLemmas
pub mod RowsLemmas
pub mod TableLemmas
pub mod DamageLemmas
pub mod StatingLemmas
