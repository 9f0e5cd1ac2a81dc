pub mod EachLemmas
pub mod SumLemmas
pub mod RowLemmas
pub mod FilterLemmas
pub mod SelectLemmas
pub mod GatherLemmas
