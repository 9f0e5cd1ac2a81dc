pub mod KeyEntries
pub mod Laws
pub mod KeyLaws
pub mod LivingRowLaws
pub mod KeptEntries
pub mod KeptEntriesLaws
