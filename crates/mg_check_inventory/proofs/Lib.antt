pub mod InventoryLemmas
pub mod PlaceLemmas
pub mod TipLemmas
pub mod TransactionLemmas
pub mod UsedLemmas
