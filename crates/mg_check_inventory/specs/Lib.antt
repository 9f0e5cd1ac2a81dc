pub mod ImagePages
pub mod InventoryRung
pub mod TestLaws
pub mod TransactionRung
