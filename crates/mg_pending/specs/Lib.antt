pub mod Transactions
pub mod Statements
pub mod Standing
pub mod TransactionLaws
pub mod AgreeLaws
pub mod StandingLaws
pub mod BeginLaws
