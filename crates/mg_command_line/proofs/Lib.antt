pub mod PlainWords
pub mod Orders
