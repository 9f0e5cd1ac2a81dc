pub mod KeyBytes
pub mod KeyLaws
pub mod KeyOrder
pub mod NumberLaws
pub mod TextLaws
