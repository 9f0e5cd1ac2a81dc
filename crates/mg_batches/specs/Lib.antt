pub mod Batches
pub mod BatchLaws
