pub mod ChangePromises
pub mod LeafLaws
pub mod MoveLaws
pub mod Moves
pub mod NewNodes
pub mod NodeChanges
pub mod Splices
pub mod Splits
