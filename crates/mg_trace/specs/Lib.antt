pub mod Openings
pub mod Putting
pub mod PuttingLaws
pub mod Text
pub mod Trees
pub mod TreeLaws
