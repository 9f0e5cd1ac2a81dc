pub mod EntryOrderLaws
pub mod EntryTestLaws
pub mod NodePage
pub mod NodeReading
pub mod NodeTestLaws
pub mod NodeTests
pub mod NodeWalk
pub mod NodeWalkLaws
