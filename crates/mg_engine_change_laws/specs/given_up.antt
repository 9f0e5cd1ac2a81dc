-- Taking back stops in the middle, and the transaction is rolled back.
pub mod BackStops
pub mod BackStopsLaws
pub mod Dying
pub mod EngineGivenUp
pub mod FailedLaws
pub mod GivenUp
pub mod GivenUpLaws
pub mod ShortLaws
pub mod Stopped
pub mod StoppedLaws
pub mod Stopping
pub mod StopsAfter
pub mod StopsAfterLaws
