-- What calls tell of the disk's faults, and what they ask of the disk.
pub mod Asked
pub mod AskedLaws
pub mod FaultBackLaws
pub mod FaultCallLaws
pub mod FaultCoreLaws
pub mod FaultMakingLaws
pub mod FaultPageLaws
pub mod FaultTableBackLaws
pub mod FaultWriteLaws
pub mod Overlays
pub mod Told
