pub mod CoverLaws
pub mod Covering
pub mod Plans
pub mod Ranges
pub mod Within
pub mod PlannedLaws
