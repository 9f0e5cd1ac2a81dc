pub mod Noting
pub mod Formers
pub mod Keys
pub mod Changes
pub mod Taking
pub mod Tables
pub mod TakingLaws
pub mod CoreLaws
