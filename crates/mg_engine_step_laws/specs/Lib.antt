pub mod backs
pub mod commits
pub mod reads
pub mod standing
pub mod tables
pub mod tables_back
pub mod writes
