pub mod Orphans
