pub mod MemDiskLemmas
mod FaultyDiskLemmas
