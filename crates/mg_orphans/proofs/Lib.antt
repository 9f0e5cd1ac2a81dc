pub mod OrphanLemmas
