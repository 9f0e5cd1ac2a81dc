mod CoreLemmas
mod KeyLemmas
mod KeepLemmas
mod CreateLemmas
