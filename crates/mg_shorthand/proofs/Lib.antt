mod GoingLemmas
mod NameLemmas
mod PutLemmas
mod TreeLemmas
mod GetLemmas
mod ValueLemmas
mod ReadingLemmas
