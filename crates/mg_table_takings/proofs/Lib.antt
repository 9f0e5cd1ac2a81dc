mod KeyLemmas
mod OtherLemmas
mod PointLemmas
mod RowLemmas
