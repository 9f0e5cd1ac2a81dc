mod AllLemmas
mod BearingLemmas
mod ListLemmas
mod NeededLemmas
mod RowLemmas
mod RunLemmas
mod SoundLemmas
mod StartLemmas
