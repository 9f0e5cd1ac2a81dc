mod NameLemmas
mod PreparingLemmas
mod TestedLemmas
mod LoadingLemmas
mod FinishingLemmas
