mod WorkLemmas
mod StartLemmas
mod SoFar
mod SoFarLemmas
mod StepLemmas
mod AnyLemmas
mod AsideLemmas
mod VisitedLemmas
