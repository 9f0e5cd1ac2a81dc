mod Steps
mod RowLemmas
mod TableLemmas
mod CandidateLemmas
mod VisitLemmas
mod SeenLemmas
mod WalkLemmas
