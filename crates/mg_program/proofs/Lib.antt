mod ServingLemmas
mod RunLemmas
mod TopLemmas
mod ListingLemmas
mod CompleteLemmas
mod AcknowledgedLemmas
