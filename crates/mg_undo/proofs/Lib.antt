mod Steps
mod TouchLemmas
mod Given
mod MachineLemmas
mod PlacesLemmas
mod PlacingLemmas
mod WholeLemmas
