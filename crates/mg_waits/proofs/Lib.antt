mod Ways
mod MachineLemmas
