pub mod Hashes
pub mod Candidates
pub mod CandidateLaws
pub mod Chains
pub mod Bounds
