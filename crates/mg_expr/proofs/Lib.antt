pub mod FaultLemmas
pub mod PartLemmas
pub mod CopyLemmas
pub mod SayingLemmas
