pub mod EveryRoom
pub mod Room
