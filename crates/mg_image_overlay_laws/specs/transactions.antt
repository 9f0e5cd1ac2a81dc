-- Transactions that begin, are committed and end, and their bits.
pub mod Begins
pub mod Bits
pub mod BitsKept
pub mod CommitHeld
pub mod CommitLaws
pub mod CommitSound
pub mod EndLaws
pub mod Midway
pub mod MidwayLaws
pub mod PageLaws
