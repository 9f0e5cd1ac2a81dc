-- The fuse of a disk: how many page writes pass, how many have passed, and how often it has refused one.
use Rattle.std.specs.Prelude.{◌≡◌, ◌<◌, ◌≤◌, ℕ}

pub record IsFuse (most passed blown : ℕ) : Type 0 where
  pub within : passed ≤ most
  pub spent : 0 < blown → passed ≡ most
