-- How a disk counts page writes.
use Rattle.std.specs.Prelude.{◌≡◌, ◌⊎◌, ℕ, ◌+◌, ◌≤◌, min}
use Rattle.mg_base.specs.Disk.{Meaning}

-- one page write more is counted; a count that stands at its end stays there
abbrev pub CountsUpTo : ℕ → ℕ → ℕ → Type 0
CountsUpTo end before now = (now ≡ before + 1) ⊎ ((end ≤ before) × (now ≡ before))

-- a disk was asked for at most so many page writes, as far as it counts, which is up to this end
abbrev pub AsksAtMost : {D : Type 0} → Meaning D → ℕ → ℕ → D → D → Type 0
AsksAtMost m end most old new = min (m.asked new) end ≤ m.asked old + most

-- it was asked for exactly so many, as far as it counts
abbrev pub AsksExactly : {D : Type 0} → Meaning D → ℕ → ℕ → D → D → Type 0
AsksExactly m end most old new = min (m.asked new) end ≡ min (m.asked old + most) end
