-- What is stored of the transactions that have not ended: each base has room for the next one.
use Rattle.std.specs.Prelude.{◌≤◌, ℕ, Bool, not, ◌==◌, List, [], ◌∷◌, map, Option, Some, None}
use Rattle.mg_snap.specs.Live.{Entered, Snapshot}

-- a base, with the number of transactions for which it has room
pub record Roomy : Type 0 where
  pub snapshot : Snapshot
  pub room : ℕ

-- a transaction that has not ended, with its base if it has one
pub record Stored : Type 0 where
  pub number : ℕ
  pub base : Option Roomy

-- what a base sees, if there is one
abbrev pub snapshot_of : Option Roomy → Option Snapshot
snapshot_of None = None
snapshot_of (Some base) = Some base.snapshot

-- an entry without what is said of its room
abbrev pub entered_of : Stored → Entered
entered_of e = record { number = e.number; base = snapshot_of e.base }

abbrev pub all_entered : List Stored → List Entered
all_entered es = map entered_of es

-- a number is another one
abbrev pub is_other : ℕ → ℕ → Bool
is_other t number = not (number == t)

-- an entry is of another transaction
abbrev pub has_other_number : ℕ → Stored → Bool
has_other_number t e = not (e.number == t)

-- a base, if there is one, has room for so many
abbrev pub IsWide : ℕ → Option Roomy → Type 0
IsWide count None = Unit {0}
IsWide count (Some base) = count ≤ base.room

-- each base has room for so many transactions
abbrev pub AreWide : ℕ → List Stored → Type 0
AreWide count [] = Unit {0}
AreWide count (e ∷ es) = IsWide count e.base × AreWide count es
