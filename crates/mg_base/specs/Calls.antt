-- Calls that are counted, of which listed ones fail.
use Rattle.std.specs.Prelude.{ℕ, ◌+◌, ◌-◌, ◌^◌, min, List, Contains}

-- the number of the next call; the count stands still at its type's end
abbrev pub next_call : ℕ → ℕ
next_call calls = min (calls + 1) (2 ^ 32 - 1)

-- the next call is one of those that fail
abbrev pub IsListed : List ℕ → ℕ → Type 0
IsListed bad calls = Contains bad (next_call calls)
