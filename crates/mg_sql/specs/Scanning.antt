-- Bytes of one sort that stand one behind another.
use Rattle.std.specs.Prelude.{◌≡◌, ℕ, ◌+◌, nat_lt, ◌<◌, ◌≤◌, Bool, false, true, List, [], ◌∷◌, length, slice_index, nat_eq, if◌then◌else◌, Option, Some, None}
use Rattle.mg_sql.specs.Spelling.{is_letter, is_digit, IsSpelled}
use Rattle.mg_sql.specs.Lexing.{between}
use Rattle.mg_sql.specs.declared.token.Kind.{Kind}
use Rattle.mg_sql.specs.declared.token.Kind.TheVariants as kinds

-- From one place to another each byte passes the test, and none stands behind that does.
pub record Runs (test : ℕ → Bool) (text : List ℕ) (from to : ℕ) : Type 0 where
  pub order : from ≤ to
  pub inside : to ≤ length text
  pub each : (at : ℕ) → from ≤ at → at < to → test (slice_index text at) ≡ true
  pub ended : to < length text → test (slice_index text to) ≡ false

-- what a table has for a byte
abbrev pub lookup : ℕ → List (ℕ × Kind) → Option Kind
lookup c [] = None
lookup c (e ∷ es) = if nat_eq c e.0 then Some e.1 else lookup c es

-- the symbols of one byte
abbrev pub symbols : List (ℕ × Kind)
symbols = (40, kinds.Open) ∷ (41, kinds.Close) ∷ (44, kinds.Comma) ∷ (59, kinds.Semicolon) ∷ (42, kinds.Star) ∷ (43, kinds.Plus) ∷ (45, kinds.Minus) ∷ (47, kinds.Slash) ∷ (61, kinds.Equal) ∷ (60, kinds.Less) ∷ (62, kinds.Greater) ∷ []

-- which symbol one byte is, and two bytes are
abbrev pub single_of : ℕ → Option Kind
single_of c = lookup c symbols

abbrev pub pair_of : ℕ → ℕ → Option Kind
pair_of a b = if nat_eq a 60 then lookup b ((62, kinds.Unequal) ∷ (61, kinds.AtMost) ∷ []) else (if nat_eq a 62 then lookup b ((61, kinds.AtLeast) ∷ []) else None)

abbrev pub pair_at : List ℕ → ℕ → Option Kind
pair_at text at = if nat_lt (at + 1) (length text) then pair_of (slice_index text at) (slice_index text (at + 1)) else None

-- a byte that no word, number or text begins with
pub record IsOther (c : ℕ) : Type 0 where
  pub letter : is_letter c ≡ false
  pub digit : is_digit c ≡ false
  pub quote : nat_eq c 39 ≡ false

-- the longest text that stands at a place ends before another
pub record IsTextTo (text : List ℕ) (from to : ℕ) : Type 0 where
  pub some : from < to
  pub inside : to ≤ length text
  pub is : IsSpelled kinds.Text (between text from to)
  pub longest : (other : ℕ) → to < other → other ≤ length text → IsSpelled kinds.Text (between text from other) → ⊥

-- no text stands at a place
abbrev pub BeginsNoText : List ℕ → ℕ → Type 0
BeginsNoText text from = (to : ℕ) → from < to → to ≤ length text → IsSpelled kinds.Text (between text from to) → ⊥

-- of the texts that stand at a place and end up to another, the longest
abbrev pub Closed : List ℕ → ℕ → ℕ → Option ℕ → Type 0
Closed text from at None = (to : ℕ) → from < to → to ≤ at → IsSpelled kinds.Text (between text from to) → ⊥
Closed text from at (Some end) = (from < end) × (end ≤ at) × IsSpelled kinds.Text (between text from end)
    × ((to : ℕ) → end < to → to ≤ at → IsSpelled kinds.Text (between text from to) → ⊥)
