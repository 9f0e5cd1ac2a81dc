-- What packing adds to a list of bytes.
use Rattle.std.specs.Prelude.{◌≡◌, ◌≢◌, ℕ, ◌<◌, ◌≤◌, List, ◌++◌, length, take, drop}
use Rattle.mg_base.specs.Fields.{byte}
use Rattle.mg_rle.specs.declared.run.TheConstants.{MOST_LITERAL, LEAST_REPEAT, MOST_REPEAT}
use Rattle.mg_rle.specs.Runs.{Run, Literal, Repeat, TripleAt, StandsFor, bytes_of_run, plain_of_run}

-- the new list is the old one with a packed text of the plain one at its end
pub record AppendsPacked (old new plain : List ℕ) : Type 0 where
  pub packed : List ℕ
  pub stands : StandsFor packed plain
  pub appended : new ≡ old ++ packed

-- the list has grown at its end, if it has changed
abbrev pub KeepsFront : List ℕ → List ℕ → Type 0
KeepsFront old new = take (length old) new ≡ old

-- The writer's rule: with which run it begins, where rest is what the run leaves of the plain text.
abbrev pub IsFirstRun : Run → List ℕ → Type 0
IsFirstRun (Literal bytes) rest =
    (0 < length bytes) × (length bytes ≤ MOST_LITERAL)
    × ((at : ℕ) → at < length bytes → TripleAt (bytes ++ rest) at → ⊥)
    × (length bytes < MOST_LITERAL → 0 < length rest → TripleAt rest 0)
IsFirstRun (Repeat count same) rest =
    (LEAST_REPEAT ≤ count) × (count ≤ MOST_REPEAT)
    × (count < MOST_REPEAT → 0 < length rest → byte rest 0 ≢ same)

-- as many equal bytes stand at the front, and no more, unless they are as many as a repeat takes
pub record IsFrontRepeat (plain : List ℕ) (count : ℕ) : Type 0 where
  pub some : 0 < count
  pub inside : count ≤ length plain
  pub most : count ≤ MOST_REPEAT
  pub same : (at : ℕ) → at < count → byte plain at ≡ byte plain 0
  pub ended : count < MOST_REPEAT → count < length plain → byte plain count ≢ byte plain 0

-- At so many bytes at the front no three equal ones begin. They go to where some do or to the end,
-- unless they are as many as a literal takes.
pub record IsFrontLiteral (plain : List ℕ) (count : ℕ) : Type 0 where
  pub inside : count ≤ length plain
  pub most : count ≤ MOST_LITERAL
  pub no_triple : (at : ℕ) → at < count → TripleAt plain at → ⊥
  pub ended : count < MOST_LITERAL → count < length plain → TripleAt plain count

-- the new list is the old one with the first run of the plain text, which stands for so many bytes
pub record PutsRun (old new plain : List ℕ) (count : ℕ) : Type 0 where
  pub run : Run
  pub some : 0 < count
  pub inside : count ≤ length plain
  pub front : plain ≡ plain_of_run run ++ drop count plain
  pub first : IsFirstRun run (drop count plain)
  pub appended : new ≡ old ++ bytes_of_run run
