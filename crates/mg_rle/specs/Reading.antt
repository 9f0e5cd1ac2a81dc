-- How far a packed text is read, and which run may come next.
use Rattle.std.specs.Prelude.{◌≡◌, ◌≢◌, ℕ, ◌+◌, ◌<◌, ◌≤◌, ◌==◌, true, false, List, [], ◌∷◌, ◌++◌, length, take, drop, if◌then◌else◌}
use Rattle.std.proofs.Common.{get_or}
use Rattle.mg_base.specs.Fields.{byte}
use Rattle.mg_rle.specs.declared.run.TheConstants.{MOST_LITERAL, MOST_REPEAT}
use Rattle.mg_rle.specs.declared.fault.RunFault.{RunFault}
use Rattle.mg_rle.specs.declared.fault.RunFault.TheVariants as faults
use Rattle.mg_rle.specs.declared.reading.Control.{Control}
use Rattle.mg_rle.specs.declared.reading.Control.TheVariants as controls
use Rattle.mg_rle.specs.declared.reading.Next.{Next}
use Rattle.mg_rle.specs.declared.reading.Next.TheVariants as nexts
use Rattle.mg_rle.specs.declared.reading.Reader.{Reader}
use Rattle.mg_rle.specs.Runs.{Run, Literal, Repeat, TripleAt, IsSized, IsAccepted, BreaksAt, StandsFor, bytes_of_run, plain_of_run, packed_text, plain_text, literal_marks}

-- the new list is the old one with the plain text of the packed one at its end
pub record AppendsPlain (old new packed : List ℕ) : Type 0 where
  pub plain : List ℕ
  pub stands : StandsFor packed plain
  pub appended : new ≡ old ++ plain

-- why a packed text is refused: a run that breaks the rule, the first such one
abbrev pub Refuses : List ℕ → RunFault → Type 0
Refuses packed (faults.BadRun at) = BreaksAt packed at
Refuses packed faults.Memory = Unit {0}

-- the run that a control byte announces, where rest begins with that byte
abbrev pub run_in : Control → List ℕ → Run
run_in (controls.Literal count) rest = Literal (take count (drop 1 rest))
run_in (controls.Repeat count) rest = Repeat count (byte rest 1)

-- a run of a lawful length is the first thing in a packed text
pub record BeginsWith (run : Run) (rest : List ℕ) : Type 0 where
  pub sized : IsSized run
  pub front : rest ≡ bytes_of_run run ++ drop (length (bytes_of_run run)) rest

-- the control byte and all that it announces stand at the front
abbrev pub IsWhole : Control → List ℕ → Type 0
IsWhole (controls.Literal count) rest = count < length rest
IsWhole (controls.Repeat count) rest = 1 < length rest

-- a packed text begins with the run that the control byte announces
pub record Announces (control : Control) (rest : List ℕ) : Type 0 where
  pub whole : IsWhole control rest
  pub begins : BeginsWith (run_in control rest) rest

-- no run of a lawful length is the first thing in a packed text
abbrev pub BeginsWithNone : List ℕ → Type 0
BeginsWithNone rest = (run : Run) (more : List ℕ)
    → IsSized run → rest ≡ bytes_of_run run ++ more → ⊥

-- a run may come next
abbrev pub Allows : Next → Run → Type 0
Allows nexts.Any run = Unit {0}
Allows nexts.Repeated (Literal bytes) = ⊥
Allows nexts.Repeated (Repeat count same) = Unit {0}
Allows (nexts.Unlike last) run = byte (plain_of_run run) 0 ≢ last

-- what may come behind a run
abbrev pub next_after : Run → Next
next_after (Literal bytes) = if length bytes == MOST_LITERAL then nexts.Any else nexts.Repeated
next_after (Repeat count same) = if count == MOST_REPEAT then nexts.Any else nexts.Unlike same

-- what may come behind these runs
abbrev pub next_of : List Run → Next
next_of [] = nexts.Any
next_of (run ∷ []) = next_after run
next_of (run ∷ next ∷ later) = next_of (next ∷ later)

-- three equal bytes stand at or behind one place, and before another
pub record SomeTriple (bytes : List ℕ) (from end : ℕ) : Type 0 where
  pub at : ℕ
  pub low : from ≤ at
  pub high : at + 2 < end
  pub triple : TripleAt bytes at

-- no three equal bytes stand at or behind one place, and before another
abbrev pub NoTriple : List ℕ → ℕ → ℕ → Type 0
NoTriple bytes from end = (at : ℕ) → from ≤ at → at + 2 < end → TripleAt bytes at → ⊥

-- the place behind the last byte before which three equal bytes can have come up with a run, where
-- len bytes stand before it
abbrev pub end_of_new : Control → ℕ → ℕ
end_of_new (controls.Literal count) len = len + count
end_of_new (controls.Repeat count) len = len + 2

-- the reader behind one more run, where len bytes are unpacked before it
abbrev pub reader_after : Reader → Run → ℕ → Reader
reader_after reader (Literal bytes) len =
    record reader { at = reader.at + 1 + length bytes; next = next_after (Literal bytes) }
reader_after reader (Repeat count same) len =
    record reader { at = reader.at + 2; next = next_after (Repeat count same); literals = len + count }

-- The packed text is read up to a place, and what was read is accepted and stands behind what was
-- in the list before.
pub record HasRead (packed : List ℕ) (reader : Reader) (out : List ℕ) : Type 0 where
  pub runs : List Run
  pub rest : List ℕ
  pub front : List ℕ
  pub parts : packed ≡ packed_text runs ++ rest
  pub place : reader.at ≡ length (packed_text runs)
  pub accepted : IsAccepted runs
  pub unpacked : out ≡ front ++ plain_text runs
  pub start : reader.start ≡ length front
  pub next : reader.next ≡ next_of runs
  pub low : reader.start ≤ reader.literals
  pub high : reader.literals ≤ length out
  -- of the last two bytes those from `literals` on are bytes of literals, and no others
  pub are_literals : (at : ℕ) → at < length (plain_text runs) → length (plain_text runs) ≤ at + 2
      → reader.literals ≤ reader.start + at → get_or (literal_marks runs) at false ≡ true
  pub no_others : (at : ℕ) → at < length (plain_text runs) → length (plain_text runs) ≤ at + 2
      → get_or (literal_marks runs) at false ≡ true → reader.literals ≤ reader.start + at
