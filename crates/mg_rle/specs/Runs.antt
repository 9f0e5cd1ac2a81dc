-- Packed texts: runs, what they stand for, and which lists of them are accepted.
use Rattle.std.specs.Prelude.{◌≡◌, ◌≢◌, ℕ, ◌+◌, ◌-◌, ◌<◌, ◌≤◌, Bool, true, false, List, [], ◌∷◌, ◌++◌, length, replicate}
use Rattle.std.proofs.Common.{get_or}
use Rattle.std.specs.List.{flat_map}
use Rattle.mg_base.specs.Fields.{byte}
use Rattle.mg_rle.specs.declared.run.TheConstants.{MOST_LITERAL, LEAST_REPEAT, MOST_REPEAT}

-- a run: bytes that stand for themselves, or so many times one byte
pub data Run : Type 0 where
  Literal : List ℕ → Run
  Repeat : ℕ → ℕ → Run

-- the bytes of a run in the packed text: a control byte and what is behind it
abbrev pub bytes_of_run : Run → List ℕ
bytes_of_run (Literal bytes) = length bytes ∷ bytes
bytes_of_run (Repeat count byte) = (256 - count) ∷ byte ∷ []

-- the bytes that a run stands for
abbrev pub plain_of_run : Run → List ℕ
plain_of_run (Literal bytes) = bytes
plain_of_run (Repeat count byte) = replicate count byte

-- for each byte that a run stands for, whether it is a byte of a literal
abbrev pub marks_of_run : Run → List Bool
marks_of_run (Literal bytes) = replicate (length bytes) true
marks_of_run (Repeat count byte) = replicate count false

-- the packed text that the runs make
abbrev pub packed_text : List Run → List ℕ
packed_text runs = flat_map bytes_of_run runs

-- the plain text that the runs stand for
abbrev pub plain_text : List Run → List ℕ
plain_text runs = flat_map plain_of_run runs

-- for each byte of the plain text, whether it is a byte of a literal
abbrev pub literal_marks : List Run → List Bool
literal_marks runs = flat_map marks_of_run runs

-- three equal bytes begin at a place
pub record TripleAt (bytes : List ℕ) (at : ℕ) : Type 0 where
  pub inside : at + 2 < length bytes
  pub second : byte bytes (at + 1) ≡ byte bytes at
  pub third : byte bytes (at + 2) ≡ byte bytes at

-- a run has a lawful length: no control byte is 0, 254 or 255
abbrev pub IsSized : Run → Type 0
IsSized (Literal bytes) = (0 < length bytes) × (length bytes ≤ MOST_LITERAL)
IsSized (Repeat count byte) = (LEAST_REPEAT ≤ count) × (count ≤ MOST_REPEAT)

-- A run may stand before another: behind a literal that could go on comes no literal, and behind a
-- repeat that could go on doesn't come the same byte.
abbrev pub MayPrecede : Run → Run → Type 0
MayPrecede (Literal bytes) (Literal others) = length bytes ≡ MOST_LITERAL
MayPrecede (Literal bytes) (Repeat count byte) = Unit {0}
MayPrecede (Repeat count same) next = count < MOST_REPEAT → byte (plain_of_run next) 0 ≢ same

-- a run may stand before the first of these
abbrev pub MayPrecedeAll : Run → List Run → Type 0
MayPrecedeAll run [] = Unit {0}
MayPrecedeAll run (next ∷ later) = MayPrecede run next

-- each run has a lawful length, and may stand before the next
abbrev pub AreInOrder : List Run → Type 0
AreInOrder [] = Unit {0}
AreInOrder (run ∷ later) = IsSized run × MayPrecedeAll run later × AreInOrder later

-- the rule: the runs are in order, and at no byte of a literal three equal bytes of the plain text
-- begin
pub record IsAccepted (runs : List Run) : Type 0 where
  pub in_order : AreInOrder runs
  pub no_triple : (at : ℕ) → get_or (literal_marks runs) at false ≡ true
      → TripleAt (plain_text runs) at → ⊥

-- a packed text is accepted, and stands for this plain text
pub record StandsFor (packed plain : List ℕ) : Type 0 where
  pub runs : List Run
  pub accepted : IsAccepted runs
  pub spelled : packed ≡ packed_text runs
  pub means : plain ≡ plain_text runs

-- The first run that breaks the rule begins at this place of a packed text: the runs before it are
-- accepted, and together with a run that begins there, if there is one, they are not.
pub record BreaksAt (packed : List ℕ) (at : ℕ) : Type 0 where
  pub before : List Run
  pub rest : List ℕ
  pub parts : packed ≡ packed_text before ++ rest
  pub place : at ≡ length (packed_text before)
  pub accepted : IsAccepted before
  pub some : 0 < length rest
  pub breaks : (run : Run) (more : List ℕ) → rest ≡ bytes_of_run run ++ more
      → IsAccepted (before ++ run ∷ []) → ⊥
