-- The versions that a record with a key has, as a history says them. No page is here.
use Rattle.std.specs.Prelude.{not, ◌≡◌, ◌≢◌, ℕ, Bool, true, false, ◌==◌, ◌&&◌, ◌||◌, List, [], ◌∷◌, ◌++◌, Option, None, Some, if◌then◌else◌}
use Rattle.mg_base.specs.declared.transaction.TxState.TheVariants.{Dead, Committed}
use Rattle.mg_value.specs.declared.value.Value.{Value}
use Rattle.mg_model.specs.declared.change.Step.{Step}
use Rattle.mg_model.specs.declared.opening.Opening.{Opening}
use Rattle.mg_model.specs.Answers.{Told, changes_key, is_committed, is_open, newest_by, told}
use Rattle.mg_model.specs.Changes.{Cells, has_change, row_at, same_row}
use Rattle.mg_model.specs.History.{Entries}
use Rattle.mg_model.specs.HinderLaws.{stands}
use Rattle.mg_model.specs.Machine.{changes_by, database, opening_rows, opening_state, own, state_of, steps}

-- A version: who wrote it, and the row that it gives, none where it is a deletion.
pub record Generation : Type 0 where
  pub writer : ℕ
  pub row : Option Cells

-- the row that versions show, the newest first, where these transactions count
abbrev pub shown_by : (ℕ → Bool) → List Generation → Option Cells
shown_by counts [] = None
shown_by counts (g ∷ gs) = if counts g.writer then g.row else shown_by counts gs

-- the newest writer of these that passes a test
abbrev pub first_writer : (ℕ → Bool) → List Generation → Option ℕ
first_writer who [] = None
first_writer who (g ∷ gs) = if who g.writer then Some g.writer else first_writer who gs

-- each of these versions has a property
abbrev pub EachGeneration : (Generation → Type 0) → List Generation → Type 0
EachGeneration P [] = Unit {0}
EachGeneration P (g ∷ gs) = P g × EachGeneration P gs

-- each but the newest has it
abbrev pub EachOlder : (Generation → Type 0) → List Generation → Type 0
EachOlder P [] = Unit {0}
EachOlder P (g ∷ gs) = EachGeneration P gs

-- whether the newest of these is a transaction's
abbrev pub is_newest_by : ℕ → List Generation → Bool
is_newest_by t [] = false
is_newest_by t (g ∷ gs) = g.writer == t

-- the row that the newest of these gives
abbrev pub newest_row : List Generation → Option Cells
newest_row [] = None
newest_row (g ∷ gs) = g.row

-- the newest writer of these, where it passes a test
abbrev pub newest_writer_if : (ℕ → Bool) → List Generation → Option ℕ
newest_writer_if who [] = None
newest_writer_if who (g ∷ gs) = if who g.writer then Some g.writer else None

-- the writer of each of these versions had seen the older ones committed; `saw t u` says that u was
-- committed when t took its base
abbrev pub AreSeenInOrder : (ℕ → ℕ → Bool) → List Generation → Type 0
AreSeenInOrder saw [] = Unit {0}
AreSeenInOrder saw (g ∷ gs) =
    EachGeneration (λ older. saw g.writer older.writer ≡ true) gs × AreSeenInOrder saw gs

-- of the steps that change a key of a table and whose transaction passes a test, those of t are the
-- newest
abbrev pub are_on_top : (ℕ → Bool) → List ℕ → Value → ℕ → List Step → Bool
are_on_top who table key t [] = true
are_on_top who table key t (s ∷ all) =
    if changes_key table key s.deed && (who s.by.0 && not (s.by.0 == t))
    then not (has_change (changes_by t all) table key)
    else are_on_top who table key t all

-- a test passes nobody who is dead, and nobody who was committed when the history began
pub record PassesNews (o : Opening) (h : Entries) (who : ℕ → Bool) : Type 0 where
  pub dead : (u : ℕ) → state_of o h u ≡ Dead → who u ≡ false
  pub old : (u : ℕ) → opening_state o u ≡ Committed → who u ≡ false

-- These are the versions that a history says of a key of a table, the newest first, but for those
-- of dead transactions.
pub record AreGenerations (o : Opening) (h : Entries) (table : List ℕ) (key : Value)
    (gs : List Generation) : Type 0 where
  pub alive : EachGeneration (λ g. state_of o h g.writer ≢ Dead) gs
  -- only the newest may be of a transaction that has not ended
  pub backs : EachOlder (λ g. state_of o h g.writer ≡ Committed) gs
  -- it is what the own changes of its transaction say, and no other that has not ended has changed
  -- the key
  pub open_ : (t : ℕ) → is_open (state_of o h t) ≡ true
      → has_change (own o h t) table key ≡ is_newest_by t gs
  pub gives : (t : ℕ) → is_open (state_of o h t) ≡ true → is_newest_by t gs ≡ true
      → same_row (row_at (own o h t) table key) (newest_row gs)
  -- at each moment of the history the database had the row that they show by who was committed
  pub shows : (since before : Entries) → h ≡ since ++ before
      → same_row (row_at (database o before) table key)
      (shown_by (λ u. is_committed (state_of o before u)) gs)
  -- each was written over older ones that its writer saw
  pub order : AreSeenInOrder (told o h).saw gs
  -- nobody who stands wrote the key after a transaction that has not ended
  pub top : (t : ℕ) → is_open (state_of o h t) ≡ true
      → are_on_top (λ u. stands (state_of o h u)) table key t (steps o h) ≡ true
  -- who wrote the key last is the newest of them
  pub newest : (who : ℕ → Bool) → PassesNews o h who
      → newest_by who (changes_key table key) (steps o h) ≡ first_writer who gs

-- these are the versions of a key of a table that a history begins with, the newest first
pub record AreFirst (o : Opening) (table : List ℕ) (key : Value) (gs : List Generation) : Type 0
  where
    pub alive : EachGeneration (λ g. opening_state o g.writer ≢ Dead) gs
    pub backs : EachOlder (λ g. opening_state o g.writer ≡ Committed) gs
    -- the newest is what the transaction in limbo says that has changed the key, if there is one
    pub open_ : (t : ℕ) → is_open (opening_state o t) ≡ true
        → has_change (own o [] t) table key ≡ is_newest_by t gs
    pub gives : (t : ℕ) → is_open (opening_state o t) ≡ true → is_newest_by t gs ≡ true
        → same_row (row_at (own o [] t) table key) (newest_row gs)
    -- the database has the row that they show by who was committed
    pub shows : same_row (row_at (opening_rows o) table key)
        (shown_by (λ u. is_committed (opening_state o u)) gs)

abbrev pub generation : ℕ → Option Cells → Generation
generation writer row = record { writer = writer; row = row }

-- the versions of a key with this row, if it is one, that no known transaction wrote: the system's,
-- whose number is 0
abbrev pub versions_of_row : Option Cells → List Generation
versions_of_row None = []
versions_of_row (Some row) = generation 0 (Some row) ∷ []

-- ---- after a write

-- the versions without the newest, where that is a transaction's
abbrev pub without_newest_by : ℕ → List Generation → List Generation
without_newest_by t [] = []
without_newest_by t (g ∷ gs) = if g.writer == t then gs else g ∷ gs

-- the versions after a transaction gives the key a row, or none: its own newest one is replaced
abbrev pub put : ℕ → Option Cells → List Generation → List Generation
put t row gs = generation t row ∷ without_newest_by t gs

-- ---- who sees a version

-- a transaction sees its own version, and those that were committed when it took its base
abbrev pub sees : Told → ℕ → ℕ → Bool
sees k t u = (u == t) || k.saw t u
