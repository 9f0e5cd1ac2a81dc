-- What a transaction sees of a record is what the history machine says.
use Rattle.std.specs.Prelude.{◌≡◌, ℕ, ◌&&◌, Bool, true, false, List, [], ◌∷◌, Option, Some, None, if◌then◌else◌}
use Rattle.mg_base.specs.declared.transaction.TxState.{TxState}
use Rattle.mg_base.specs.declared.transaction.TxState.TheVariants.{Active, Limbo, Dead, Committed}
use Rattle.mg_value.specs.declared.value.Value.{Value}
use Rattle.mg_generation_laws.specs.Generations.{Generation, AreGenerations, generation}
use Rattle.mg_image.specs.Records.{shown, writer}
use Rattle.mg_image.specs.declared.entry.Entry.{Entry}
use Rattle.mg_model.specs.Answers.{is_committed, is_open, told}
use Rattle.mg_model.specs.Changes.{Cells, same_row, row_at}
use Rattle.mg_model.specs.History.{Entries}
use Rattle.mg_model.specs.Machine.{state_of, view}
use Rattle.mg_model.specs.declared.opening.Opening.{Opening}
use Rattle.mg_snap.specs.Live.{State, sees}
use Rattle.mg_chain.specs.Chains.{first_taken, takes_version}

-- a transaction is dead
abbrev pub is_dead : TxState → Bool
is_dead Active = false
is_dead Limbo = false
is_dead Dead = true
is_dead Committed = false

-- the row that a version gives, none where it is a deletion
abbrev pub row_given : Entry → Option Cells
row_given e = if e.version.deleted then None else Some e.row

-- the versions of a record, but for those of dead transactions, as a history says them
abbrev pub generations_in : (ℕ → TxState) → List Entry → List Generation
generations_in state [] = []
generations_in state (e ∷ es) =
    if is_dead (state (writer e)) then generations_in state es
    else generation (writer e) (row_given e) ∷ generations_in state es

-- the first of these versions whose writer passes a test
abbrev pub first_entry : (ℕ → Bool) → List Entry → Option Entry
first_entry takes [] = None
first_entry takes (e ∷ es) = if takes (writer e) then Some e else first_entry takes es

-- the base of a transaction sees of those that are committed exactly the ones that were so when it
-- was taken
abbrev pub BaseIsTold : Opening → Entries → State → ℕ → Type 0
BaseIsTold o h live t = (u : ℕ)
    → (is_committed (state_of o h u) && sees live t u) ≡ (told o h).saw t u

-- Where the versions of a record are those that a history says of a key, the first one that a
-- transaction takes gives the row that its view has at the key.
abbrev pub SeesItsView : Type 0
SeesItsView = (o : Opening) (h : Entries) (table : List ℕ) (key : Value) (es : List Entry)
    (live : State) (t : ℕ) → AreGenerations o h table key (generations_in (state_of o h) es)
    → is_open (state_of o h t) ≡ true → BaseIsTold o h live t
    → same_row (row_at (view o h t) table key) (shown (takes_version (state_of o h) live t) es)

-- the first of these versions that is taken gives the row that is shown; where it is a deletion, or
-- there is none, no row is
pub record FoundIsShown : Type 0 where
  pub row : (takes : ℕ → Bool) (es : List Entry) (e : Entry) → first_entry takes es ≡ Some e
      → (first_taken takes es ≡ Some e.version) × (shown takes es ≡ row_given e)
  pub none : (takes : ℕ → Bool) (es : List Entry) → first_entry takes es ≡ None
      → (first_taken takes es ≡ None) × (shown takes es ≡ None)
