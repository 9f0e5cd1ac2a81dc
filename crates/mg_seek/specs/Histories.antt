-- What is found of a key, in the terms of the history machine.
use Rattle.std.specs.Prelude.{◌≡◌, ◌⊎◌, ◌↔◌, ℕ, true, List, [], map, Option, None, Some, IfSome, if◌then◌else◌}
use Rattle.mg_base.specs.declared.numbers.RecId.{RecId}
use Rattle.mg_base.specs.declared.numbers.TxNo.{TxNo}
use Rattle.mg_base.specs.declared.transaction.TxState.{TxState}
use Rattle.mg_chain.specs.Bases.{StandsFor}
use Rattle.mg_chain.specs.Views.{BaseIsTold}
use Rattle.mg_heap.specs.Table.{IsTable}
use Rattle.mg_generation_laws.specs.Generations.{Generation, generation}
use Rattle.mg_generation_laws.specs.Kept.{IsErasedForAll, IsSeenByAll, StandFor}
use Rattle.mg_image.specs.Form.{Pages, Row, packed_coding}
use Rattle.mg_image.specs.Held.{told_row}
use Rattle.mg_image.specs.RecordRules.{AreRecords, Facts, table_in}
use Rattle.mg_image.specs.Records.{Reading, cells_of, record_key, writer}
use Rattle.mg_image.specs.Tables.{Has}
use Rattle.mg_image.specs.declared.entry.Entry.{Entry}
use Rattle.mg_image_overlay_laws.specs.records.Fronts.{is_dead, living}
use Rattle.mg_model.specs.Answers.{is_active, obstacle, told}
use Rattle.mg_model.specs.Changes.{row_at, same_row}
use Rattle.mg_model.specs.History.{Entries}
use Rattle.mg_model.specs.Legal.{IsLegal, MayBegin}
use Rattle.mg_model.specs.Machine.{state_of, view}
use Rattle.mg_model.specs.declared.opening.Opening.{Opening}
use Rattle.mg_model.specs.declared.table.Table.{Table}
use Rattle.mg_snap.specs.Live.{State, all_see}
use Rattle.mg_value.specs.declared.value.Value.{Value}
use Rattle.mg_seek.specs.declared.views.Obstacle.{Obstacle}
use Rattle.mg_seek.specs.Readings.{IsReadAt}
use Rattle.mg_seek.specs.Speaking.{IsSpeaker}
use Rattle.mg_seek.specs.Views.{IsObstacle, IsRowSeen}

-- a row as a history has it, if there is one: page numbers of the catalog's rows do not count
abbrev pub told_if : Table → Option Row → Option Row
told_if table None = None
told_if table (Some row) = Some (told_row table row)

-- the row that a version gives as a history has it, none where it is a deletion
abbrev pub told_given : Table → Entry → Option Row
told_given table e = if e.version.deleted then None else Some (told_row table e.row)

-- versions as a history says them
abbrev pub told_all : Table → List Entry → List Generation
told_all table es = map (λ e. generation (writer e) (told_given table e)) es

-- those versions of a record that count
abbrev pub told_versions : (ℕ → TxState) → Table → List Entry → List Generation
told_versions state table es = told_all table (living state es)

-- The records of an image are read by facts in which each transaction is dead that the history has as
-- dead, and no other: an active one may count there as one in limbo.
abbrev pub DieAlike : Opening → Entries → Facts → Type 0
DieAlike o h f = (u : ℕ) → is_dead (f.state u) ≡ is_dead (state_of o h u)

-- Where the versions of a record stand for those that a history says of a key, an active transaction
-- sees of the record the row that its view has at the key.
abbrev pub RowsAreOfViews : Type 0
RowsAreOfViews = (o : Opening) (h : Entries) (live : State) (t : TxNo) (pages : Pages) (table : Table)
    (key : Value) (rec : RecId) (row : Option Row) (f : Facts) (r : Reading)
    → IsReadAt pages f r table rec → DieAlike o h f
    → StandFor o h table.name key (told_versions f.state table (r rec))
    → is_active (state_of o h t.0) ≡ true → BaseIsTold o h live t.0
    → IsRowSeen (state_of o h) live t pages table rec row
    → same_row (row_at (view o h t.0) table.name key) (told_if table row)

-- the number of an obstacle, if there is one
abbrev pub by_of : Option Obstacle → Option ℕ
by_of None = None
by_of (Some found) = Some found.by.0

-- an obstacle is told with what has become of it
abbrev pub IsStateTold : Opening → Entries → Option Obstacle → Type 0
IsStateTold o h found = IfSome found (λ its. its.state ≡ state_of o h its.by.0)

-- Where they do, the obstacle of the record for an active transaction is the machine's of the key.
abbrev pub ObstaclesAreTold : Type 0
ObstaclesAreTold = (o : Opening) (h : Entries) (live : State) (t : ℕ) (pages : Pages) (table : Table)
    (key : Value) (rec : RecId) (found : Option Obstacle) (f : Facts) (r : Reading)
    → MayBegin o → IsLegal o h → IsReadAt pages f r table rec → DieAlike o h f
    → StandFor o h table.name key (told_versions f.state table (r rec))
    → is_active (state_of o h t) ≡ true → BaseIsTold o h live t
    → IsObstacle (state_of o h) live t pages rec found
    → (by_of found ≡ obstacle (told o h) t table.name key) × IsStateTold o h found

-- Where no version stands for a key, no active transaction sees a row there, and nothing is in its
-- way.
abbrev pub NothingIsThere : Type 0
NothingIsThere = (o : Opening) (h : Entries) (t : ℕ) (name : List ℕ) (key : Value)
    → MayBegin o → IsLegal o h → StandFor o h name key [] → is_active (state_of o h t) ≡ true
    → same_row (row_at (view o h t) name key) None × (obstacle (told o h) t name key ≡ None)

-- ---- the record that speaks

-- The versions of a key stand in one record at most: those of the chosen one are what the history says
-- of the key, or none is chosen, and the history's are none. Every other record with the key has no
-- versions that count, or they are erased for all.
pub record HasSpeaker (o : Opening) (h : Entries) (f : Facts) (r : Reading) (table : Table)
    (key : Value) (chosen : Option RecId) : Type 0 where
  pub none : chosen ≡ None → StandFor o h table.name key []
  pub some : (rec : RecId) → chosen ≡ Some rec
      → (table_in f rec ≡ Some table) × (record_key table (r rec) ≡ key)
      × StandFor o h table.name key (told_versions f.state table (r rec))
  pub others : (rec : RecId) → table_in f rec ≡ Some table → record_key table (r rec) ≡ key
      → (told_versions f.state table (r rec) ≡ []) ⊎ IsErasedForAll o h (told_versions f.state table (r rec))
      ⊎ (chosen ≡ Some rec)

-- the versions of the record that speaks, none where none does
abbrev pub versions_spoken : (ℕ → TxState) → Table → Reading → Option RecId → List Generation
versions_spoken state table r None = []
versions_spoken state table r (Some rec) = told_versions state table (r rec)

-- every base sees those whom all see
abbrev pub BasesSeeAll : Opening → Entries → State → Type 0
BasesSeeAll o h live = (u : ℕ) → IsSeenByAll o h u → all_see live u ≡ true

-- these are the data pages of a table
abbrev pub AreItsPages : Facts → Table → List ℕ → Type 0
AreItsPages f table data_pages = (n : ℕ) → (f.table_of n ≡ Some table) ↔ Has data_pages n

-- The record that is found to speak for a key has the versions that the history says of the key; where
-- none is found, the history's are none.
abbrev pub SpeakersStand : Type 0
SpeakersStand = (o : Opening) (h : Entries) (live : State) (pages : Pages) (table : Table)
    (key : Value) (pointers data_pages : List ℕ) (f : Facts) (r : Reading)
    (chosen found : Option RecId)
    → AreRecords packed_coding f (cells_of pages) r → DieAlike o h f
    → IsTable pages table.pointer.0 pointers data_pages → AreItsPages f table data_pages
    → StandsFor o h live → BasesSeeAll o h live
    → HasSpeaker o h f r table key chosen
    → IsSpeaker (state_of o h) live pages table key found
    → StandFor o h table.name key (versions_spoken f.state table r found)
    × ((rec : RecId) → found ≡ Some rec → (table_in f rec ≡ Some table) × (chosen ≡ Some rec))
