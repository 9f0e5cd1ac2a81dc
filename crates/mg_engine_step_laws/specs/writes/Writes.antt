-- A record is written on the pages of an engine: what is read of them afterwards, and that the engine then
-- stands for the history with the entry.
use Rattle.std.specs.Prelude.{◌≡◌, ◌≢◌, ◌⊎◌, ℕ, List, [], ◌∷◌, Option, Some}
use Rattle.mg_base.specs.declared.numbers.RecId.{RecId}
use Rattle.mg_base.specs.declared.transaction.TxState.{TxState}
use Rattle.mg_base.specs.declared.transaction.TxState.TheVariants.{Active, Committed}
use Rattle.mg_value.specs.declared.value.Value.{Value}
use Rattle.mg_model.specs.declared.opening.Opening.{Opening}
use Rattle.mg_model.specs.declared.table.Table.{Table}
use Rattle.mg_model.specs.Changes.{Cells}
use Rattle.mg_model.specs.History.{Entries, Entry as Event}
use Rattle.mg_model.specs.Legal.{IsLawful}
use Rattle.mg_model.specs.Openings.{everyone}
use Rattle.mg_generation_laws.specs.Generations.{Generation}
use Rattle.mg_generation_laws.specs.Kept.{IsErasedForAll}
use Rattle.mg_image.specs.declared.entry.Entry.{Entry}
use Rattle.mg_image.specs.Form.{Form, Pages}
use Rattle.mg_image.specs.Inventory.{next_of}
use Rattle.mg_image.specs.Records.{Reading, key_of, writer}
use Rattle.mg_image.specs.Sound.{IsSoundBy, facts_by}
use Rattle.mg_image.specs.Tables.{Layout, stands_of, table_at}
use Rattle.mg_overlay_laws.specs.Overlays.{left_state}
use Rattle.mg_image_overlay_laws.specs.tables.Growing.{HasGrown}
use Rattle.mg_engine_step_laws.specs.standing.Following.{FollowsEntry}
use Rattle.mg_engine_step_laws.specs.standing.StandingLaws.{IsChainOf}
use Rattle.mg_engine_step_laws.specs.standing.Standing.{ShowsHistory, Standing, Stands}
use Rattle.mg_seek.specs.Histories.{told_given}
use Rattle.mg_engine_step_laws.specs.standing.Writing.{WritesKey}

-- ---- what is read

-- Later pages are sound, of the same tables; one record has these versions, and all others have theirs.
pub record ReadsAfter (form : Form) (size : ℕ) (state : ℕ → TxState) (pages later : Pages)
    (before : Layout) (r : Reading) (p : RecId) (es : List Entry) : Type 0 where
  pub layout : Layout
  pub reading : Reading
  pub sound : IsSoundBy form size state later layout reading
  pub grown : HasGrown before layout r
  pub here : reading p ≡ es
  pub others : (q : RecId) → q ≢ p → reading q ≡ r q

-- ---- what stood there

-- no version of a key counts: none does of the record that speaks for it, or they are erased for all
abbrev pub IsSilentAt : (form : Form) (size : ℕ) (o : Opening) (h : Entries) (s : Standing)
    (pages : Pages) → ShowsHistory form size o h s pages → List ℕ → Value → Type 0
IsSilentAt form size o h s pages shows name key = (chain : List Generation)
    → IsChainOf (facts_by (left_state everyone s.state) pages shows.layout) shows.reading name key
    (shows.versions.speaker name key) chain → (chain ≡ []) ⊎ IsErasedForAll o h chain

-- The versions that stay behind one that a transaction writes at a key: none, where no version of the key
-- counts and the record is new; all, where the record speaks for the key and its newest one is committed;
-- all but the newest, where that is the transaction's own.
pub data StaysBehind (form : Form) (size : ℕ) (o : Opening) (h : Entries) (s : Standing)
    (pages : Pages) (shows : ShowsHistory form size o h s pages) (t : ℕ) (name : List ℕ) (key : Value)
    (p : RecId) : List Entry → Type 0 where
  made : IsSilentAt form size o h s pages shows name key → shows.reading p ≡ []
      → StaysBehind form size o h s pages shows t name key p []
  pushed : (d : Entry) (older : List Entry) → shows.versions.speaker name key ≡ Some p
      → shows.reading p ≡ d ∷ older → s.state (writer d) ≡ Committed
      → StaysBehind form size o h s pages shows t name key p (d ∷ older)
  replaced : (d : Entry) (older : List Entry) → shows.versions.speaker name key ≡ Some p
      → shows.reading p ≡ d ∷ older → writer d ≡ t
      → StaysBehind form size o h s pages shows t name key p older

-- ---- the write

-- A transaction's version was written at a key of a table, in a record with these versions behind it.
pub record WritesVersion (form : Form) (size : ℕ) (o : Opening) (h : Entries) (e : Event)
    (s new : Standing) (pages later : Pages) (shows : ShowsHistory form size o h s pages) (t : ℕ)
    (name : List ℕ) (key : Value) (row : Option Cells) (p : RecId) (n : Entry)
    (older : List Entry) (table : Table) : Type 0 where
  pub entry : WritesKey o h e t name key row
  pub active : s.state t ≡ Active
  pub reads : ReadsAfter form size (left_state everyone s.state) pages later shows.layout shows.reading p
      (n ∷ older)
  pub behind : StaysBehind form size o h s pages shows t name key p older
  -- the record's page is the table's, and the version
  pub of_table : table_at (stands_of shows.layout) p.page.0 ≡ Some table
  pub named : table.name ≡ name
  pub its : writer n ≡ t
  pub keyed : key_of table n.row ≡ key
  pub given : told_given table n ≡ row
  -- the header's next number, and what the transaction has noted of the table: its first page
  pub next : next_of later ≡ s.next
  pub number : new.number t name ≡ table.pointer.0
  pub other_numbers : (other : List ℕ) → other ≢ name → new.number t other ≡ s.number t other
  pub seen : (other : List ℕ) → new.table t other ≡ s.table t other

-- the pages show the longer history
abbrev pub WritesShow : Form → Type 0
WritesShow form = (size : ℕ) (o : Opening) (h : Entries) (e : Event) (s new : Standing)
    (pages later : Pages) (stands : Stands form size o h s (Some pages)) (t : ℕ) (name : List ℕ)
    (key : Value) (row : Option Cells) (p : RecId) (n : Entry) (older : List Entry) (table : Table)
    → IsLawful o h e → FollowsEntry o h e s new
    → WritesVersion form size o h e s new pages later stands.shows t name key row p n older table
    → ShowsHistory form size o (e ∷ h) new later

-- so the engine stands for it
abbrev pub WritesStand : Form → Type 0
WritesStand form = (size : ℕ) (o : Opening) (h : Entries) (e : Event) (s new : Standing)
    (pages later : Pages) (stands : Stands form size o h s (Some pages)) (t : ℕ) (name : List ℕ)
    (key : Value) (row : Option Cells) (p : RecId) (n : Entry) (older : List Entry) (table : Table)
    → IsLawful o h e → FollowsEntry o h e s new
    → WritesVersion form size o h e s new pages later stands.shows t name key row p n older table
    → Stands form size o (e ∷ h) new (Some later)
