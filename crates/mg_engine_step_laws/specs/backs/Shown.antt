-- What the pages show while a transaction's changes are taken back, key by key, and at the end.
use Rattle.mg_base.specs.declared.numbers.RecId.{RecId}
use Rattle.mg_base.specs.declared.transaction.TxState.TheVariants.{Active}
use Rattle.mg_engine_step_laws.specs.backs.Again.{AreTaken, without_key}
use Rattle.mg_engine_step_laws.specs.standing.Bare.{IsBare}
use Rattle.mg_engine_step_laws.specs.writes.Writes.{ReadsAfter}
use Rattle.mg_generation_laws.specs.After.{generations_back}
use Rattle.mg_image.specs.Form.{Form, Pages}
use Rattle.mg_image.specs.Histories.{newest_at}
use Rattle.mg_image.specs.Inventory.{next_of}
use Rattle.mg_image.specs.RecordRules.{Facts, table_in}
use Rattle.mg_image.specs.Records.{Reading, record_key}
use Rattle.mg_image.specs.Sound.{IsSoundBy, facts_by}
use Rattle.mg_image.specs.Tables.{Layout, stands_of, table_at}
use Rattle.mg_image.specs.declared.entry.Entry.{Entry as Read}
use Rattle.mg_model.specs.History.{Entries, Entry, TakesBack, effect_of}
use Rattle.mg_model.specs.Legal.{IsLegal, MayBegin}
use Rattle.mg_model.specs.Machine.{own}
use Rattle.mg_model.specs.Openings.{everyone}
use Rattle.mg_model.specs.declared.change.Change.{Change}
use Rattle.mg_model.specs.declared.change.Point.{Point}
use Rattle.mg_model.specs.declared.opening.Opening.{Opening}
use Rattle.mg_model.specs.declared.table.Table.{Table}
use Rattle.mg_overlay_laws.specs.Overlays.{left_state}
use Rattle.mg_seek.specs.Histories.{told_versions}
use Rattle.mg_engine_step_laws.specs.standing.Following.{FollowsEntry}
use Rattle.mg_engine_step_laws.specs.standing.QuietPages.{FindsAfter}
use Rattle.mg_engine_step_laws.specs.standing.Standing.{FindsTables, Remembers, ShowsHistory, Standing}
use Rattle.mg_value.specs.declared.value.Value.{Value}
use Rattle.std.proofs.Common.{List, None, Option, Some, [], ℕ, ◌∷◌, ◌≡◌, ◌≢◌, ◌⊎◌}
use Rattle.mg_image.specs.Records as records

-- A record speaks for its key, and that is taken back in it: its versions are those that the history with the
-- entry says, and if some are left they have the key.
pub record IsTakenBack (o : Opening) (h : Entries) (e : Entry) (t : ℕ) (f : Facts) (first reading : Reading)
    (speaker : List ℕ → Value → Option RecId) (p : RecId) : Type 0 where
  pub table : Table
  pub of : table_in f p ≡ Some table
  pub spoke : speaker table.name (record_key table (first p)) ≡ Some p
  pub told : told_versions f.state table (reading p)
      ≡ generations_back (own o (e ∷ h) t) t table.name (record_key table (first p))
      (told_versions f.state table (first p))
  pub keyed : reading p ≢ [] → record_key table (reading p) ≡ record_key table (first p)

-- Some of these changes are not taken back yet: the records that speak for the keys of the others are, and all
-- other records are as at first.
pub record ShowsMidway (form : Form) (size : ℕ) (o : Opening) (h : Entries) (e : Entry) (t : ℕ)
    (whole left : List Change) (s : Standing) (begun : Pages) (first : ShowsHistory form size o h s begun)
    (pages : Pages) : Type 0 where
  pub layout : Layout
  pub reading : Reading
  pub sound : IsSoundBy form size (left_state everyone s.state) pages layout reading
  pub next : next_of pages ≡ s.next
  pub stays : (p : RecId) (table : Table) → table_at (stands_of first.layout) p.page.0 ≡ Some table
      → table_at (stands_of layout) p.page.0 ≡ Some table
  pub new : (p : RecId) (table : Table) → table_at (stands_of layout) p.page.0 ≡ Some table
      → (table_at (stands_of first.layout) p.page.0 ≡ Some table)
      ⊎ ((first.reading p ≡ []) × (reading p ≡ []))
  pub tables : (u : ℕ) → s.state u ≡ Active → FindsTables o h s layout u
  pub bare : IsBare layout
  pub each_record : (p : RecId) → (reading p ≡ first.reading p)
      ⊎ IsTakenBack o h e t (facts_by (left_state everyone s.state) begun first.layout) first.reading reading
      first.versions.speaker p
  pub not_yet : (name : List ℕ) (key : Value) (c : records.Change) → newest_at left name key ≡ Some c
      → (p : RecId) → first.versions.speaker name key ≡ Some p → reading p ≡ first.reading p
  pub done : (name : List ℕ) (key : Value) → newest_at whole name key ≢ None → newest_at left name key ≡ None
      → (p : RecId) → first.versions.speaker name key ≡ Some p
      → IsTakenBack o h e t (facts_by (left_state everyone s.state) begun first.layout) first.reading reading
      first.versions.speaker p

-- with all changes still to take back, they show what they showed
abbrev pub ShowsFirst : Form → Type 0
ShowsFirst form = (size : ℕ) (o : Opening) (h : Entries) (e : Entry) (t : ℕ) (whole : List Change) (s : Standing)
    (pages : Pages) (first : ShowsHistory form size o h s pages)
    → ShowsMidway form size o h e t whole whole s pages first pages

-- with none, they show the history that has the entry
abbrev pub ShowsBack : Form → Type 0
ShowsBack form = (size : ℕ) (o : Opening) (h : Entries) (e : Entry) (point : Point) (t : ℕ) (whole : List Change)
    (s new : Standing) (begun pages : Pages) (first : ShowsHistory form size o h s begun) → MayBegin o
    → IsLegal o (e ∷ h) → effect_of e ≡ TakesBack t point → Remembers o h s → s.state t ≡ Active
    → AreTaken o h e t whole → FollowsEntry o h e s new
    → FindsAfter form size o h e s new pages
    → ShowsMidway form size o h e t whole [] s begun first pages
    → ShowsHistory form size o (e ∷ h) new pages

-- One key was taken back in the record that speaks for it: what is read then of the record is what the history
-- with the entry says.
pub record TakesKeyBack (form : Form) (size : ℕ) (o : Opening) (h : Entries) (e : Entry) (t : ℕ)
    (s : Standing) (pages later : Pages) (layout : Layout) (reading : Reading)
    (speaker : List ℕ → Value → Option RecId) (name : List ℕ) (key : Value) (rec : RecId) (table : Table)
    : Type 0 where
  pub named : table.name ≡ name
  pub of : table_at (stands_of layout) rec.page.0 ≡ Some table
  pub keyed : record_key table (reading rec) ≡ key
  pub spoken : speaker name key ≡ Some rec
  pub es : List Read
  pub reads : ReadsAfter form size (left_state everyone s.state) pages later layout reading rec es
  pub next : next_of later ≡ next_of pages
  pub told : told_versions (left_state everyone s.state) table es
      ≡ generations_back (own o (e ∷ h) t) t name key
      (told_versions (left_state everyone s.state) table (reading rec))
  pub key_stays : es ≢ [] → record_key table es ≡ key

-- the pages show the next of the middle states
abbrev pub ShowsOnward : Form → Type 0
ShowsOnward form = (size : ℕ) (o : Opening) (h : Entries) (e : Entry) (t : ℕ) (whole left : List Change)
    (s : Standing) (begun pages later : Pages) (first : ShowsHistory form size o h s begun)
    (midway : ShowsMidway form size o h e t whole left s begun first pages) (name : List ℕ) (key : Value)
    (c : records.Change) (rec : RecId) (table : Table) → newest_at left name key ≡ Some c
    → table_at (stands_of first.layout) rec.page.0 ≡ Some table
    → TakesKeyBack form size o h e t s pages later midway.layout midway.reading first.versions.speaker name key rec
    table
    → ShowsMidway form size o h e t whole (without_key name key left) s begun first later
