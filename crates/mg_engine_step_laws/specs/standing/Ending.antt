-- What a rollback makes of the records of an image, and what a write makes of the whole.
use Rattle.std.specs.Prelude.{◌≡◌, ◌≢◌, ◌⊎◌, ℕ, List, [], ◌∷◌, Option, None, Some}
use Rattle.mg_base.specs.declared.numbers.RecId.{RecId}
use Rattle.mg_base.specs.declared.transaction.TxState.TheVariants.{Active, Committed, Dead}
use Rattle.mg_value.specs.declared.value.Value.{Value}
use Rattle.mg_model.specs.declared.opening.Opening.{Opening}
use Rattle.mg_model.specs.declared.table.Table.{Table}
use Rattle.mg_model.specs.Changes.{Cells}
use Rattle.mg_model.specs.History.{Ends, Entries, Entry, effect_of}
use Rattle.mg_model.specs.Legal.{IsLegal, MayBegin}
use Rattle.mg_model.specs.Openings.{everyone}
use Rattle.mg_generation_laws.specs.Generations.{without_newest_by}
use Rattle.mg_image.specs.Form.{Form, Pages}
use Rattle.mg_image.specs.Inventory.{next_of}
use Rattle.mg_image.specs.RecordRules.{EachBack, Facts, table_in}
use Rattle.mg_image.specs.Records.{Reading, writer}
use Rattle.mg_image.specs.Sound.{IsSoundBy, facts_by}
use Rattle.mg_image.specs.Tables.{Layout}
use Rattle.mg_overlay_laws.specs.Overlays.{left_state}
use Rattle.mg_engine_step_laws.specs.standing.Bare.{IsBare}
use Rattle.mg_engine_step_laws.specs.standing.Standing.{FindsTables, ShowsHistory, Standing}
use Rattle.mg_seek.specs.Histories.{told_versions}
use Rattle.mg_engine_step_laws.specs.standing.Versions.{HaveVersions}
use Rattle.mg_engine_step_laws.specs.standing.Writing.{WritesKey, WritesRecord}

-- ---- a rollback

-- A record stays as it is.
pub record StaysRecord (f g : Facts) (r s : Reading) (p : RecId) : Type 0 where
  pub table : table_in g p ≡ table_in f p
  pub versions : s p ≡ r p

-- A record is gone with its table, which the transaction had made: no other one's version counted in it.
pub record GoesWithTable (f g : Facts) (r : Reading) (t : ℕ) (p : RecId) : Type 0 where
  pub gone : table_in g p ≡ None
  pub its : (table : Table) → table_in f p ≡ Some table
      → without_newest_by t (told_versions f.state table (r p)) ≡ []

-- A transaction comes to be dead, and with it its versions.
pub record Dies (f g : Facts) (r s : Reading) (t : ℕ) : Type 0 where
  pub before : f.state t ≢ Committed
  pub dead : g.state t ≡ Dead
  pub others : (u : ℕ) → u ≢ t → g.state u ≡ f.state u
  pub backs : (p : RecId) → EachBack (λ e. f.state (writer e) ≡ Committed) (r p)
  pub records : (p : RecId) → StaysRecord f g r s p ⊎ GoesWithTable f g r t p

-- the records have the versions of the longer history
abbrev pub VersionsDie : Type 0
VersionsDie = (o : Opening) (h : Entries) (e : Entry) (f g : Facts) (r s : Reading) (t : ℕ)
    → MayBegin o → IsLegal o (e ∷ h) → effect_of e ≡ Ends t Dead → Dies f g r s t
    → HaveVersions o h f r → HaveVersions o (e ∷ h) g s

-- ---- the whole, where one record is written

-- Later pages are a sound image with this layout and reading, in which one record is written.
pub record PagesWritten (form : Form) (size : ℕ) (o : Opening) (h : Entries) (e : Entry)
    (s new : Standing) (pages later : Pages) (shows : ShowsHistory form size o h s pages) (t : ℕ)
    (name : List ℕ) (key : Value) (row : Option Cells) : Type 0 where
  pub layout : Layout
  pub reading : Reading
  pub sound : IsSoundBy form size (left_state everyone new.state) later layout reading
  pub writes : WritesKey o h e t name key row
  pub place : RecId
  pub record_ : WritesRecord (facts_by (left_state everyone s.state) pages shows.layout)
      (facts_by (left_state everyone new.state) later layout) shows.reading reading
      shows.versions.speaker t name key row place
  pub next : next_of later ≡ new.next
  pub tables : (u : ℕ) → new.state u ≡ Active → FindsTables o (e ∷ h) new layout u
  pub bare : IsBare layout

-- they show the longer history
abbrev pub WritesShow : Form → Type 0
WritesShow form = (size : ℕ) (o : Opening) (h : Entries) (e : Entry) (s new : Standing)
    (pages later : Pages) (shows : ShowsHistory form size o h s pages) (t : ℕ) (name : List ℕ)
    (key : Value) (row : Option Cells) → MayBegin o → IsLegal o (e ∷ h)
    → PagesWritten form size o h e s new pages later shows t name key row
    → ShowsHistory form size o (e ∷ h) new later
