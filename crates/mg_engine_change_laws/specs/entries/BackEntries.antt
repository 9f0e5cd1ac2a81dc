-- The entries of a row that comes back are laid, one index after another, while a transaction takes its changes back: no key
-- more is taken back, the records are as they were, and the row is found in these indexes.
use Rattle.std.specs.Prelude.{◌≡◌, ◌++◌, ℕ, List, [], None, Some}
use Rattle.mg_base.specs.Disk.{Meaning}
use Rattle.mg_base.specs.Image.{Image}
use Rattle.mg_base.specs.declared.numbers.RecId.{RecId}
use Rattle.mg_engine_change_laws.specs.keys.Takings.{KnowsCache}
use Rattle.mg_engine_change_laws.specs.keys.TakingSteps.{StandsMidway, TakesKeysOf}
use Rattle.mg_engine_step_laws.specs.standing.Standing.{Remembers, ShowsHistory, Standing}
use Rattle.mg_image.specs.Form.{Pages, Row, packed_form}
use Rattle.mg_image.specs.Indexes.{IsFoundIn}
use Rattle.mg_image.specs.Inventory.{header_of}
use Rattle.mg_image.specs.Tables.{stands_of, table_at}
use Rattle.mg_model.specs.History.{Entries, Entry}
use Rattle.mg_model.specs.declared.change.Change.{Change}
use Rattle.mg_model.specs.declared.opening.Opening.{Opening}
use Rattle.mg_model.specs.declared.table.Index.{Index}
use Rattle.mg_pool.specs.Pool.{shown}
use Rattle.mg_pool.specs.declared.pool.Pool.{Pool}
use Rattle.mg_pool_overlay_laws.specs.Needs.{Asked, Sessions}
use Rattle.mg_space.specs.declared.links.FireLinks.{FireLinks}
use Rattle.mg_engine_change_laws.specs.keys.Found.{IsItsRecord}
use Rattle.mg_engine_meaning_laws.specs.Standings.{KeepsWritten}
use Rattle.mg_engine_step_laws.specs.backs.Midway.{GoesBack}
use Rattle.mg_entries.specs.Entries.{LaysAll}
use Rattle.mg_image_overlay_laws.specs.tables.Growing.{IsTableOf}
use Rattle.mg_model.specs.Legal.{IsLegal, MayBegin}
use Rattle.mg_model.specs.declared.change.Point.{Point}
use Rattle.mg_model.specs.declared.table.Table.{Table}
use Rattle.mg_space.specs.View.{KeepsStore}
use Rattle.mg_taking_back.specs.Keys.{IsOwnAt}
use Rattle.mg_value.specs.declared.value.Value.{Value}
use Rattle.mg_works.specs.Works.{Working, written_to}

-- Entries of a record's row were laid in some indexes since a cache was known in the middle.
pub record EntersMidway {D : Type 0} (m : Meaning D) (size : ℕ) (o : Opening) (h : Entries) (e : Entry) (t : ℕ)
    (whole left : List Change) (s : Standing) (start pool now : Pool D FireLinks) (begun : Pages)
    (first : ShowsHistory packed_form size o h s begun) (i : Image) (asked : Asked) (session : Sessions)
    (midway : StandsMidway m size o h e t whole left s start pool begun first i asked session) (indexes : List Index)
    (p : RecId) (row : Row) : Type 0 where
  pub image : Image
  pub steps : TakesKeysOf m size o h e t s first.versions.speaker [] left left pool now i image
  pub then_ : StandsMidway m size o h e t whole left s start now begun first image asked session
  pub knows : KnowsCache m size s now image
  pub catalog : (header_of (shown now.dirty image)).catalog.0 ≡ (header_of (shown pool.dirty i)).catalog.0
  pub reading : then_.pages.reading ≡ midway.pages.reading
  pub owners : (n : ℕ) → table_at (stands_of then_.pages.layout) n ≡ table_at (stands_of midway.pages.layout) n
  pub found : IsFoundIn (shown now.dirty image) indexes p row
  pub geometry : now.geometry ≡ pool.geometry

-- The record of a key was found, pages were read, and then entries of a row were laid for it in some indexes of its table.
pub record HasEnteredBack {D : Type 0} (m : Meaning D) (size : ℕ) (o : Opening) (h : Entries) (e : Entry) (t : ℕ)
    (whole left : List Change) (s : Standing) (start ready now : Pool D FireLinks) (begun : Pages)
    (first : ShowsHistory packed_form size o h s begun) (i : Image) (asked : Asked) (session : Sessions) (table : Table)
    (key : Value) (rec : RecId) (indexes : List Index) (row : Row) : Type 0 where
  pub midway : StandsMidway m size o h e t whole left s start ready begun first i asked session
  pub enters : EntersMidway m size o h e t whole left s start ready now begun first i asked session midway indexes rec row
  pub stands : IsTableOf enters.then_.pages.layout table
  pub is : IsItsRecord size o h e t whole left s begun (shown now.dirty enters.image) first enters.then_.pages table key rec

abbrev pub KeysEnterMidway : (D : Type 0) → Meaning D → Type 0
KeysEnterMidway D m = (size : ℕ) (o : Opening) (h : Entries) (e : Entry) (point : Point) (t : ℕ)
    (whole left : List Change) (s : Standing) (start before ready now : Pool D FireLinks) (begun : Pages)
    (first : ShowsHistory packed_form size o h s begun) (i : Image) (asked : Asked) (session : Sessions) → MayBegin o
    → IsLegal o h → Remembers o h s → GoesBack o h e point s asked t → (catalog : ℕ) (works : List Working)
    → KeepsWritten catalog works s.table → (number : ℕ) (table : Table) → written_to works t number ≡ Some table
    → StandsMidway m size o h e t whole left s start before begun first i asked session → KnowsCache m size s before i
    → (key : Value) (rec : RecId) → IsOwnAt s.state s.live t (shown before.dirty i) table key rec
    → KeepsStore m before ready → ready.offline ≡ None → (indexes later : List Index)
    → table.indexes ≡ indexes ++ later → (row : Row) → LaysAll m indexes rec row ready now
    → HasEnteredBack m size o h e t whole left s start ready now begun first i asked session table key rec indexes row
