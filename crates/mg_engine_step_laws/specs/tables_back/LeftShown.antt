-- What the pages show once all is taken back, also the rows of tables that the transaction had made.
use Rattle.std.specs.Prelude.{◌≡◌, ℕ, Bool, true, List, ◌∷◌, None, Some, is_some}
use Rattle.mg_base.specs.declared.transaction.TxState.TheVariants.{Active}
use Rattle.mg_value.specs.declared.value.Value.{Value}
use Rattle.mg_engine_step_laws.specs.standing.Following.{FollowsEntry}
use Rattle.mg_engine_step_laws.specs.standing.Standing.{Remembers, ShowsHistory, Standing}
use Rattle.mg_engine_step_laws.specs.backs.Again.{AreTaken, again}
use Rattle.mg_engine_step_laws.specs.backs.Shown.{ShowsMidway}
use Rattle.mg_grown_catalog_laws.specs.Grown.{CatalogGrows}
use Rattle.mg_image.specs.Form.{Form, Pages, packed_form}
use Rattle.mg_image.specs.Histories.{newest_at}
use Rattle.mg_image.specs.Records.{Reading}
use Rattle.mg_image.specs.Records as records
use Rattle.mg_image.specs.Sound.{IsSoundBy, facts_by}
use Rattle.mg_image.specs.Tables.{Layout}
use Rattle.mg_image_overlay_laws.specs.kept.KeptImages.{IsKept}
use Rattle.mg_model.specs.Catalog.{catalog_name}
use Rattle.mg_model.specs.Changes.{has_change}
use Rattle.mg_model.specs.History.{Entries, Entry, TakesBack, effect_of}
use Rattle.mg_model.specs.Legal.{IsLegal, MayBegin}
use Rattle.mg_model.specs.Machine.{own}
use Rattle.mg_model.specs.Openings.{everyone}
use Rattle.mg_model.specs.declared.change.Change.{Change}
use Rattle.mg_model.specs.declared.change.Point.{Point}
use Rattle.mg_model.specs.declared.opening.Opening.{Opening}
use Rattle.mg_model.specs.declared.table.Table.{Table}
use Rattle.mg_overlay_laws.specs.Overlays.{left_state}
use Rattle.mg_engine_step_laws.specs.tables_back.Taken.{LeavesTables, TakesRows, layout_left, reading_left}

-- The pages `pages` are those on which all changes of other tables are taken back: what is left to take back are rows of
-- the catalog, under the keys that go. From them come the pages `later`, without these rows and their tables.
pub record TakesTables (form : Form) (size : ℕ) (o : Opening) (h : Entries) (e : Entry) (t : ℕ) (left : List Change)
    (s : Standing) (a : Layout) (r : Reading) (pages later : Pages) (gone : Value → Bool) : Type 0 where
  pub rows : (name : List ℕ) (key : Value) (c : records.Change) → newest_at left name key ≡ Some c
      → name ≡ catalog_name
  pub keys : (key : Value) → gone key ≡ is_some (newest_at left catalog_name key)
  -- the transaction had changed each of the keys, and has no change there any more
  pub made : (key : Value) → gone key ≡ true → has_change (own o h t) catalog_name key ≡ true
  pub none : (key : Value) → gone key ≡ true → newest_at (own o (e ∷ h) t) catalog_name key ≡ None
  pub was : IsKept form size o (again t left (e ∷ h)) (left_state everyone s.state) pages pages
  pub c : Layout
  pub rc : Reading
  pub leaves : LeavesTables size pages later a c
  pub takes : TakesRows t a (facts_by (left_state everyone s.state) pages a) r rc gone
  pub sound : IsSoundBy form size (left_state everyone s.state) later (layout_left gone a c) (reading_left gone a c r rc)

-- So they show the history that has the entry. The transaction sees then of its tables what it saw, or fewer.
abbrev pub ShowsLeft : Type 0
ShowsLeft = (size : ℕ) (o : Opening) (h : Entries) (e : Entry) (point : Point) (t : ℕ) (whole left : List Change)
    (s new : Standing) (begun pages later : Pages) (first : ShowsHistory packed_form size o h s begun)
    (midway : ShowsMidway packed_form size o h e t whole left s begun first pages) (gone : Value → Bool) → MayBegin o
    → IsLegal o (e ∷ h) → CatalogGrows o h → effect_of e ≡ TakesBack t point → Remembers o h s → s.state t ≡ Active
    → AreTaken o h e t whole → FollowsEntry o h e s new → new.number t ≡ s.number t
    → ((name : List ℕ) (table : Table) → new.table t name ≡ Some table → s.table t name ≡ Some table)
    → TakesTables packed_form size o h e t left s midway.layout midway.reading pages later gone
    → ShowsHistory packed_form size o (e ∷ h) new later
