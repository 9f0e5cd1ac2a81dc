-- A table that is made takes its engine several steps on: the catalog gets the pages that it wants, and then all of the
-- table is put.
use Rattle.std.specs.Prelude.{◌≡◌, ◌+◌, ℕ, List, Some}
use Rattle.mg_base.specs.Disk.{Meaning}
use Rattle.mg_base.specs.Image.{Image}
use Rattle.mg_base.specs.declared.numbers.TxNo.{TxNo}
use Rattle.mg_core.specs.declared.parts.Core.{Core}
use Rattle.mg_engine_demand_laws.specs.Laying.{MayStep, moved_to}
use Rattle.mg_engine_demand_laws.specs.Runs.{GoesOn, Moment}
use Rattle.mg_engine_demand_laws.specs.Writes.{StoodOrBegins, WritesInto}
use Rattle.mg_image.specs.Records.{Reading}
use Rattle.mg_image.specs.Tables.{Layout}
use Rattle.mg_model.specs.declared.table.Table.{Table}
use Rattle.mg_pool.specs.declared.pool.Pool.{Pool}
use Rattle.mg_batches.specs.Batches.{nothing_yet}
use Rattle.mg_space.specs.View.{Tells}
use Rattle.mg_space.specs.declared.links.FireLinks.{FireLinks}
use Rattle.mg_table_batch.specs.Filling.{FillsTable}
use Rattle.mg_table_batch.specs.Making.{GetsWanted, MakesTable}
use Rattle.mg_table_making.specs.Creating.{PutsTable}
use Rattle.mg_value.specs.declared.shape.Shape.{Shape}
use Rattle.mg_value.specs.declared.value.Value.{Value}
use Rattle.mg_engine_demand_laws.specs.Calls.{laying_at}
use Rattle.mg_engine_demand_laws.specs.Moments.{moment_of}

-- The catalog, which is `table`, has got so many pages; before each the pages were sound, and these tables stood then.
pub data KnowsGrowths {D : Type 0} (m : Meaning D) (t : ℕ) (table catalog : Table) (name : List ℕ) (shape : Shape)
    : ℕ → Moment D → Moment D → Type 0 where
  none_yet : (at : Moment D) → KnowsGrowths m t table catalog name shape 0 at at
  one_more : (count : ℕ) (first mid : Moment D) (store : Pool D FireLinks) (j : Image) (later : Layout)
      → KnowsGrowths m t table catalog name shape count first mid
      → (gets : GetsWanted m catalog t name shape mid.store store) → Tells m mid.store.disk mid.image
      → m.held store.disk ≡ Some j → MayStep (moved_to mid gets.ready mid.image mid.layout) later t table
      → KnowsGrowths m t table catalog name shape (count + 1) first (moved_to mid store j later)

-- What is known where a table is made: at each page that the catalog gets, and before all of it is put.
pub record KnowsMaking {D : Type 0} (m : Meaning D) (at : Moment D) (store : Pool D FireLinks) (later : Layout) (t : ℕ)
    (table catalog : Table) (name : List ℕ) (shape : Shape) (makes : MakesTable m catalog t name shape at.store store)
    : Type 0 where
  pub image : Image
  pub first : Layout
  pub growths : KnowsGrowths m t table catalog name shape makes.count at (moved_to at makes.grown image first)
  pub told : Tells m makes.grown.disk image
  pub reading : Reading
  pub writes : WritesInto makes.grown image at.fates first reading t table
  pub stood : (fills : FillsTable makes.grown image catalog t name shape nothing_yet makes.makes.batch)
      → StoodOrBegins first later fills.page

-- The law: these are steps of an engine's run, once it is said that the commit is no longer asked for.
abbrev pub TablesGo : (D : Type 0) → Meaning D → Type 0
TablesGo D m = (old new : Core D) (t : TxNo) (name : List ℕ) (shape : Shape) (keys : List Value) (table : Table)
    (i j : Image) (layout later : Layout) (puts : PutsTable m old new t name shape keys)
    → old.catalog.pointer.0 ≡ table.pointer.0 → m.held new.store.disk ≡ Some j
    → KnowsMaking m (laying_at old new i layout) new.store later t.0 table old.catalog name shape puts.makes
    → GoesOn m (moment_of old i layout) (moment_of new j later)
