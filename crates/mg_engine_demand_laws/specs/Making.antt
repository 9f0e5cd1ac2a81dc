-- A table is made: the steps that this is. First the catalog gets the data pages that it wants, each in a batch of its own,
-- and then all of the table is put in one.
use Rattle.std.specs.Prelude.{◌≡◌, ℕ, List, Some}
use Rattle.mg_base.specs.Disk.{Meaning}
use Rattle.mg_base.specs.Image.{Image}
use Rattle.mg_image.specs.Records.{Reading}
use Rattle.mg_image.specs.Tables.{Layout}
use Rattle.mg_model.specs.declared.table.Table.{Table}
use Rattle.mg_pool.specs.declared.pool.Pool.{Pool}
use Rattle.mg_batches.specs.Batches.{nothing_yet}
use Rattle.mg_space.specs.View.{Tells}
use Rattle.mg_space.specs.declared.links.FireLinks.{FireLinks}
use Rattle.mg_table_batch.specs.Filling.{FillsTable}
use Rattle.mg_table_batch.specs.Making.{GetsWanted, MakesAtOnce}
use Rattle.mg_value.specs.declared.shape.Shape.{Shape}
use Rattle.mg_engine_demand_laws.specs.Laying.{MayStep, moved_to}
use Rattle.mg_engine_demand_laws.specs.Runs.{GoesBy, GoesOn, Moment}
use Rattle.mg_engine_demand_laws.specs.Writes.{StoodOrBegins, WritesInto}

-- the catalog gets a page: pages are read, and then it grows
abbrev pub GrowthsGo : (D : Type 0) → Meaning D → Type 0
GrowthsGo D m = (at : Moment D) (store : Pool D FireLinks) (j : Image) (later : Layout) (t : ℕ) (table catalog : Table)
    (name : List ℕ) (shape : Shape) (gets : GetsWanted m catalog t name shape at.store store)
    → catalog.pointer.0 ≡ table.pointer.0 → Tells m at.store.disk at.image → m.held store.disk ≡ Some j
    → MayStep (moved_to at gets.ready at.image at.layout) later t table
    → GoesOn m at (moved_to at store j later)

-- all of the table is put; each table of the later layout stood before, or is the new one
abbrev pub MakingsGo : (D : Type 0) → Meaning D → Type 0
MakingsGo D m = (at : Moment D) (store : Pool D FireLinks) (j : Image) (later : Layout) (r : Reading) (t : ℕ)
    (table catalog : Table) (name : List ℕ) (shape : Shape) (makes : MakesAtOnce m catalog t name shape at.store store)
    → catalog.pointer.0 ≡ table.pointer.0 → Tells m at.store.disk at.image → m.held store.disk ≡ Some j
    → WritesInto at.store at.image at.fates at.layout r t table
    → ((fills : FillsTable at.store at.image catalog t name shape nothing_yet makes.batch)
    → StoodOrBegins at.layout later fills.page)
    → GoesBy m at (moved_to at store j later)
