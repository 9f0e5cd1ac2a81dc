-- The batches of a transaction that writes records: what an engine knows then, and that each pays.
use Rattle.std.specs.Prelude.{◌≡◌, ◌⊎◌, Bool, ℕ, false, List, [], None}
use Rattle.mg_base.specs.Image.{Image}
use Rattle.mg_base.specs.declared.numbers.PageNo.{PageNo}
use Rattle.mg_base.specs.declared.numbers.RecId.{RecId}
use Rattle.mg_base.specs.declared.transaction.TxState.TheVariants.{Active, Committed}
use Rattle.mg_careful.specs.CarefulWrite.{DemandSet}
use Rattle.mg_chain.specs.Writing.{GivesSpot, MakesRecord, Pushes, Replaces, TakesOut}
use Rattle.mg_heap.specs.Room.{GivesRoom}
use Rattle.mg_image.specs.Form.{packed_form}
use Rattle.mg_image.specs.Records.{Reading, cells_of}
use Rattle.mg_image.specs.Sound.{IsSoundBy}
use Rattle.mg_image.specs.Tables.{Layout}
use Rattle.mg_model.specs.Answers.{is_committed}
use Rattle.mg_model.specs.declared.table.Table.{Table}
use Rattle.mg_overlay_laws.specs.Overlays.{left_state}
use Rattle.mg_pool.specs.Batch.{Changed}
use Rattle.mg_pool.specs.Pool.{shown}
use Rattle.mg_pool.specs.declared.pool.Pool.{Pool}
use Rattle.mg_batches.specs.Batches.{nothing_yet}
use Rattle.mg_space.specs.Taking.{IsGeometry}
use Rattle.mg_space.specs.declared.links.FireLinks.{FireLinks}
use Rattle.mg_image_overlay_laws.specs.tables.Growing.{IsTableOf}
use Rattle.mg_table_batch.specs.Filling.{FillsTable}
use Rattle.mg_value.specs.declared.shape.Shape.{Shape}
use Rattle.mg_version.specs.declared.cell.Version.{Version}
use Rattle.mg_engine_demand_laws.specs.Bearing.{Fates}
use Rattle.mg_engine_demand_laws.specs.Fates.{StoodBefore}
use Rattle.mg_engine_demand_laws.specs.Stores.{BatchPays, WantsAll}
use Rattle.mg_engine_demand_laws.specs.Wanted.{IsPageOf}

-- An active transaction, which has not asked for its commit, writes into a table that stands on the pages; these are a
-- sound image by some choice which of the active ones count as in limbo: all of them, or all but the one that takes back
-- the rows of the catalog of a table, between two of them.
pub record WritesInto {D L : Type 0} (store : Pool D L) (image : Image) (fates : Fates) (layout : Layout) (r : Reading)
    (t : ℕ) (table : Table) : Type 0 where
  pub lawful : IsGeometry store.geometry
  pub limbo : ℕ → Bool
  pub sound : IsSoundBy packed_form store.geometry.size (left_state limbo fates.state) (shown store.dirty image) layout r
  pub active : fates.state t ≡ Active
  pub not_asked : fates.asked t ≡ false
  pub stands : IsTableOf layout table

-- what is known of the store whenever a batch of the transaction is filled
abbrev pub Knows : {D : Type 0} → Pool D FireLinks → Image → Fates → Layout → Reading → ℕ → Table → DemandSet → Type 0
Knows store image fates layout r t table wanted = WritesInto store image fates layout r t table
    × WantsAll store.geometry.size (shown store.dirty image) fates layout wanted

-- a place for a record is taken
abbrev pub PlacesPay : Type 0 → Type 0
PlacesPay D = (store : Pool D FireLinks) (image : Image) (fates : Fates) (layout later : Layout) (r : Reading) (t : ℕ)
    (table : Table) (wanted : DemandSet) (batch : Changed) (at : RecId)
    → Knows store image fates layout r t table wanted → StoodBefore layout later
    → GivesSpot store image nothing_yet batch table.pointer.0 at
    → BatchPays store image fates layout later [] wanted batch

-- a record is made at a free place of the table, with its first version
abbrev pub FirstsPay : Type 0 → Type 0
FirstsPay D = (store : Pool D FireLinks) (image : Image) (fates : Fates) (layout later : Layout) (r : Reading) (t : ℕ)
    (table : Table) (wanted : DemandSet) (batch : Changed) (at : RecId) (v : Version)
    → Knows store image fates layout r t table wanted → StoodBefore layout later
    → MakesRecord store image nothing_yet batch table.pointer.0 at v → v.tx.0 ≡ t → IsPageOf layout at.page.0 table
    → cells_of (shown store.dirty image) at ≡ None
    → BatchPays store image fates layout later [] wanted batch

-- a version is pushed over one of a transaction that has committed
abbrev pub PushesPay : Type 0 → Type 0
PushesPay D = (store : Pool D FireLinks) (image : Image) (fates : Fates) (layout later : Layout) (r : Reading) (t : ℕ)
    (table : Table) (wanted : DemandSet) (batch : Changed) (rec : RecId) (v : Version)
    → Knows store image fates layout r t table wanted → StoodBefore layout later
    → (pushes : Pushes store image nothing_yet batch rec v) → v.tx.0 ≡ t → IsPageOf layout rec.page.0 table
    → fates.state pushes.newest.tx.0 ≡ Committed
    → BatchPays store image fates layout later [] wanted batch

-- a table gets a page with so much room, if it has none
abbrev pub GrowthPays : Type 0 → Type 0
GrowthPays D = (store : Pool D FireLinks) (image : Image) (fates : Fates) (layout later : Layout) (r : Reading) (t : ℕ)
    (table : Table) (wanted : DemandSet) (batch : Changed) (need : ℕ) (n : PageNo)
    → Knows store image fates layout r t table wanted → StoodBefore layout later
    → GivesRoom store image nothing_yet batch table.pointer.0 need n
    → BatchPays store image fates layout later [] wanted batch

-- each table of the later layout stood before, or begins at a page
abbrev pub StoodOrBegins : Layout → Layout → ℕ → Type 0
StoodOrBegins layout later page = (table : Table) → IsTableOf later table
    → IsTableOf layout table ⊎ (table.pointer.0 ≡ page)

-- a new table is put, with the rows of the catalog that say it; the catalog stands in the layout
abbrev pub MakingPays : Type 0 → Type 0
MakingPays D = (store : Pool D FireLinks) (image : Image) (fates : Fates) (layout later : Layout) (r : Reading) (t : ℕ)
    (table catalog : Table) (wanted : DemandSet) (name : List ℕ) (shape : Shape) (batch : Changed)
    → Knows store image fates layout r t table wanted → catalog.pointer.0 ≡ table.pointer.0
    → (fills : FillsTable store image catalog t name shape nothing_yet batch) → StoodOrBegins layout later fills.page
    → BatchPays store image fates layout later [] wanted batch

-- the transaction's own newest version is replaced, in its cell or another one
abbrev pub ReplacementsPay : Type 0 → Type 0
ReplacementsPay D = (store : Pool D FireLinks) (image : Image) (fates : Fates) (layout later : Layout) (r : Reading)
    (t : ℕ) (table : Table) (wanted : DemandSet) (batch : Changed) (rec : RecId) (v : Version)
    → Knows store image fates layout r t table wanted → StoodBefore layout later
    → Replaces store image nothing_yet batch rec v → v.tx.0 ≡ t → IsPageOf layout rec.page.0 table
    → BatchPays store image fates layout later [] wanted batch

-- a newest version is taken out, of a transaction that has not committed: its own, or one that is dead
abbrev pub TakingOutPays : Type 0 → Type 0
TakingOutPays D = (store : Pool D FireLinks) (image : Image) (fates : Fates) (layout later : Layout) (r : Reading)
    (t : ℕ) (table : Table) (wanted : DemandSet) (batch : Changed) (rec : RecId)
    → Knows store image fates layout r t table wanted → StoodBefore layout later
    → (takes : TakesOut store image nothing_yet batch rec) → IsPageOf layout rec.page.0 table
    → is_committed (fates.state takes.newest.tx.0) ≡ false
    → BatchPays store image fates layout later [] wanted batch
