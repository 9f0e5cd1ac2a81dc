-- A new table comes onto the pages without damage.
use Rattle.std.specs.Prelude.{◌≡◌, ◌≤◌, ◌<◌, ◌^◌, ℕ, None, List, [], ◌∷◌, length, All}
use Rattle.mg_base.specs.Disk.{Meaning}
use Rattle.mg_base.specs.Image.{Image}
use Rattle.mg_base.specs.declared.damage.Damaged.{Damaged}
use Rattle.mg_base.specs.declared.numbers.RecId.{RecId}
use Rattle.mg_base.specs.declared.transaction.TxState.{TxState}
use Rattle.mg_base.specs.declared.transaction.TxState.TheVariants.{Dead}
use Rattle.mg_tie_laws.specs.PushTies.{written}
use Rattle.mg_image.specs.Form.{Pages, Row, packed_coding}
use Rattle.mg_image.specs.Records.{Reading, key_of}
use Rattle.mg_image.specs.Sound.{facts_by}
use Rattle.mg_image.specs.Tables.{Layout}
use Rattle.mg_model.specs.declared.table.Table.{Table}
use Rattle.mg_no_damage_laws.specs.Batches.{ShowsSound}
use Rattle.mg_pool.specs.Pool.{shown}
use Rattle.mg_pool.specs.declared.pool.Pool.{Pool}
use Rattle.mg_space.specs.declared.fault.SpaceFault.TheVariants as faults
use Rattle.mg_space.specs.declared.links.FireLinks.{FireLinks}
use Rattle.mg_table_batch.specs.Filling.{StoresRow, rows_at}
use Rattle.mg_table_batch.specs.Making.{FailsTable}
use Rattle.mg_image_overlay_laws.specs.tables.Growing.{MayBeWritten}
use Rattle.mg_value.specs.Names.{IsName}
use Rattle.mg_value.specs.declared.shape.Shape.{Shape}
use Rattle.mg_value.specs.declared.shape.TheConstants.{MOST_COLUMNS}
use Rattle.mg_version.specs.declared.cell.Version.{Version}

-- of each of these rows something holds
abbrev pub EachRow : (Row → Type 0) → List Row → Type 0
EachRow P [] = Unit {0}
EachRow P (row ∷ rows) = P row × EachRow P rows

-- each version of t that stores a row of the catalog may be written, wherever it is put
abbrev pub MayBePut : ℕ → (ℕ → TxState) → Pages → Layout → Table → ℕ → Row → Type 0
MayBePut size state pages layout catalog t row = (at : RecId) (v : Version) → StoresRow size catalog t row v
    → MayBeWritten packed_coding (facts_by state pages layout) catalog (key_of catalog row) (written at v None row)

-- A new table of a name and a shape may be made by t: names are names, there are not too many columns, and whichever
-- page is its first, the rows that say it may be written.
pub record MayMake (size : ℕ) (state : ℕ → TxState) (pages : Pages) (layout : Layout) (catalog : Table) (t : ℕ)
    (name : List ℕ) (shape : Shape) : Type 0 where
  pub named : IsName name
  pub columns : All (λ column. IsName column.name) shape.columns
  pub most : length shape.columns ≤ MOST_COLUMNS
  pub rows : (page : ℕ) → page < 2 ^ 32
      → EachRow (MayBePut size state pages layout catalog t) (rows_at name shape page)

-- where a cache shows a sound image, in which the maker counts as dead, no damage is met as the table is made: what the
-- batch reads is there, the catalog gets the pages that it wants, and has enough of them at last
abbrev pub TablesAreMade : {D : Type 0} → Meaning D → Type 0
TablesAreMade {D} m = (before after : Pool D FireLinks) (image : Image) (state : ℕ → TxState) (layout : Layout)
    (r : Reading) → ShowsSound m before image state layout r → (catalog : Table) → layout.catalog.table ≡ catalog
    → (t : ℕ) → state t ≡ Dead → (name : List ℕ) (shape : Shape)
    → MayMake before.geometry.size state (shown before.dirty image) layout catalog t name shape → (it : Damaged)
    → FailsTable m catalog t name shape before after (faults.Damaged it) → ⊥
