-- The catalog gets few data pages for a new table: each of the rows that say it takes two empty ones at most, and where
-- it has as many, but for one, they come into a lawful batch.
use Rattle.std.proofs.Common.{◌≡◌, ◌≤◌, ◌+◌, ◌*◌, ◌∷◌, [], ℕ, suc, true, List, length, refl, ap, arith}
use Rattle.mg_base.specs.Disk.{Meaning}
use Rattle.mg_base.specs.Image.{Image}
use Rattle.mg_base.specs.declared.numbers.TxNo.{TxNo}
use Rattle.mg_catalog.specs.RowsSaid.{column_rows}
use Rattle.mg_core.specs.Cores.{IsCore}
use Rattle.mg_core.specs.declared.parts.Core.{Core}
use Rattle.mg_engine_change_laws.specs.tables.MakingSteps.{MayHave}
use Rattle.mg_engine_meaning_laws.specs.Meaning.{Places}
use Rattle.mg_engine_meaning_laws.specs.Standings.{StandsFor}
use Rattle.mg_image.specs.Form.{Row}
use Rattle.mg_model.specs.History.{Entries}
use Rattle.mg_model.specs.declared.opening.Opening.{Opening}
use Rattle.mg_model.specs.declared.table.Table.{Table}
use Rattle.mg_pool.specs.Batch.{Changed}
use Rattle.mg_pool.specs.declared.pool.Pool.{Pool}
use Rattle.mg_records.specs.declared.write.Write.TheVariants as writes
use Rattle.mg_row_writes.specs.Storing.{IsStored}
use Rattle.mg_space.specs.View.{Tells, viewed}
use Rattle.mg_space.specs.declared.links.FireLinks.{FireLinks}
use Rattle.mg_table_batch.specs.Filling.{TakesFirst, rows_at}
use Rattle.mg_table_batch.specs.Making.{GrowsAsWanted}
use Rattle.mg_table_making.specs.Creating.{MayBeMade}
use Rattle.mg_value.specs.declared.shape.Column.{Column}
use Rattle.mg_value.specs.declared.shape.Shape.{Shape}
use Rattle.mg_version.specs.declared.cell.Version.{Version}
use Rattle.mg_no_damage_laws.specs.EmptyPages.{HasEmpty}
use Rattle.mg_no_damage_laws.specs.NewTables.{EachRow}
use Rattle.mg_no_damage_laws.specs.Sees.{no_batch}

-- ---- how many rows say a table

column_count : (name : List ℕ) (key place : ℕ) (columns : List Column)
    → length (column_rows name key place columns) ≡ length columns
column_count name key place [] = refl
column_count name key place (column ∷ columns) = ap suc (column_count name key (place + 1) columns)

pub rows_count : (name : List ℕ) (shape : Shape) (page : ℕ)
    → length (rows_at name shape page) ≡ length shape.columns + 1
rows_count name shape page =
    let columns = column_count name shape.key 0 shape.columns in omega (arith, columns)

-- each version of t that stores a row of the catalog is short
abbrev pub StoresShort : Table → ℕ → Row → Type 0
StoresShort catalog t row = (v : Version) → IsStored catalog t (writes.Insert row) v → length v.body ≤ 216

-- The catalog has got so many data pages for a new table. They are few; the rows that say the table are short; and once
-- its first page is taken, as many data pages of the catalog are empty.
pub record HasGrown {D : Type 0} (m : Meaning D) (store : Pool D FireLinks) (catalog : Table) (t : ℕ)
    (name : List ℕ) (shape : Shape) (count : ℕ) : Type 0 where
  pub few : count ≤ 2 * length shape.columns + 1
  pub short : (page : ℕ) → EachRow (StoresShort catalog t) (rows_at name shape page)
  pub empty : (image : Image) → Tells m store.disk image → (begun : Changed) (page : ℕ)
      → TakesFirst store image no_batch begun page
      → HasEmpty store.geometry.size (viewed store image begun) catalog.pointer.0 count

-- so it is at an engine that stands for a history, where a table may be made
abbrev pub CreationsGrowFew : (D P : Type 0) → Meaning D → Type 0
CreationsGrowFew D P m = (places : Places P) (old free : Core D) (t : TxNo) (name : List ℕ) (shape : Shape)
    → IsCore m old → MayHave m places old name shape → MayBeMade m old free t name shape
    → (o : Opening) (h : Entries) → StandsFor m old o h → m.tells old.store.disk ≡ true
    → (count : ℕ) (grown : Pool D FireLinks) → GrowsAsWanted m free.catalog t.0 name shape count free.store grown
    → HasGrown m grown free.catalog t.0 name shape count
