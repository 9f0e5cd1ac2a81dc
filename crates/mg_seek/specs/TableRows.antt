-- The rows that a transaction sees of a table, and the tables that its catalog names.
use Rattle.std.specs.Prelude.{◌≡◌, ◌≢◌, ◌⊎◌, ℕ, List, [], ◌∷◌, ◌++◌, length, Option, None, Some}
use Rattle.mg_base.specs.Disk.{Meaning}
use Rattle.mg_base.specs.declared.damage.Damaged.{Damaged}
use Rattle.mg_base.specs.declared.damage.Field.TheVariants as fields
use Rattle.mg_base.specs.declared.numbers.RecId.{RecId}
use Rattle.mg_base.specs.declared.numbers.TxNo.{TxNo}
use Rattle.mg_base.specs.declared.transaction.TxState.{TxState}
use Rattle.mg_catalog.specs.ByKey.{by_key}
use Rattle.mg_catalog.specs.FirstBad.{IsFirstBad}
use Rattle.mg_catalog.specs.declared.fault.CatFault.TheVariants.{BadTable}
use Rattle.mg_chain.specs.Refusals.{damage}
use Rattle.mg_image.specs.Form.{Pages, Row}
use Rattle.mg_model.specs.CatalogRules.{AreTables}
use Rattle.mg_model.specs.declared.table.Table.{Table}
use Rattle.mg_pool.specs.declared.batch.BatchPage.{BatchPage}
use Rattle.mg_pool.specs.declared.fault.PoolFault.TheVariants as pool_faults
use Rattle.mg_pool.specs.declared.pool.Pool.{Pool}
use Rattle.mg_snap.specs.Live.{State}
use Rattle.mg_space.specs.declared.fault.SpaceFault.{SpaceFault}
use Rattle.mg_space.specs.declared.fault.SpaceFault.TheVariants as faults
use Rattle.mg_seek.specs.declared.whose.Wanted.TheVariants.{SeenBy}
use Rattle.mg_seek.specs.Speaking.{IsTableDamage}
use Rattle.mg_seek.specs.TableRecords.{AreTableRecords}
use Rattle.mg_seek.specs.Versions.{wants}
use Rattle.mg_seek.specs.Views.{IsRowSeen}

-- a row in front of others, if there is one
abbrev pub with_row : Option Row → List Row → List Row
with_row None rows = rows
with_row (Some row) rows = row ∷ rows

-- these are the rows that a transaction sees of some records, in the order of the records
abbrev pub AreSeen : (ℕ → TxState) → State → TxNo → Pages → Table → List RecId → List Row → Type 0
AreSeen state live t view table [] rows = rows ≡ []
AreSeen state live t view table (rec ∷ recs) rows = (row : Option Row) × (later : List Row)
    × IsRowSeen state live t view table rec row × AreSeen state live t view table recs later
    × (rows ≡ with_row row later)

-- These are the rows that a transaction sees of the records of a table, in the order of the records.
pub record AreRowsSeen (state : ℕ → TxState) (live : State) (t : TxNo) (view : Pages) (table : Table)
    (rows : List Row) : Type 0 where
  pub records : List RecId
  pub of_table : AreTableRecords view table.pointer.0 records
  pub seen : AreSeen state live t view table records rows

-- the row that a transaction sees of a record is appended, if it sees one
abbrev pub AddsSeen : (ℕ → TxState) → State → TxNo → Pages → Table → RecId → List Row → List Row
    → Type 0
AddsSeen state live t view table rec old new = (row : Option Row)
    × IsRowSeen state live t view table rec row × (new ≡ old ++ with_row row [])

-- ---- the tables that a catalog names

-- the first of these tables that has a name, none where none has
abbrev pub FindsNamed : List Table → List ℕ → Option Table → Type 0
FindsNamed [] name found = found ≡ None
FindsNamed (table ∷ tables) name found = ((table.name ≡ name) × (found ≡ Some table))
    ⊎ ((table.name ≢ name) × FindsNamed tables name found)

-- the table of a name among those that rows of a catalog name
abbrev pub NamesTable : List Row → List ℕ → Option Table → Type 0
NamesTable rows name found =
    (tables : List Table) × AreTables (by_key rows) tables × FindsNamed tables name found

-- why rows of a catalog name no tables: one is not lawful, and the damage says the number of the first
-- and of all; or memory is wanting
abbrev pub RefusesTables : ℕ → List Row → SpaceFault → Type 0
RefusesTables page rows (faults.Full most) = ⊥
RefusesTables page rows (faults.Damaged it) = (at : ℕ) × IsFirstBad rows (BadTable at)
    × (it ≡ damage page fields.Catalog at (length rows))
RefusesTables page rows (faults.Pool fault) = fault ≡ pool_faults.Memory

-- The table of a name, among those that the rows of the catalog name which a transaction sees.
pub record IsTableSeen (state : ℕ → TxState) (live : State) (t : TxNo) (view : Pages)
    (catalog : Table) (name : List ℕ) (found : Option Table) : Type 0 where
  pub rows : List Row
  pub seen : AreRowsSeen state live t view catalog rows
  pub names : NamesTable rows name found

-- The rows of the catalog that a transaction sees name no tables.
pub record IsCatalogDamage (state : ℕ → TxState) (live : State) (t : TxNo) (view : Pages)
    (catalog : Table) (it : Damaged) : Type 0 where
  pub rows : List Row
  pub seen : AreRowsSeen state live t view catalog rows
  pub refused : RefusesTables catalog.pointer.0 rows (faults.Damaged it)

-- why the table of a name is not found, but for faults of the cache
abbrev pub RefusesTable : {D L : Type 0} → Meaning D → Pool D L → List BatchPage
    → (ℕ → TxState) → State → TxNo → Pages → Table → SpaceFault → Type 0
RefusesTable m store pages state live t view catalog (faults.Full most) = ⊥
RefusesTable m store pages state live t view catalog (faults.Damaged it) =
    IsTableDamage m store pages view (wants state live (SeenBy t)) catalog it
    ⊎ IsCatalogDamage state live t view catalog it
RefusesTable m store pages state live t view catalog (faults.Pool fault) = Unit {0}
