-- The laws of catalogs: which tables rows name, and which rows say a table.
use Rattle.std.specs.Prelude.{◌≡◌, ℕ, List}
use Rattle.mg_model.specs.declared.table.Table.{Table}
use Rattle.mg_model.specs.Changes.{Cells}
use Rattle.mg_model.specs.Catalog.{CatalogRows}
use Rattle.mg_model.specs.CatalogRules.{AreTables, IsCatalog, IsTable}
use Rattle.mg_catalog.specs.declared.fault.CatFault.TheVariants.{BadTable}
use Rattle.mg_catalog.specs.ByKey.{HaveOwnKeys, by_key}
use Rattle.mg_catalog.specs.FirstBad.{IsFirstBad}
use Rattle.mg_catalog.specs.RowsSaid.{HasEach, HasOwnName, rows_said}

-- rows name one list of tables, and no other
abbrev pub TablesAreOnce : Type 0
TablesAreOnce = (rows : CatalogRows) (ss ts : List Table) → AreTables rows ss → AreTables rows ts
    → ss ≡ ts

-- rows of which one is not lawful name none, where no two have one key
abbrev pub BadNameNone : Type 0
BadNameNone = (rows : List Cells) (at : ℕ) → HaveOwnKeys rows → IsFirstBad rows (BadTable at)
    → (tables : List Table) → AreTables (by_key rows) tables → ⊥

-- the rows that say a table are among those that name it, where no index of it beside the primary
-- one has its name
abbrev pub SaidAreThere : Type 0
SaidAreThere = (rows : CatalogRows) (t : Table) → IsCatalog rows → (is : IsTable rows t)
    → HasOwnName rows t is → HasEach rows (rows_said t)
