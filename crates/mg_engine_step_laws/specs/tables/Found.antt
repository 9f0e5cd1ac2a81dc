-- Where a table stands that is found under a name.
use Rattle.std.specs.Prelude.{◌≡◌, ℕ, List, map, Some}
use Rattle.mg_base.specs.declared.numbers.TxNo.{TxNo}
use Rattle.mg_base.specs.declared.transaction.TxState.TheVariants.{Active}
use Rattle.mg_model.specs.declared.opening.Opening.{Opening}
use Rattle.mg_model.specs.declared.table.Table.{Table}
use Rattle.mg_model.specs.History.{Entries}
use Rattle.mg_model.specs.Legal.{IsLegal, MayBegin}
use Rattle.mg_model.specs.Machine.{base, state_of}
use Rattle.mg_model.specs.Openings.{IsToldCatalog}
use Rattle.mg_model.specs.Catalog.{catalog_name}
use Rattle.mg_model.specs.Changes.{row_at}
use Rattle.mg_image_overlay_laws.specs.tables.TableOwners.{IsOneOf}
use Rattle.mg_image.specs.Form.{Pages}
use Rattle.mg_seek.specs.TableRows.{IsTableSeen}
use Rattle.mg_engine_step_laws.specs.standing.Standing.{Standing}
use Rattle.mg_engine_step_laws.specs.standing.Known.{KnowsPages}
use Rattle.mg_grown_catalog_laws.specs.Grown.{CatalogGrows}

-- the table that is found under a name by the rows of the catalog that an active transaction sees is one of those of
-- the layout, with all its indexes, where the catalog of its base is lawful as the history has it
abbrev pub FoundTablesStand : Type 0
FoundTablesStand = (size : ℕ) (o : Opening) (h : Entries) (s : Standing) (pages : Pages)
    (knows : KnowsPages size o h s pages) (t : TxNo) (name : List ℕ) (table : Table) → MayBegin o
    → IsLegal o h → CatalogGrows o h → state_of o h t.0 ≡ Active
    → IsToldCatalog (row_at (base o h t.0) catalog_name)
    → IsTableSeen s.state s.live t pages knows.shows.layout.catalog.table name (Some table)
    → IsOneOf (map (λ stand. stand.table) knows.shows.layout.tables) table
