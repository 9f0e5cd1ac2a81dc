-- Catalogs are lawful to each transaction that reads them.
use Rattle.std.specs.Prelude.{◌≡◌, ◌<◌, ℕ, List, length}
use Rattle.mg_base.specs.declared.numbers.TxNo.{TxNo}
use Rattle.mg_base.specs.declared.transaction.TxState.TheVariants.{Active}
use Rattle.mg_model.specs.declared.opening.Opening.{Opening}
use Rattle.mg_model.specs.Catalog.{catalog_name}
use Rattle.mg_model.specs.Changes.{row_at}
use Rattle.mg_model.specs.History.{Entries}
use Rattle.mg_model.specs.Legal.{IsLegal, MayBegin}
use Rattle.mg_model.specs.Machine.{base, database, state_of}
use Rattle.mg_model.specs.Openings.{IsToldCatalog}
use Rattle.mg_catalog.specs.FirstBad.{IsLawfulAt}
use Rattle.mg_image.specs.Form.{Pages, Row}
use Rattle.mg_seek.specs.TableRows.{AreRowsSeen}
use Rattle.mg_grown_catalog_laws.specs.Grown.{CatalogGrows}
use Rattle.mg_engine_step_laws.specs.standing.Standing.{Standing}
use Rattle.mg_engine_step_laws.specs.standing.Known.{KnowsPages}

-- the catalog of the database is lawful, as the history has it
abbrev pub DatabasesAreLawful : Type 0
DatabasesAreLawful = (size : ℕ) (o : Opening) (h : Entries) (s : Standing) (pages : Pages)
    → KnowsPages size o h s pages → IsToldCatalog (row_at (database o h) catalog_name)

-- each row of the catalog that an active transaction sees is lawful among those that it sees, however old its base is, where
-- the base's catalog is lawful as the history has it
abbrev pub SeenRowsAreLawful : Type 0
SeenRowsAreLawful = (size : ℕ) (o : Opening) (h : Entries) (s : Standing) (pages : Pages)
    (knows : KnowsPages size o h s pages) (t : TxNo) (rows : List Row) → MayBegin o → IsLegal o h
    → CatalogGrows o h → state_of o h t.0 ≡ Active → IsToldCatalog (row_at (base o h t.0) catalog_name)
    → AreRowsSeen s.state s.live t pages knows.shows.layout.catalog.table rows
    → (at : ℕ) → at < length rows → IsLawfulAt rows at
