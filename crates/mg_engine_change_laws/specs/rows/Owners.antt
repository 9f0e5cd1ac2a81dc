-- A table that a transaction sees it may write into.
use Rattle.std.specs.Prelude.{◌≡◌, ℕ, Bool, List, Some}
use Rattle.mg_base.specs.declared.transaction.TxState.TheVariants.{Active}
use Rattle.mg_value.specs.declared.shape.Shape.{Shape}
use Rattle.mg_grown_catalog_laws.specs.Grown.{CatalogGrows}
use Rattle.mg_image_overlay_laws.specs.tables.Growing.{IsTableOf}
use Rattle.mg_image.specs.Form.{Pages, packed_form}
use Rattle.mg_image_overlay_laws.specs.kept.KeptImages.{IsKept}
use Rattle.mg_model.specs.declared.opening.Opening.{Opening}
use Rattle.mg_model.specs.declared.table.Table.{Table}
use Rattle.mg_model.specs.History.{Entries}
use Rattle.mg_model.specs.Machine.{state_of}
use Rattle.mg_overlay_laws.specs.Overlays.{left_state}
use Rattle.mg_records.specs.Reading.{shape_seen}
use Rattle.mg_engine_step_laws.specs.standing.Standing.{Standing, Stands}
use Rattle.mg_engine_meaning_laws.specs.PlainTables.{HasPlainTables}
use Rattle.mg_engine_step_laws.specs.writes.Knowing.{MayWriteInto}

-- no table has an index, and the pages are what they have to be under each choice: then a table that stands on the
-- pages and has a name under which an active transaction sees one is its own, or a committed row of the catalog names it
abbrev pub SeenMayBeWritten : Type 0
SeenMayBeWritten = (size : ℕ) (o : Opening) (h : Entries) (s : Standing) (pages : Pages)
    (stands : Stands packed_form size o h s (Some pages)) (t : ℕ) (name : List ℕ) (shape : Shape) (its : Table)
    → ((chosen : ℕ → Bool) → IsKept packed_form size o h (left_state chosen s.state) pages pages)
    → HasPlainTables size s.state pages → CatalogGrows o h → state_of o h t ≡ Active
    → shape_seen o h t name ≡ Some shape → IsTableOf stands.shows.layout its → its.name ≡ name
    → MayWriteInto packed_form size s.state pages stands.shows.layout stands.shows.reading t its
