-- A table in which a record has a transaction's own version may be written into by it.
use Rattle.std.specs.Prelude.{◌≡◌, ◌≢◌, ℕ, Bool, List, ◌∷◌, Some}
use Rattle.mg_base.specs.declared.numbers.RecId.{RecId}
use Rattle.mg_base.specs.declared.transaction.TxState.TheVariants.{Active}
use Rattle.mg_engine_meaning_laws.specs.PlainTables.{HasPlainTables}
use Rattle.mg_engine_step_laws.specs.writes.Knowing.{MayWriteInto}
use Rattle.mg_image.specs.Form.{Pages, packed_form}
use Rattle.mg_image.specs.Records.{Reading, writer}
use Rattle.mg_image.specs.Sound.{IsSoundBy}
use Rattle.mg_image.specs.Tables.{Layout, stands_of, table_at}
use Rattle.mg_image.specs.declared.entry.Entry.{Entry as Read}
use Rattle.mg_image_overlay_laws.specs.kept.KeptImages.{IsKept}
use Rattle.mg_model.specs.Catalog.{catalog_name}
use Rattle.mg_model.specs.History.{Entries}
use Rattle.mg_model.specs.Openings.{everyone}
use Rattle.mg_model.specs.declared.opening.Opening.{Opening}
use Rattle.mg_model.specs.declared.table.Table.{Table}
use Rattle.mg_overlay_laws.specs.Overlays.{left_state}
use Rattle.mg_engine_step_laws.specs.standing.Standing.{Standing}

-- on sound pages whose tables are plain, and which are what they have to be under each choice, whatever history they
-- show or none
abbrev pub ItsTablesMayBeWritten : Type 0
ItsTablesMayBeWritten = (size : ℕ) (o : Opening) (h : Entries) (s : Standing) (pages : Pages) (layout : Layout)
    (reading : Reading) → IsSoundBy packed_form size (left_state everyone s.state) pages layout reading
    → ((chosen : ℕ → Bool) → IsKept packed_form size o h (left_state chosen s.state) pages pages)
    → HasPlainTables size s.state pages → (t : ℕ) → s.state t ≡ Active → (its : Table) → its.name ≢ catalog_name
    → (rec : RecId) (newest : Read) (older : List Read) → table_at (stands_of layout) rec.page.0 ≡ Some its
    → reading rec ≡ newest ∷ older → writer newest ≡ t
    → MayWriteInto packed_form size s.state pages layout reading t its
