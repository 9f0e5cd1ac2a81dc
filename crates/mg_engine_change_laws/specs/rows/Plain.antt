-- Tables stay plain where a record is written.
use Rattle.std.specs.Prelude.{◌≡◌, ◌≢◌, ℕ, Bool, List, Some}
use Rattle.mg_base.specs.declared.numbers.RecId.{RecId}
use Rattle.mg_base.specs.declared.transaction.TxState.{TxState}
use Rattle.mg_engine_step_laws.specs.writes.Writes.{ReadsAfter}
use Rattle.mg_image.specs.Form.{Pages, packed_form}
use Rattle.mg_image.specs.Records.{Reading}
use Rattle.mg_image.specs.Sound.{IsSoundBy}
use Rattle.mg_image.specs.Tables.{Layout, stands_of, table_at}
use Rattle.mg_image.specs.declared.entry.Entry.{Entry}
use Rattle.mg_image_overlay_laws.specs.kept.KeptImages.{IsKept}
use Rattle.mg_model.specs.declared.opening.Opening.{Opening}
use Rattle.mg_model.specs.declared.table.Table.{Table}
use Rattle.mg_model.specs.History.{Entries}
use Rattle.mg_model.specs.Openings.{everyone}
use Rattle.mg_overlay_laws.specs.Overlays.{left_state}
use Rattle.mg_engine_meaning_laws.specs.PlainTables.{HasPlainTables}

-- the record is of a table that is not the catalog: then the catalog's records are as they were, under each choice
abbrev pub WritesKeepPlain : Type 0
WritesKeepPlain = (size : ℕ) (o : Opening) (h : Entries) (state : ℕ → TxState) (pages later : Pages) (layout : Layout)
    (r : Reading) (rec : RecId) (es : List Entry) (table : Table)
    → IsSoundBy packed_form size (left_state everyone state) pages layout r
    → ReadsAfter packed_form size (left_state everyone state) pages later layout r rec es
    → table_at (stands_of layout) rec.page.0 ≡ Some table → table ≢ layout.catalog.table
    → ((chosen : ℕ → Bool) → IsKept packed_form size o h (left_state chosen state) pages pages)
    → HasPlainTables size state pages → HasPlainTables size state later
