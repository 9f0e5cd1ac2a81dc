-- What the core takes out of the catalog in a batch is a row of the laws.
use Rattle.std.specs.Prelude.{◌≡◌, ℕ, Bool, false}
use Rattle.mg_base.specs.Image.{Image}
use Rattle.mg_base.specs.declared.transaction.TxState.{TxState}
use Rattle.mg_base.specs.declared.transaction.TxState.TheVariants.{Active}
use Rattle.mg_value.specs.declared.value.Value.{Value}
use Rattle.mg_image.specs.Catalog.{catalog_table}
use Rattle.mg_image.specs.Form.{packed_form}
use Rattle.mg_image.specs.Inventory.{header_of}
use Rattle.mg_image_overlay_laws.specs.kept.KeptImages.{IsKept}
use Rattle.mg_model.specs.declared.opening.Opening.{Opening}
use Rattle.mg_model.specs.declared.table.Table.{Table}
use Rattle.mg_model.specs.History.{Entries}
use Rattle.mg_overlay_laws.specs.Overlays.{left_state}
use Rattle.mg_pool.specs.Batch.{Changed}
use Rattle.mg_pool.specs.Pool.{shown}
use Rattle.mg_pool.specs.declared.pool.Pool.{Pool}
use Rattle.mg_snap.specs.Live.{State}
use Rattle.mg_tie_laws.specs.Changed.{fresh}
use Rattle.mg_table_unmaking.specs.Rows.{TakesRow}
use Rattle.mg_engine_step_laws.specs.tables_back.Outs.{TakesRowAway}

-- The record is one of the catalog with its key, if the pages are what they have to be where the transaction counts as dead.
abbrev pub RowsAreTaken : (D L : Type 0) → Type 0
RowsAreTaken D L = (store : Pool D L) (image : Image) (o : Opening) (h : Entries) (state : ℕ → TxState) (live : State)
    (by : ℕ) (table : Table) (key : Value) (batch : Changed) → state by ≡ Active
    → catalog_table (header_of (shown store.dirty image)).catalog.0 ≡ table
    → ((chosen : ℕ → Bool) → chosen by ≡ false → IsKept packed_form store.geometry.size o h (left_state chosen state)
    (shown store.dirty image) (shown store.dirty image))
    → TakesRow store image state live by table key fresh batch
    → TakesRowAway packed_form store image state by key batch
