-- The stages of a table's making: the keys of its rows are free, the catalog has the pages that it needs, and all of the
-- table comes in one batch.
use Rattle.std.specs.Prelude.{◌≡◌, ℕ, List, None, Some}
use Rattle.mg_base.specs.Disk.{Meaning}
use Rattle.mg_base.specs.Image.{Image}
use Rattle.mg_base.specs.declared.numbers.TxNo.{TxNo}
use Rattle.mg_value.specs.declared.shape.Shape.{Shape}
use Rattle.mg_value.specs.declared.value.Value.{Value}
use Rattle.mg_model.specs.declared.opening.Opening.{Opening}
use Rattle.mg_model.specs.History.{Entries}
use Rattle.mg_records.specs.Writing.{rows_made}
use Rattle.mg_image.specs.Form.{packed_form}
use Rattle.mg_lasting_laws.specs.Crashes.{HoldsAcknowledged, LeavesSince}
use Rattle.mg_pool.specs.Pool.{IsPool, shown}
use Rattle.mg_pool.specs.declared.pool.Pool.{Pool}
use Rattle.mg_space.specs.Taking.{IsGeometry}
use Rattle.mg_space.specs.declared.links.FireLinks.{FireLinks}
use Rattle.mg_core.specs.declared.parts.Core.{Core}
use Rattle.mg_engine_change_laws.specs.tables.Rows.{AreLawful, with_rows}
use Rattle.mg_engine_meaning_laws.specs.Meaning.{Places}
use Rattle.mg_engine_meaning_laws.specs.Standings.{StandsFor}
use Rattle.mg_engine_change_laws.specs.memory.Stages.{StaysSo}
use Rattle.mg_engine_change_laws.specs.rows.Laid.{bare_standing}
use Rattle.mg_engine_change_laws.specs.rows.Walks.{WalkInto}
use Rattle.mg_engine_change_laws.specs.tables.Silent.{IsSilentIn}

-- A call came to a store without adding anything: it is online, and of the keys for which nobody spoke nobody speaks.
pub record HasCome {D P : Type 0} (m : Meaning D) (places : Places P) (old : Core D) (store : Pool D FireLinks) (t : ℕ)
    : Type 0 where
  pub so : StaysSo m places old (record old { store = store }) t
  pub up : store.offline ≡ None
  pub pool : IsPool m store
  pub geometry : IsGeometry store.geometry
  pub silent : (o : Opening) (h : Entries) → StandsFor m old o h → (key : Value) → IsSilentIn m old o h key
      → IsSilentIn m (record old { store = store }) o h key

-- An entry for each row of a new table is lawful as it comes, the engine stands for the history with them, what a crash
-- since the batch began might have left holds the history before them, and the walks of all others go on.
pub record GoesOnRows {D : Type 0} (m : Meaning D) (old new : Core D) (o : Opening) (h : Entries) (t : TxNo)
    (name : List ℕ) (shape : Shape) : Type 0 where
  pub lawful : AreLawful o t (rows_made name shape) h
  pub stands : StandsFor m new o (with_rows t (rows_made name shape) h)
  pub leaves : LeavesSince m old.store.disk new.store.disk (HoldsAcknowledged packed_form old.store.dirty.size o h)
  pub walks : (i : Image) → m.held old.store.disk ≡ Some i → WalkInto m old.store.geometry.size (bare_standing old)
      (shown old.store.dirty i) new.store (bare_standing new) t.0
