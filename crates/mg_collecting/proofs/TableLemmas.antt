-- Whether a slot is a record of a table, as pages are shown.
use Rattle.std.proofs.Common.{◌≡◌, ℕ, Bool, List, []}
use Rattle.std.specs.Prelude.{◌↔◌, IsTrue, MatchResult, Result, Ok, Err}
use Rattle.mg_base.specs.Disk.{Meaning}
use Rattle.mg_base.specs.Image.{Image}
use Rattle.mg_base.specs.declared.numbers.RecId.{RecId}
use Rattle.mg_heap.specs.Listed.{IsRecordOf, RefusesRecordOf}
use Rattle.mg_image.specs.Form.{Pages}
use Rattle.mg_pool.specs.Batch.{Changed}
use Rattle.mg_pool.specs.Pool.{shown}
use Rattle.mg_pool.specs.declared.batch.BatchPage.{BatchPage}
use Rattle.mg_pool.specs.declared.pool.Pool.{Pool}
use Rattle.mg_space.specs.View.{viewed}
use Rattle.mg_space.specs.declared.fault.SpaceFault.{SpaceFault}
use Rattle.mg_base.specs.declared.transaction.TxState.{TxState}
use Rattle.mg_model.specs.declared.table.Table.{Table}
use Rattle.mg_pool.specs.Fault.{StaysOnline}
use Rattle.mg_snap.specs.Live.{State}
use Rattle.mg_space.specs.View.{KeepsStore, Tells}
use Rattle.mg_space.specs.declared.links.FireLinks.{FireLinks}
use Rattle.mg_collecting.specs.Collecting.{Collects, CollectsOf, FailsCollecting, FailsCollectingOf, a_record, not_collected}
use Rattle.mg_collecting.proofs.EndLemmas.{at_empty}

-- what is told of a record
abbrev pub TellsRecord : {D L : Type 0} → Meaning D → Pool D L → ℕ → RecId → Result Bool SpaceFault
    → List BatchPage → Pages → Type 0
TellsRecord m store owner rec result pages view = MatchResult result (λ its. IsTrue its ↔ IsRecordOf view owner rec)
    (RefusesRecordOf m store pages view owner rec)

pub told_record : {D L : Type 0} (m : Meaning D) (before after : Pool D L) (image : Image) (batch : Changed) (owner : ℕ)
    (rec : RecId) (result : Result Bool SpaceFault) → batch.pages ≡ []
    → TellsRecord m after owner rec result batch.pages (viewed before image batch)
    → TellsRecord m after owner rec result [] (shown before.dirty image)
told_record m before after image batch owner rec result empty given =
    at_empty before image batch empty (TellsRecord m after owner rec result) given

-- a record of a table is collected, or not
pub collected_of : {D : Type 0} (m : Meaning D) (before ready after : Pool D FireLinks) (state : ℕ → TxState)
    (live : State) (table : Table) (rec : RecId) → KeepsStore m before ready → StaysOnline m before ready
    → ((image : Image) → Tells m before.disk image → IsRecordOf (shown before.dirty image) table.pointer.0 rec)
    → (result : Result Bool SpaceFault)
    → MatchResult result (Collects m ready after state live rec) (FailsCollecting m ready after state live rec)
    → MatchResult result (CollectsOf m before after state live table rec)
    (FailsCollectingOf m before after state live table rec)
collected_of m before ready after state live table rec keeps online is (Ok gone) given =
    a_record ready keeps online is given
collected_of m before ready after state live table rec keeps online is (Err fault) given =
    not_collected ready keeps online is given
