-- The record that speaks for a key, among some candidates.
use Rattle.std.specs.Prelude.{◌⊎◌, ℕ, Bool, List, Option, None, Some}
use Rattle.mg_base.specs.Disk.{Meaning}
use Rattle.mg_base.specs.declared.damage.Damaged.{Damaged}
use Rattle.mg_base.specs.declared.numbers.RecId.{RecId}
use Rattle.mg_base.specs.declared.transaction.TxState.{TxState}
use Rattle.mg_heap.specs.Listed.{IsRecordOf, RefusesRecordOf}
use Rattle.mg_image.specs.Form.{Pages}
use Rattle.mg_model.specs.declared.table.Table.{Table}
use Rattle.mg_pool.specs.declared.batch.BatchPage.{BatchPage}
use Rattle.mg_pool.specs.declared.pool.Pool.{Pool}
use Rattle.mg_snap.specs.Live.{State}
use Rattle.mg_space.specs.declared.fault.SpaceFault.{SpaceFault}
use Rattle.mg_space.specs.declared.fault.SpaceFault.TheVariants as faults
use Rattle.mg_value.specs.declared.value.Value.{Value}
use Rattle.mg_seek.specs.Refusals.{IsRecordDamage}
use Rattle.mg_seek.specs.Speaking.{Speaks}
use Rattle.mg_seek.specs.TableRecords.{AreTableRecords, IsAmong}

-- A record of a table speaks for a key.
pub record SpeaksOf (state : ℕ → TxState) (live : State) (view : Pages) (table : Table) (key : Value)
    (rec : RecId) : Type 0 where
  pub its : IsRecordOf view table.pointer.0 rec
  pub speaks : Speaks state live view table key rec

-- one of the candidates is a record of the table that speaks for a key, or none is
abbrev pub FoundAmong : (ℕ → TxState) → State → Pages → Table → Value → List RecId → Option RecId
    → Type 0
FoundAmong state live view table key candidates None =
    (rec : RecId) → IsAmong candidates rec → SpeaksOf state live view table key rec → ⊥
FoundAmong state live view table key candidates (Some rec) =
    IsAmong candidates rec × SpeaksOf state live view table key rec

-- why it is not told whether a candidate is a record of a table that speaks for a key: the table's chain
-- breaks before the place that its page names, or it is one, and is damaged
abbrev pub RefusesCandidate : {D L : Type 0} → Meaning D → Pool D L → List BatchPage → Pages
    → (ℕ → Bool) → Table → RecId → SpaceFault → Type 0
RefusesCandidate m store pages view takes table rec (faults.Full most) = ⊥
RefusesCandidate m store pages view takes table rec (faults.Damaged it) =
    RefusesRecordOf m store pages view table.pointer.0 rec (faults.Damaged it)
    ⊎ (IsRecordOf view table.pointer.0 rec × IsRecordDamage m store pages view takes table rec it)
RefusesCandidate m store pages view takes table rec (faults.Pool fault) = Unit {0}

-- One of the candidates is not told of.
pub record IsStopped {D L : Type 0} (m : Meaning D) (store : Pool D L) (pages : List BatchPage)
    (view : Pages) (takes : ℕ → Bool) (table : Table) (candidates : List RecId) (it : Damaged)
    : Type 0 where
  pub rec : RecId
  pub among : IsAmong candidates rec
  pub refused : RefusesCandidate m store pages view takes table rec (faults.Damaged it)

-- why who speaks is not found among the candidates
abbrev pub RefusesCandidates : {D L : Type 0} → Meaning D → Pool D L → List BatchPage → Pages
    → (ℕ → Bool) → Table → List RecId → SpaceFault → Type 0
RefusesCandidates m store pages view takes table candidates (faults.Full most) = ⊥
RefusesCandidates m store pages view takes table candidates (faults.Damaged it) =
    IsStopped m store pages view takes table candidates it
RefusesCandidates m store pages view takes table candidates (faults.Pool fault) = Unit {0}

-- Candidates are enough: each record of the table is told to be one, and each that speaks for the key is
-- among them. They may be others, too.
pub record AreEnough (state : ℕ → TxState) (live : State) (view : Pages) (table : Table) (key : Value)
    (candidates : List RecId) : Type 0 where
  pub records : List RecId
  pub of_table : AreTableRecords view table.pointer.0 records
  pub told : (rec : RecId) → IsAmong records rec → IsRecordOf view table.pointer.0 rec
  pub whole : (rec : RecId) → IsAmong records rec → Speaks state live view table key rec
      → IsAmong candidates rec
