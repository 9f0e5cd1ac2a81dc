-- A row of a table is taken out in a batch of its own, with its record.
use Rattle.std.specs.Prelude.{◌≡◌, ℕ, List, Option, None, Some}
use Rattle.mg_base.specs.Disk.{Meaning}
use Rattle.mg_base.specs.Image.{Image}
use Rattle.mg_base.specs.declared.numbers.RecId.{RecId}
use Rattle.mg_base.specs.declared.transaction.TxState.{TxState}
use Rattle.mg_chain.specs.Refusals.{RefusesChain}
use Rattle.mg_chain.specs.Writing.{TakesOut}
use Rattle.mg_chain.specs.WritingRefusals.{RefusesBackOut}
use Rattle.mg_image.specs.Form.{Pages}
use Rattle.mg_model.specs.declared.table.Table.{Table}
use Rattle.mg_pool.specs.Batch.{Changed}
use Rattle.mg_pool.specs.declared.batch.BatchPage.{BatchPage}
use Rattle.mg_pool.specs.declared.pool.Pool.{Pool}
use Rattle.mg_batches.specs.Batches.{ChangesOwn, FailsOwn, not_lawful, nothing_yet}
use Rattle.mg_seek.specs.Speaking.{IsSpeaker, RefusesTableRows}
use Rattle.mg_seek.specs.Versions.{IsFirst, wants}
use Rattle.mg_seek.specs.declared.walk.Placed.{Placed}
use Rattle.mg_seek.specs.declared.whose.Wanted.TheVariants.{Any, Living}
use Rattle.mg_snap.specs.Live.{State}
use Rattle.mg_space.specs.View.{KeepsStore, viewed}
use Rattle.mg_space.specs.declared.fault.SpaceFault.{SpaceFault}
use Rattle.mg_space.specs.declared.fault.SpaceFault.TheVariants as faults
use Rattle.mg_space.specs.declared.links.FireLinks.{FireLinks}
use Rattle.mg_value.specs.declared.value.Value.{Value}

-- ---- the record

-- the newest version of a record is the transaction's own, and there is none behind it
abbrev pub IsAlone : ℕ → Option Placed → Type 0
IsAlone t None = ⊥
IsAlone t (Some newest) = (newest.version.tx.0 ≡ t) × (newest.version.back ≡ None)

-- A record speaks for a key, and its one version is the transaction's own.
pub record IsAloneAt (state : ℕ → TxState) (live : State) (t : ℕ) (view : Pages) (table : Table) (key : Value)
    (rec : RecId) : Type 0 where
  pub spoken : IsSpeaker state live view table key (Some rec)
  pub newest : Option Placed
  pub first : IsFirst view (wants state live Any) rec newest
  pub alone : IsAlone t newest

-- Why no such record is found. That none speaks for the key, or that it has another version, no lawful engine meets.
pub data RefusesAloneAt {D L : Type 0} (m : Meaning D) (store : Pool D L) (pages : List BatchPage)
    (view : Pages) (state : ℕ → TxState) (live : State) (t : ℕ) (table : Table) (key : Value) (fault : SpaceFault)
    : Type 0 where
  alone_unspoken : RefusesTableRows m store pages view (wants state live Living) table fault
      → RefusesAloneAt m store pages view state live t table key fault
  alone_nobody : IsSpeaker state live view table key None → fault ≡ faults.Damaged not_lawful
      → RefusesAloneAt m store pages view state live t table key fault
  alone_unread : (rec : RecId) → IsSpeaker state live view table key (Some rec)
      → RefusesChain m store pages view rec fault
      → RefusesAloneAt m store pages view state live t table key fault
  alone_other : (rec : RecId) (newest : Option Placed) → IsSpeaker state live view table key (Some rec)
      → IsFirst view (wants state live Any) rec newest → (IsAlone t newest → ⊥) → fault ≡ faults.Damaged not_lawful
      → RefusesAloneAt m store pages view state live t table key fault

-- ---- a row

-- The row of a key is taken out: the record that speaks for it, by the pages as the batch has them, with its one version.
pub record TakesRow {D L : Type 0} (store : Pool D L) (image : Image) (state : ℕ → TxState) (live : State) (t : ℕ)
    (table : Table) (key : Value) (old new : Changed) : Type 0 where
  pub rec : RecId
  pub at : IsAloneAt state live t (viewed store image old) table key rec
  pub out : TakesOut store image old new rec

-- Why it is not: there is no such record, or its version is not taken out. Pages are read before that: then the cache is
-- `ready`.
pub data RefusesRow {D L : Type 0} (m : Meaning D) (old new : Pool D L) (image : Image) (state : ℕ → TxState)
    (live : State) (t : ℕ) (table : Table) (key : Value) (batch : Changed) (fault : SpaceFault) : Type 0 where
  row_not_found : RefusesAloneAt m new batch.pages (viewed old image batch) state live t table key
      fault → RefusesRow m old new image state live t table key batch fault
  row_not_out : (rec : RecId) (ready : Pool D L)
      → IsAloneAt state live t (viewed old image batch) table key rec → KeepsStore m old ready
      → RefusesBackOut m ready new image batch rec fault
      → RefusesRow m old new image state live t table key batch fault

-- ---- the batch

-- the row of this key is taken out in a batch of its own
abbrev pub TakesRowOut : {D : Type 0} → Meaning D → Pool D FireLinks → Pool D FireLinks → (ℕ → TxState) → State → ℕ
    → Table → Value → Type 0
TakesRowOut m before after state live t table key =
    ChangesOwn m before after (λ image batch. TakesRow before image state live t table key nothing_yet batch)

-- or it is not: the batch is not filled, or not changed
abbrev pub FailsRowOut : {D : Type 0} → Meaning D → Pool D FireLinks → Pool D FireLinks → (ℕ → TxState) → State → ℕ
    → Table → Value → SpaceFault → Type 0
FailsRowOut m before after state live t table key fault =
    FailsOwn m before after (λ image batch. TakesRow before image state live t table key nothing_yet batch)
    (λ image f. RefusesRow m before after image state live t table key nothing_yet f) fault
