-- What comes of a row whose record was found.
use Rattle.std.proofs.Common.{ℕ, Result, Ok, Err}
use Rattle.std.specs.Prelude.{MatchResult}
use Rattle.mg_base.specs.Disk.{Meaning}
use Rattle.mg_base.specs.Image.{Image}
use Rattle.mg_base.specs.declared.numbers.RecId.{RecId}
use Rattle.mg_base.specs.declared.transaction.TxState.{TxState}
use Rattle.mg_chain.specs.Writing.{TakesOut}
use Rattle.mg_chain.specs.WritingRefusals.{RefusesBackOut}
use Rattle.mg_model.specs.declared.table.Table.{Table}
use Rattle.mg_pool.specs.Batch.{Changed}
use Rattle.mg_pool.specs.declared.pool.Pool.{Pool}
use Rattle.mg_snap.specs.Live.{State}
use Rattle.mg_space.specs.View.{KeepsStore, viewed}
use Rattle.mg_space.specs.declared.fault.SpaceFault.{SpaceFault}
use Rattle.mg_value.specs.declared.value.Value.{Value}
use Rattle.mg_table_unmaking.specs.Rows.{IsAloneAt, RefusesRow, TakesRow, row_not_out}
use Rattle.mg_table_unmaking.proofs.ReadLemmas.{takes_out_on}

-- the record was found, and its version is taken out, or not
pub row_then : {D L : Type 0} (m : Meaning D) (a b after : Pool D L) (image : Image) (state : ℕ → TxState)
    (live : State) (t : ℕ) (table : Table) (key : Value) (rec : RecId) (old new : Changed)
    (result : Result (Unit {0}) SpaceFault) → IsAloneAt state live t (viewed a image old) table key rec
    → KeepsStore m a b
    → MatchResult result (λ _. TakesOut b image old new rec) (RefusesBackOut m b after image old rec)
    → MatchResult result (λ _. TakesRow a image state live t table key old new)
    (RefusesRow m a after image state live t table key old)
row_then m a b after image state live t table key rec old new (Ok x) at keeps out =
    record { rec = rec; at = at; out = takes_out_on m a b keeps image old new rec out }
row_then m a b after image state live t table key rec old new (Err fault) at keeps refused =
    row_not_out rec b at keeps refused
