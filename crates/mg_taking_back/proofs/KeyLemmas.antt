-- One key is taken back.
use Rattle.std.proofs.Common.{◌≡◌, ℕ, Option, Result, Ok, Err, subst}
use Rattle.std.specs.Prelude.{MatchResult}
use Rattle.mg_base.specs.Disk.{Meaning}
use Rattle.mg_base.specs.Image.{Image}
use Rattle.mg_base.specs.declared.numbers.RecId.{RecId}
use Rattle.mg_base.specs.declared.transaction.TxState.{TxState}
use Rattle.mg_model.specs.declared.table.Table.{Table}
use Rattle.mg_pool.specs.Fault.{StaysOnline}
use Rattle.mg_pool.specs.Pool.{shown}
use Rattle.mg_pool.specs.declared.pool.Pool.{Pool}
use Rattle.mg_records.specs.Writing.{FitsShape}
use Rattle.mg_records.specs.declared.write.Write.{Write}
use Rattle.mg_row_writes.specs.Laying.{EntersOwn, FailsEnterOwn, KeysMayBeLaid}
use Rattle.mg_row_writes.specs.Storing.{IsStored, MayBeStored}
use Rattle.mg_snap.specs.Live.{State}
use Rattle.mg_space.specs.View.{KeepsStore, Tells}
use Rattle.mg_space.specs.declared.fault.SpaceFault.{SpaceFault}
use Rattle.mg_space.specs.declared.links.FireLinks.{FireLinks}
use Rattle.mg_undo.specs.declared.changes.Was.{Was}
use Rattle.mg_value.specs.declared.value.Value.{Value}
use Rattle.mg_version.specs.declared.cell.Version.{Version}
use Rattle.mg_taking_back.specs.Formers.{MayComeBack}
use Rattle.mg_taking_back.specs.Keys.{FailsKey, FailsPuttingBack, FailsReplacingBy, IsOwnAt, PutsBack, ReplacesBy, TakesKey, former, former_not_put, key_not_put}

-- the version of a write was put in place, after the entries of its row, or not
pub replaced_by : {D : Type 0} (m : Meaning D) (before after : Pool D FireLinks) (t : ℕ) (table : Table) (rec : RecId)
    (write : Write) (v : Version) (result : Result (Unit {0}) SpaceFault) → FitsShape table.shape write
    → IsStored table t write v → MayBeStored before.geometry.size table.pointer.0 v
    → KeysMayBeLaid before.geometry.size table write
    → MatchResult result (λ _. EntersOwn m before after table rec write v)
    (FailsEnterOwn m before after table rec write v)
    → MatchResult result (λ _. ReplacesBy m before after t table rec write)
    (FailsReplacingBy m before after t table rec write)
replaced_by m before after t table rec write v (Ok x) fits stored may short given = record {
  version = v;
  fits = fits;
  stored = stored;
  may = may;
  short = short;
  enters = given;
}
replaced_by m before after t table rec write v (Err fault) fits stored may short given =
    former_not_put v stored may short given

-- the record was read, and then what was came back, or not
pub key_comes : {D : Type 0} (m : Meaning D) (before ready after : Pool D FireLinks) (state : ℕ → TxState)
    (live : State) (t : ℕ) (table : Table) (key : Value) (was : Was) (rec : RecId) (write : Option Write)
    (result : Result (Unit {0}) SpaceFault) → MayComeBack table.shape key was → KeepsStore m before ready
    → StaysOnline m before ready
    → ((image : Image) → Tells m before.disk image
    → IsOwnAt state live t (shown before.dirty image) table key rec)
    → write ≡ former key was
    → MatchResult result (λ _. PutsBack m ready after t table rec write)
    (FailsPuttingBack m ready after t table rec write)
    → MatchResult result (λ _. TakesKey m before after state live t table key was)
    (FailsKey m before after state live t table key was)
key_comes m before ready after state live t table key was rec write (Ok x) may keeps online own is given = record {
  comes = may;
  rec = rec;
  ready = ready;
  keeps = keeps;
  online = online;
  own = own;
  puts = subst (λ (w : Option Write). PutsBack m ready after t table rec w) is given;
}
key_comes m before ready after state live t table key was rec write (Err fault) may keeps online own is given =
    key_not_put rec ready keeps online own
    (subst (λ (w : Option Write). FailsPuttingBack m ready after t table rec w fault) is given)
