-- What stands at a key before it is written, and the way of the write.
use Rattle.std.specs.Prelude.{◌≡◌, ◌==◌, ℕ, Bool, true, false, Option, None, Some, if◌then◌else◌}
use Rattle.mg_base.specs.declared.numbers.RecId.{RecId}
use Rattle.mg_base.specs.declared.transaction.TxState.{TxState}
use Rattle.mg_chain.specs.Views.{is_dead}
use Rattle.mg_image.specs.Form.{Pages, Row}
use Rattle.mg_model.specs.declared.table.Table.{Table}
use Rattle.mg_snap.specs.Live.{State}
use Rattle.mg_undo.specs.declared.changes.Was.{Was}
use Rattle.mg_undo.specs.declared.changes.Was.TheVariants as wases
use Rattle.mg_version.specs.declared.cell.Version.{Version}
use Rattle.mg_seek.specs.Rows.{GivesRow}
use Rattle.mg_seek.specs.Versions.{IsFirst, wants}
use Rattle.mg_seek.specs.declared.walk.Placed.{Placed}
use Rattle.mg_seek.specs.declared.whose.Wanted.TheVariants.{Any}
use Rattle.mg_row_writes.specs.declared.before.Before.{Before}
use Rattle.mg_row_writes.specs.declared.before.Way.TheVariants as ways

-- what a transaction's own newest version gave the key
abbrev pub IsWas : Bool → Table → Version → Was → Type 0
IsWas true table v was = was ≡ wases.Deleted
IsWas false table v was = (row : Row) × (was ≡ wases.Row row) × GivesRow table v row

-- The newest version of a record is the transaction's own: it is replaced.
pub record OwnBefore (table : Table) (rec : RecId) (v : Version) (b : Before) : Type 0 where
  pub way : b.way ≡ ways.Replace rec
  pub was : IsWas v.deleted table v b.was

-- it is another one's: the write goes over it, and a dead transaction's is taken out first
abbrev pub before_other : (ℕ → TxState) → RecId → ℕ → Before
before_other state rec by = record {
  way = if is_dead (state by) then ways.PushOverDead rec else ways.Push rec;
  was = wases.Untouched;
}

abbrev pub IsBeforeBy : Bool → (ℕ → TxState) → Table → RecId → Version → Before → Type 0
IsBeforeBy true state table rec v b = OwnBefore table rec v b
IsBeforeBy false state table rec v b = b ≡ before_other state rec v.tx.0

-- by the newest version of a record, if there is one
abbrev pub IsBeforeOf : (ℕ → TxState) → ℕ → Table → RecId → Option Placed → Before → Type 0
IsBeforeOf state t table rec None b = b ≡ record { way = ways.Push rec; was = wases.Untouched }
IsBeforeOf state t table rec (Some p) b = IsBeforeBy (p.version.tx.0 == t) state table rec p.version b

-- What stands in a record before a transaction writes there, by its newest version.
pub record IsBeforeIn (state : ℕ → TxState) (live : State) (t : ℕ) (view : Pages) (table : Table) (rec : RecId)
    (b : Before) : Type 0 where
  pub newest : Option Placed
  pub first : IsFirst view (wants state live Any) rec newest
  pub is : IsBeforeOf state t table rec newest b

-- what stands at a key: nothing, where no record speaks for it
abbrev pub IsBefore : (ℕ → TxState) → State → ℕ → Pages → Table → Option RecId → Before → Type 0
IsBefore state live t view table None b = b ≡ record { way = ways.Make; was = wases.Untouched }
IsBefore state live t view table (Some rec) b = IsBeforeIn state live t view table rec b
