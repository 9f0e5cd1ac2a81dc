-- What a write makes of the memory of an engine.
use Rattle.std.specs.Prelude.{◌≡◌, ◌≢◌, ℕ, true, List, Option, None, Some}
use Rattle.mg_base.specs.declared.numbers.TxNo.{TxNo}
use Rattle.mg_base.specs.declared.transaction.TxState.TheVariants.{Active}
use Rattle.mg_value.specs.declared.value.Value.{Value}
use Rattle.mg_model.specs.declared.answer.Answer.TheVariants.{Fine}
use Rattle.mg_model.specs.declared.opening.Opening.{Opening}
use Rattle.mg_model.specs.declared.table.Table.{Table}
use Rattle.mg_model.specs.Changes.{Cells, has_change}
use Rattle.mg_model.specs.History.{Entries, Entry, entry}
use Rattle.mg_model.specs.Machine.{own, state_of}
use Rattle.mg_records.specs.Reading.{shape_seen}
use Rattle.mg_records.specs.Writing.{event_of}
use Rattle.mg_records.specs.declared.write.Write.{Write}
use Rattle.mg_records.specs.declared.write.Write.TheVariants as writes
use Rattle.mg_row_writes.specs.Storing.{written_at}
use Rattle.mg_engine_step_laws.specs.standing.Following.{FollowsEntry, KeepsOne}
use Rattle.mg_engine_step_laws.specs.standing.Standing.{Remembers, Standing}
use Rattle.mg_engine_step_laws.specs.standing.Writing.{WritesKey}
use Rattle.mg_undo.specs.Machine.{was_in}
use Rattle.mg_undo.specs.Undo.{after_keep}
use Rattle.mg_undo.specs.declared.changes.Was.{Was}
use Rattle.mg_waits.specs.Waits.{NowWaits}

-- the row that a write gives its key, none where it deletes
abbrev pub row_given : Write → Option Cells
row_given (writes.Insert row) = Some row
row_given (writes.Change key row) = Some row
row_given (writes.Erase key) = None

-- the entry of a write that is made
abbrev pub made_by : TxNo → Table → Write → Entry
made_by t table write = entry (event_of t table.name write) Fine

-- The write of a row of a table that is seen is noted: its wait is over, its transaction keeps what its own change of
-- the key was, and knows the table by its first page; all else stays.
pub record NotesWrite (o : Opening) (h : Entries) (t : TxNo) (table : Table) (write : Write) (s new : Standing)
    (was : Was) : Type 0 where
  pub active : state_of o h t.0 ≡ Active
  pub seen : shape_seen o h t.0 table.name ≡ Some table.shape
  pub limit : new.limit ≡ s.limit
  pub next : new.next ≡ s.next
  pub state : (u : ℕ) → new.state u ≡ s.state u
  pub live : new.live ≡ s.live
  pub waits : NowWaits s.waits new.waits t.0 None
  pub others : (u : ℕ) → u ≢ t.0 → KeepsOne s new u
  pub mode : new.mode t.0 ≡ s.mode t.0
  pub session : (u : ℕ) → new.session u ≡ s.session u
  pub undo : new.undo t.0 ≡ after_keep (s.undo t.0) table.pointer.0 (written_at table write) was
  pub was_is : was ≡ was_in (own o h t.0) table.name (written_at table write)
  pub number : new.number t.0 table.name ≡ table.pointer.0
  pub other_numbers : (other : List ℕ) → other ≢ table.name → new.number t.0 other ≡ s.number t.0 other
  pub numbered : (key : Value) → has_change (own o h t.0) table.name key ≡ true
      → s.number t.0 table.name ≡ table.pointer.0
  pub tables : (other : List ℕ) → new.table t.0 other ≡ s.table t.0 other

-- memory follows the entry, which writes at the key
abbrev pub MadeWritesFollow : Type 0
MadeWritesFollow = (o : Opening) (h : Entries) (t : TxNo) (table : Table) (write : Write) (s new : Standing)
    (was : Was) → Remembers o h s → NotesWrite o h t table write s new was
    → FollowsEntry o h (made_by t table write) s new
    × WritesKey o h (made_by t table write) t.0 table.name (written_at table write) (row_given write)
