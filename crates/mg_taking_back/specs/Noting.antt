-- The tables that a transaction writes into.
use Rattle.std.specs.Prelude.{◌≡◌, ℕ, Bool, true, false, List, is_some, Result, Ok, Err}
use Rattle.mg_base.specs.Disk.{Meaning}
use Rattle.mg_base.specs.declared.numbers.TxNo.{TxNo}
use Rattle.mg_model.specs.declared.refusal.Refusal.{Refusal}
use Rattle.mg_model.specs.declared.refusal.Refusal.TheVariants.{Memory}
use Rattle.mg_model.specs.declared.table.Table.{Table}
use Rattle.mg_records.specs.declared.write.Write.{Write}
use Rattle.mg_works.specs.Works.{Working, with_work, with_written, written_to}
use Rattle.mg_core.specs.declared.parts.Core.{Core}
use Rattle.mg_core.specs.Cores.{Continues}
use Rattle.mg_core.specs.Events.{BecomesIn, EndsWait, IsRefused}
use Rattle.mg_core.specs.Writing.{FailsWrite, Writes}

-- the works where a table is among those that a transaction has written into: one that begins at its first page is there
-- already, or it is kept now
abbrev pub noted_if : Bool → ℕ → Table → List Working → List Working
noted_if true t table works = works
noted_if false t table works = with_work t (with_written table) works

abbrev pub noted : ℕ → Table → List Working → List Working
noted t table works = noted_if (is_some (written_to works t table.pointer.0)) t table works

-- a transaction is about to write into a table: the wait is over, and the table is kept; for want of memory it is not
abbrev pub NotesTable : {D : Type 0} → Core D → Core D → ℕ → Table → Result (Unit {0}) Refusal → Type 0
NotesTable old new t table (Ok x) = Continues old t × BecomesIn old new t (noted t table old.works) old.live
NotesTable old new t table (Err Memory) = Continues old t × EndsWait old new t
NotesTable old new t table (Err refusal) = IsRefused old new t refusal

-- ---- a row is written into a table that is kept first

-- the engine where a table is among those that a transaction has written into
abbrev pub with_noted : {D : Type 0} → ℕ → Table → Core D → Core D
with_noted t table core = record core { works = noted t table core.works }

-- A row is written, and its table is kept: from that engine on, stage by stage.
abbrev pub WritesNoted : {D : Type 0} → Meaning D → Core D → Core D → TxNo → Table → Write → Type 0
WritesNoted m old new t table write = Writes m (with_noted t.0 table old) new t table write

-- Why it is not written: the event is refused; the table is not kept, for want of memory; or the write is refused.
pub data FailsNoted {D : Type 0} (m : Meaning D) (old new : Core D) (t : TxNo) (table : Table) (write : Write)
    (refusal : Refusal) : Type 0 where
  noted_not : IsRefused old new t.0 refusal → FailsNoted m old new t table write refusal
  noted_memory : Continues old t.0 → EndsWait old new t.0 → refusal ≡ Memory
      → FailsNoted m old new t table write refusal
  noted_fails : FailsWrite m (with_noted t.0 table old) new t table write refusal
      → FailsNoted m old new t table write refusal
