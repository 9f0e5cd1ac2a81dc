-- What is told of the disk's faults as a row is written.
use Rattle.std.proofs.Common.{inl, inr, ℕ, Bool, Option, Some, ap, ◌∙◌}
use Rattle.mg_base.specs.Disk.{Meaning}
use Rattle.mg_base.specs.declared.numbers.RecId.{RecId}
use Rattle.mg_base.specs.declared.numbers.TxNo.{TxNo}
use Rattle.mg_model.specs.declared.refusal.Refusal.{Refusal}
use Rattle.mg_model.specs.declared.table.Table.{Table}
use Rattle.mg_records.specs.declared.write.Write.{Write}
use Rattle.mg_row_writes.specs.declared.before.Before.{Before}
use Rattle.mg_row_writes.specs.declared.finding.RowAt.{RowAt}
use Rattle.mg_value.specs.declared.value.Value.{Value}
use Rattle.mg_version.specs.declared.cell.Version.{Version}
use Rattle.mg_core.specs.declared.parts.Core.{Core}
use Rattle.mg_core.specs.Obstacles.{IsOfRecord, IsOfTable, StopsAtRecord, StopsAtTable, WhyOfRecord, WhyOfTable}
use Rattle.mg_core.specs.Putting.{FailsKept, FailsPut, PutsRow, WhyNotBefore, key_too_long, no_before, no_lay, no_version, not_kept, not_laid, too_long}
use Rattle.mg_core.specs.Writing.{FailsKey, FailsRow, FailsWrite, HasBegun, HasFound, HasPassed, IsFree, ReadsRow, WhyOfKnown, Writes, at_record, at_row, at_table, key_memory, key_null, no_key, not_begun, not_put, only_reads, row_unread, row_wrong}
use Rattle.mg_batches.specs.Batches.{not_lawful}
use Rattle.mg_space.specs.declared.fault.SpaceFault.TheVariants as space
use Rattle.mg_engine_change_laws.specs.faults.FaultCoreLaws.{count, counted, ended, not_read, only_read, passes_stand, refused, stops_told}
use Rattle.mg_engine_change_laws.specs.faults.FaultPageLaws.{is_none, lays_stand, lays_told}
use Rattle.mg_faults.specs.Faults.{FaultCount}
use Rattle.mg_engine_change_laws.specs.faults.Told.{Stands, TellsRise}

module _ {D : Type 0} (m : Meaning D) (k : FaultCount) where
  -- ---- the stages

  pub begun_stands : (old begun : Core D) (t : TxNo) (wait : Bool) → HasBegun old begun t wait
      → Stands m k old.store begun.store
  begun_stands old begun t wait has = ended m k old begun t.0 has.ended

  passed_stands : (old passed : Core D) (t : TxNo) (table : Table) (wait : Bool)
      → HasPassed m old passed t table wait → Stands m k old.store passed.store
  passed_stands old passed t table wait has =
      passes_stand m k has.begun passed t.0 wait (IsOfTable has.begun t table.name) has.passes
      ∙ begun_stands old has.begun t wait has.has_begun

  pub read_stands : (old new : Core D) (t : TxNo) (table : Table) (key : Value) (found : RowAt)
      → ReadsRow m old new t table key found → Stands m k old.store new.store
  read_stands old new t table key found reads = only_read m k old new reads.reads

  found_stands : (old found : Core D) (t : TxNo) (table : Table) (write : Write) (wait : Bool)
      (rec : Option RecId) → HasFound m old found t table write wait rec → Stands m k old.store found.store
  found_stands old found t table write wait rec has =
      only_read m k has.passed found has.finds.reads.reads
      ∙ passed_stands old has.passed t table wait has.has_passed

  free_stands : (old free : Core D) (t : TxNo) (table : Table) (write : Write) (wait : Bool)
      (rec : Option RecId) → IsFree m old free t table write wait rec → Stands m k old.store free.store
  free_stands old free t table write wait rec is =
      passes_stand m k is.found free t.0 wait (IsOfRecord is.found t rec) is.passes
      ∙ found_stands old is.found t table write wait rec is.has_found

  -- ---- the row is put

  puts_stand : (old new : Core D) (t : TxNo) (table : Table) (write : Write) (key : Value) (rec : Option RecId)
      → PutsRow m old new t table write key rec → Stands m k old.store new.store
  puts_stand old new t table write key rec puts =
      lays_stand m k puts.read.store new.store table puts.before.way write puts.version puts.laid.lays
      ∙ only_read m k old puts.read puts.has.reads

  kept_told : (old new : Core D) (t : ℕ) (table : Table) (write : Write) (key : Value) (before : Before) (v : Version)
      (refusal : Refusal) → FailsKept m old new t table write key before v refusal
      → TellsRise m k old new (Some refusal)
  kept_told old new t table write key before v refusal (too_long may counts) quiet =
      counted m k old new (space.Damaged not_lawful) refusal counts
  kept_told old new t table write key before v refusal (key_too_long may counts) quiet =
      counted m k old new (space.Damaged not_lawful) refusal counts
  kept_told old new t table write key before v refusal (not_kept may tells) quiet = ap (count m k) tells.1
  kept_told old new t table write key before v refusal (not_laid fails) quiet =
      lays_told m k old.store new.store table before.way write v fails.fault fails.fails
      (is_none k fails.fault refusal fails.is quiet)

  put_told : (old new : Core D) (t : TxNo) (table : Table) (write : Write) (key : Value) (rec : Option RecId)
      (refusal : Refusal) → FailsPut m old new t table write key rec refusal → TellsRise m k old new (Some refusal)
  put_told old new t table write key rec refusal (no_version tells) quiet = ap (count m k) tells.1
  put_told old new t table write key rec refusal (no_before fails) quiet =
      not_read m k old new (WhyNotBefore m old table rec) refusal fails quiet
  put_told old new t table write key rec refusal (no_lay read before v has fails) quiet =
      kept_told read new t.0 table write key before v refusal fails quiet ∙ only_read m k old read has.reads

  -- ---- the stages' refusals

  table_told : (old new : Core D) (t : TxNo) (wait : Bool) (table : Table) (refusal : Refusal)
      → StopsAtTable m old new t wait table.name refusal → TellsRise m k old new (Some refusal)
  table_told old new t wait table refusal (inl tells) quiet = ap (count m k) tells.1
  table_told old new t wait table refusal (inr stops) quiet =
      stops_told m k old new t.0 wait (IsOfTable old t table.name) (WhyOfTable m old table.name) refusal stops quiet

  pub record_told : (old new : Core D) (t : TxNo) (wait : Bool) (rec : Option RecId) (refusal : Refusal)
      → StopsAtRecord m old new t wait rec refusal → TellsRise m k old new (Some refusal)
  record_told old new t wait rec refusal stops quiet =
      stops_told m k old new t.0 wait (IsOfRecord old t rec) (WhyOfRecord m old rec) refusal stops quiet

  key_told : (old new : Core D) (table : Table) (write : Write) (refusal : Refusal)
      → FailsKey old new table write refusal → TellsRise m k old new (Some refusal)
  key_told old new table write refusal (key_memory tells) quiet = ap (count m k) tells.1
  key_told old new table write refusal (key_null both) quiet =
      counted m k old new (space.Damaged not_lawful) refusal both.1

  row_told : (old new : Core D) (t : TxNo) (table : Table) (key : Value) (write : Write) (refusal : Refusal)
      → FailsRow m old new t table key write refusal → TellsRise m k old new (Some refusal)
  row_told old new t table key write refusal (row_unread fails) quiet =
      not_read m k old new (WhyOfKnown m old t table key) refusal fails quiet
  row_told old new t table key write refusal (row_wrong found reads wrong) quiet = only_read m k old new reads.reads

  -- ---- the write

  pub writes_stand : (old new : Core D) (t : TxNo) (table : Table) (write : Write)
      → Writes m old new t table write → Stands m k old.store new.store
  writes_stand old new t table write writes =
      puts_stand writes.free new t table write _ writes.rec writes.puts
      ∙ free_stands old writes.free t table write writes.wait writes.rec writes.is_free

  pub write_told : (old new : Core D) (t : TxNo) (table : Table) (write : Write) (refusal : Refusal)
      → FailsWrite m old new t table write refusal → TellsRise m k old new (Some refusal)
  write_told old new t table write refusal (not_begun is) quiet = refused m k old new t.0 refusal is
  write_told old new t table write refusal (only_reads continues wait may) quiet = ended m k old new t.0 wait
  write_told old new t table write refusal (at_table begun wait has stops) quiet =
      table_told begun new t wait table refusal stops quiet ∙ begun_stands old begun t wait has
  write_told old new t table write refusal (no_key passed wait has fails) quiet =
      key_told passed new table write refusal fails quiet ∙ passed_stands old passed t table wait has
  write_told old new t table write refusal (at_row passed wait has some fails) quiet =
      row_told passed new t table _ write refusal fails quiet ∙ passed_stands old passed t table wait has
  write_told old new t table write refusal (at_record found wait rec has stops) quiet =
      record_told found new t wait rec refusal stops quiet ∙ found_stands old found t table write wait rec has
  write_told old new t table write refusal (not_put free wait rec is fails) quiet =
      put_told free new t table write _ rec refusal fails quiet ∙ free_stands old free t table write wait rec is
