-- What is told of the disk's faults by calls on the pages.
use Rattle.std.proofs.Common.{◌≡◌, ℕ, false, List, Some, Err, refl, sym, ap, ◌∙◌}
use Rattle.std.proofs.lemmas.Bool.{false≢true}
use Rattle.mg_base.specs.Disk.{FailsNoWrite, Meaning}
use Rattle.mg_base.specs.Image.{Image}
use Rattle.mg_base.specs.declared.numbers.RecId.{RecId}
use Rattle.mg_faults.specs.Faults.{FaultCount, counts_reads, each_fault, failed_writes, tells_rise}
use Rattle.mg_model.specs.declared.refusal.Refusal.{Refusal}
use Rattle.mg_pool.specs.Batch.{Changed}
use Rattle.mg_pool.specs.Fault.{MeetsNoFault, StaysOnline, TellsFault}
use Rattle.mg_pool.specs.Run.{HasWritten}
use Rattle.mg_pool.specs.declared.fault.PoolFault.{PoolFault}
use Rattle.mg_pool.specs.declared.fault.PoolFault.TheVariants as faults
use Rattle.mg_pool.specs.declared.pool.Pool.{Pool}
use Rattle.mg_space.specs.View.{pool_answer}
use Rattle.mg_space.specs.declared.fault.SpaceFault.{SpaceFault}
use Rattle.mg_space.specs.declared.fault.SpaceFault.TheVariants as space
use Rattle.mg_space.specs.declared.links.FireLinks.{FireLinks}
use Rattle.mg_version.specs.declared.cell.Version.{Version}
use Rattle.mg_core.specs.Refusing.{IsRefusal, IsRefusalOf}
use Rattle.mg_batches.specs.Batches.{ChangesOwn, FailsBatch, FailsOwn, not_changed, not_filled}
use Rattle.mg_entries.specs.Entries.{FailsAll, LaysAll, no_index, one_more}
use Rattle.mg_image.specs.Form.{Row}
use Rattle.mg_model.specs.declared.table.Index.{Index}
use Rattle.mg_model.specs.declared.table.Table.{Table}
use Rattle.mg_records.specs.declared.write.Write.{Write}
use Rattle.mg_records.specs.declared.write.Write.TheVariants as writes
use Rattle.mg_row_writes.specs.Changing.{FailsFirst, FailsOver, FailsReplacing, MakesFirst, PushesOver, ReplacesNewest}
use Rattle.mg_row_writes.specs.Laying.{EntersRow, EntersThen, FailsEntering, FailsLay, FailsNew, FailsOverDead, FailsThen, Lays, no_first, no_place, not_cleared, not_entered, not_pushed, not_put_in}
use Rattle.mg_row_writes.specs.declared.before.Way.{Way}
use Rattle.mg_row_writes.specs.declared.before.Way.TheVariants as ways
use Rattle.mg_engine_change_laws.specs.faults.Told.{Stands, disk_count, is_disks}

-- a refusal that tells no rise of a count comes of a fault that is none of it
pub is_none : (k : FaultCount) (fault : SpaceFault) (refusal : Refusal) → IsRefusal fault refusal
    → tells_rise k (Some refusal) ≡ false → is_disks k fault ≡ false
is_none k (space.Full limit) refusal is quiet = refl
is_none k (space.Damaged it) refusal is quiet = refl
is_none k (space.Pool (faults.DiskRead n)) refusal is quiet =
    sym (ap (λ (r : Refusal). tells_rise k (Some r)) is) ∙ quiet
is_none k (space.Pool (faults.DiskWrite n)) refusal is quiet =
    sym (ap (λ (r : Refusal). tells_rise k (Some r)) is) ∙ quiet
is_none k (space.Pool (faults.Offline n)) refusal is quiet = refl
is_none k (space.Pool (faults.Absent n)) refusal is quiet = refl
is_none k (space.Pool faults.Memory) refusal is quiet = refl

pub bits_none : (k : FaultCount) (fault : PoolFault) (refusal : Refusal) → IsRefusalOf fault refusal
    → tells_rise k (Some refusal) ≡ false → is_disks k (space.Pool fault) ≡ false
bits_none k (faults.DiskRead n) refusal is quiet = sym (ap (λ (r : Refusal). tells_rise k (Some r)) is) ∙ quiet
bits_none k (faults.DiskWrite n) refusal is quiet = sym (ap (λ (r : Refusal). tells_rise k (Some r)) is) ∙ quiet
bits_none k (faults.Offline n) refusal is quiet = refl
bits_none k (faults.Absent n) refusal is quiet = absurd is
bits_none k faults.Memory refusal is quiet = refl

module _ {D : Type 0} (m : Meaning D) where
  -- where the cache met no fault, each count stands
  counts_stand : {L : Type 0} (k : FaultCount) (a b : Pool D L) → MeetsNoFault m a b → Stands m k a b
  counts_stand each_fault a b same = ap (λ (counts : ℕ × ℕ × ℕ). counts.1) same
  counts_stand failed_writes a b same = ap (λ (counts : ℕ × ℕ × ℕ). counts.2) same

  -- where a read failed, the count of failed page writes does
  reads_stand : {L : Type 0} (k : FaultCount) (a b : Pool D L) → FailsNoWrite m a.disk b.disk → counts_reads k ≡ false
      → Stands m k a b
  reads_stand each_fault a b none quiet = absurd (false≢true (sym quiet))
  reads_stand failed_writes a b none quiet = none

  -- and after page writes that went on each
  pub run_stands : {L : Type 0} (k : FaultCount) (a b : Pool D L) → HasWritten m a b → Stands m k a b
  run_stands each_fault a b run = run.steady
  run_stands failed_writes a b run = run.none_failed

module _ {D : Type 0} (m : Meaning D) (k : FaultCount) where
  -- the cache met no fault
  pub met : {L : Type 0} (a b : Pool D L) → StaysOnline m a b → Stands m k a b
  met a b online = counts_stand m k a b online.2

  pub pool_told : (T : Type 0) {L : Type 0} (a b : Pool D L) (fault : PoolFault) → TellsFault {T = T} m a b (Err fault)
      → is_disks k (space.Pool fault) ≡ false → Stands m k a b
  pool_told T a b (faults.DiskRead n) told quiet = reads_stand m k a b told.3 quiet
  pool_told T a b (faults.DiskWrite n) told quiet = absurd (false≢true (sym quiet))
  pool_told T a b (faults.Offline n) told quiet = counts_stand m k a b told.2
  pool_told T a b (faults.Absent n) told quiet = met a b told
  pool_told T a b faults.Memory told quiet = met a b told

  pub told : (T : Type 0) {L : Type 0} (a b : Pool D L) (fault : SpaceFault)
      → TellsFault m a b (pool_answer {T = T} (Err fault)) → is_disks k fault ≡ false → Stands m k a b
  told T a b (space.Full limit) tells quiet = met a b tells
  told T a b (space.Damaged it) tells quiet = met a b tells
  told T a b (space.Pool fault) tells quiet = pool_told (Unit {0}) a b fault tells quiet

  same_stands : (a b : Pool D FireLinks) → b ≡ a → Stands m k a b
  same_stands a b same = ap (λ (p : Pool D FireLinks). disk_count m k p.disk) same

  -- ---- batches

  batch_told : (a b : Pool D FireLinks) (batch : Changed) (fault : SpaceFault) → FailsBatch m a b batch fault
      → is_disks k fault ≡ false → Stands m k a b
  batch_told a b batch (space.Full limit) fails quiet = absurd fails
  batch_told a b batch (space.Damaged it) fails quiet = same_stands a b fails.same
  batch_told a b batch (space.Pool fault) fails quiet = pool_told (Unit {0}) a b fault fails.told quiet

  pub own_stands : {fills : Image → Changed → Type 0} (a b : Pool D FireLinks) → ChangesOwn m a b fills
      → Stands m k a b
  own_stands a b own = met own.ready b own.changed.online ∙ met a own.ready own.online

  pub own_told : {fills : Image → Changed → Type 0} {refuses : Image → SpaceFault → Type 0}
      (a b : Pool D FireLinks) (fault : SpaceFault) → FailsOwn m a b fills refuses fault
      → is_disks k fault ≡ false → Stands m k a b
  own_told a b fault (not_filled keeps alone tells why) quiet = told (Unit {0}) a b fault tells quiet
  own_told a b fault (not_changed batch ready keeps online filled fails) quiet =
      batch_told ready b batch fault fails quiet ∙ met a ready online

  -- ---- entries are laid

  all_stand : (indexes : List Index) (p : RecId) (row : Row) (a b : Pool D FireLinks) → LaysAll m indexes p row a b
      → Stands m k a b
  all_stand indexes p row a b (no_index p_ row_ store) = refl
  all_stand indexes p row a b (one_more first index p_ row_ before mid after laid lays) =
      own_stands mid after lays ∙ all_stand first p_ row_ before mid laid

  row_stands : (a b : Pool D FireLinks) (table : Table) (rec : RecId) (write : Write) → EntersRow m a b table rec write
      → Stands m k a b
  row_stands a b table rec (writes.Insert row) laid = all_stand table.indexes rec row a b laid
  row_stands a b table rec (writes.Change key row) laid = all_stand table.indexes rec row a b laid
  row_stands a b table rec (writes.Erase key) same = same_stands a b same

  -- and then a version is
  pub then_stands : (a b : Pool D FireLinks) (table : Table) (rec : RecId) (write : Write)
      (puts : Pool D FireLinks → Type 0) → ((e : Pool D FireLinks) → puts e → Stands m k e b)
      → EntersThen m a table rec write puts → Stands m k a b
  then_stands a b table rec write puts each it =
      each it.entered it.lays ∙ row_stands a it.entered table rec write it.enters

  all_told : (indexes : List Index) (p : RecId) (row : Row) (a b : Pool D FireLinks) (fault : SpaceFault)
      → FailsAll m indexes p row a b fault → is_disks k fault ≡ false → Stands m k a b
  all_told indexes p row a b fault fails quiet =
      own_told fails.mid b fault fails.refused quiet ∙ all_stand fails.first p row a fails.mid fails.laid

  row_told : (a b : Pool D FireLinks) (table : Table) (rec : RecId) (write : Write) (fault : SpaceFault)
      → FailsEntering m a b table rec write fault → is_disks k fault ≡ false → Stands m k a b
  row_told a b table rec (writes.Insert row) fault fails quiet = all_told table.indexes rec row a b fault fails quiet
  row_told a b table rec (writes.Change key row) fault fails quiet = all_told table.indexes rec row a b fault fails quiet
  row_told a b table rec (writes.Erase key) fault fails quiet = absurd fails

  pub then_told : (a b : Pool D FireLinks) (table : Table) (rec : RecId) (write : Write)
      (fails : Pool D FireLinks → SpaceFault → Type 0) (fault : SpaceFault)
      → ((e : Pool D FireLinks) → fails e fault → is_disks k fault ≡ false → Stands m k e b)
      → FailsThen m a b table rec write fails fault → is_disks k fault ≡ false → Stands m k a b
  then_told a b table rec write fails fault each (not_entered it) quiet = row_told a b table rec write fault it quiet
  then_told a b table rec write fails fault each (not_put_in entered enters it) quiet =
      each entered it quiet ∙ row_stands a entered table rec write enters

  -- ---- a version comes into the record of its key

  pub lays_stand : (a b : Pool D FireLinks) (table : Table) (way : Way) (write : Write) (v : Version)
      → Lays m a b table way write v → Stands m k a b
  lays_stand a b table ways.Make write v lays =
      then_stands lays.placed b table lays.at write (λ e. MakesFirst m e b table.pointer.0 lays.at v)
      (λ e own. own_stands e b own) lays.makes ∙ own_stands a lays.placed lays.takes
  lays_stand a b table (ways.Push rec) write v lays = then_stands a b table rec write (λ e. PushesOver m e b rec v)
      (λ e own. own_stands e b own) lays
  lays_stand a b table (ways.PushOverDead rec) write v lays =
      then_stands lays.cleared b table rec write (λ e. PushesOver m e b rec v) (λ e own. own_stands e b own) lays.pushes
      ∙ own_stands a lays.cleared lays.takes
  lays_stand a b table (ways.Replace rec) write v lays =
      then_stands a b table rec write (λ e. ReplacesNewest m e b rec v) (λ e own. own_stands e b own) lays

  new_told : (a b : Pool D FireLinks) (table : Table) (write : Write) (v : Version) (fault : SpaceFault)
      → FailsNew m a b table write v fault → is_disks k fault ≡ false → Stands m k a b
  new_told a b table write v fault (no_place fails) quiet = own_told a b fault fails quiet
  new_told a b table write v fault (no_first at placed takes fails) quiet =
      then_told placed b table at write (λ e given. FailsFirst m e b table.pointer.0 at v given) fault
      (λ e own. own_told e b fault own) fails quiet ∙ own_stands a placed takes

  over_told : (a b : Pool D FireLinks) (table : Table) (rec : RecId) (write : Write) (v : Version) (fault : SpaceFault)
      → FailsOverDead m a b table rec write v fault → is_disks k fault ≡ false → Stands m k a b
  over_told a b table rec write v fault (not_cleared fails) quiet = own_told a b fault fails quiet
  over_told a b table rec write v fault (not_pushed cleared takes fails) quiet =
      then_told cleared b table rec write (λ e given. FailsOver m e b rec v given) fault
      (λ e own. own_told e b fault own) fails quiet ∙ own_stands a cleared takes

  pub lays_told : (a b : Pool D FireLinks) (table : Table) (way : Way) (write : Write) (v : Version)
      (fault : SpaceFault) → FailsLay m a b table way write v fault → is_disks k fault ≡ false → Stands m k a b
  lays_told a b table ways.Make write v fault fails quiet = new_told a b table write v fault fails quiet
  lays_told a b table (ways.Push rec) write v fault fails quiet = then_told a b table rec write
      (λ e given. FailsOver m e b rec v given) fault (λ e own. own_told e b fault own) fails quiet
  lays_told a b table (ways.PushOverDead rec) write v fault fails quiet =
      over_told a b table rec write v fault fails quiet
  lays_told a b table (ways.Replace rec) write v fault fails quiet = then_told a b table rec write
      (λ e given. FailsReplacing m e b rec v given) fault (λ e own. own_told e b fault own) fails quiet
