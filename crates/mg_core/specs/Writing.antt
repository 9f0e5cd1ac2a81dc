-- A row is written, stage by stage.
use Rattle.std.specs.Prelude.{◌≡◌, ◌≢◌, ℕ, Bool, true, false, List, Option, Some, is_some}
use Rattle.mg_base.specs.Disk.{Meaning}
use Rattle.mg_base.specs.Image.{Image}
use Rattle.mg_base.specs.declared.numbers.RecId.{RecId}
use Rattle.mg_base.specs.declared.numbers.TxNo.{TxNo}
use Rattle.mg_directory.specs.Candidates.{at_key, by_table}
use Rattle.mg_image.specs.Form.{Pages}
use Rattle.mg_model.specs.declared.refusal.Refusal.{Refusal}
use Rattle.mg_model.specs.declared.refusal.Refusal.TheVariants.{DuplicateKey, Memory, NoRow, ReadOnly}
use Rattle.mg_model.specs.declared.table.Table.{Table}
use Rattle.mg_pool.specs.Pool.{shown}
use Rattle.mg_pool.specs.declared.pool.Pool.{Pool}
use Rattle.mg_records.specs.declared.write.Write.{Write}
use Rattle.mg_records.specs.declared.write.Write.TheVariants as writes
use Rattle.mg_batches.specs.Batches.{not_lawful}
use Rattle.mg_row_writes.specs.Finding.{IsRowAt, RefusesRowAt}
use Rattle.mg_row_writes.specs.Storing.{written_at}
use Rattle.mg_row_writes.specs.declared.finding.RowAt.{RowAt}
use Rattle.mg_seek.specs.Candidates.{AreEnough}
use Rattle.mg_sortkey.specs.KeyBytes.{key_bytes}
use Rattle.mg_space.specs.View.{Tells}
use Rattle.mg_space.specs.declared.fault.SpaceFault.{SpaceFault}
use Rattle.mg_space.specs.declared.fault.SpaceFault.TheVariants as faults
use Rattle.mg_space.specs.declared.links.FireLinks.{FireLinks}
use Rattle.mg_txlist.specs.TxList.{said}
use Rattle.mg_value.specs.declared.value.Value.{Value}
use Rattle.mg_value.specs.declared.value.Value.TheVariants.{Null}
use Rattle.mg_works.specs.Works.{Working, work_of}
use Rattle.mg_core.specs.declared.parts.Core.{Core}
use Rattle.mg_core.specs.Cores.{Continues}
use Rattle.mg_core.specs.Events.{EndsWait, IsRefused}
use Rattle.mg_core.specs.Obstacles.{IsTold, PassesRecord, PassesTable, StopsAtRecord, StopsAtTable}
use Rattle.mg_core.specs.Putting.{CountsOne, FailsPut, PutsRow}
use Rattle.mg_core.specs.Reading.{FailsReading, OnlyReads}

-- ---- the mode

-- An active transaction may write; whether it would wait.
pub record MayWrite (works : List Working) (t : ℕ) (wait : Bool) : Type 0 where
  pub work : Working
  pub its : work_of works t ≡ Some work
  pub writes : work.mode.read_only ≡ false
  pub would : work.mode.wait ≡ wait

-- It only reads, and that is told.
pub record MayOnlyRead (works : List Working) (t : ℕ) (refusal : Refusal) : Type 0 where
  pub work : Working
  pub its : work_of works t ≡ Some work
  pub reads : work.mode.read_only ≡ true
  pub is : refusal ≡ ReadOnly

-- ---- the key, and the row in the view

-- the key that a write names is not NULL; an insertion names none, for its row has it
abbrev pub NamesKey : Write → Type 0
NamesKey (writes.Insert row) = Unit {0}
NamesKey (writes.Change key row) = key ≢ Null
NamesKey (writes.Erase key) = key ≢ Null

-- why the key of a write is not had: memory is wanting, or it is NULL, which a lawful one never is
abbrev pub IsNullKey : {D : Type 0} → Core D → Core D → Table → Write → Refusal → Type 0
IsNullKey old new table write refusal = (written_at table write ≡ Null)
    × CountsOne old new (faults.Damaged not_lawful) refusal × NamesKey write

pub data FailsKey {D : Type 0} (old new : Core D) (table : Table) (write : Write) (refusal : Refusal) : Type 0 where
  key_memory : IsTold old new Memory refusal → FailsKey old new table write refusal
  key_null : IsNullKey old new table write refusal → FailsKey old new table write refusal

-- a new row comes where none is, and another write where one is
abbrev pub Allows : Write → Bool → Type 0
Allows (writes.Insert row) there = there ≡ false
Allows (writes.Change key row) there = there ≡ true
Allows (writes.Erase key) there = there ≡ true

-- what is told where it does not
abbrev pub IsWrong : Write → Bool → Refusal → Type 0
IsWrong (writes.Insert row) there refusal = (there ≡ true) × (refusal ≡ DuplicateKey)
IsWrong (writes.Change key row) there refusal = (there ≡ false) × (refusal ≡ NoRow)
IsWrong (writes.Erase key) there refusal = (there ≡ false) × (refusal ≡ NoRow)

-- the record that speaks for a key, with the row in the view
abbrev pub IsOfKey : {D : Type 0} → Core D → TxNo → Table → Value → RowAt → Pages → Type 0
IsOfKey core t table key found view = IsRowAt (said core.list) core.live t view table key found

abbrev pub WhyOfKey : {D : Type 0} → Meaning D → Core D → TxNo → Table → Value → Pool D FireLinks → Pages
    → SpaceFault → Type 0
WhyOfKey m core t table key store view fault = RefusesRowAt m store view
    (said core.list) core.live t table key fault

-- It was read.
pub record ReadsRow {D : Type 0} (m : Meaning D) (old new : Core D) (t : TxNo) (table : Table) (key : Value)
    (found : RowAt) : Type 0 where
  pub reads : OnlyReads m old new
  pub told : (image : Image) → Tells m old.store.disk image
      → IsOfKey old t table key found (shown old.store.dirty image)

-- the candidates that the directories have for a key, if they have some, are enough
abbrev pub KnowsKey : {D : Type 0} → Core D → Table → Value → Pages → Type 0
KnowsKey core table key view = (candidates : List RecId)
    → at_key (by_table core.directories.dirs table.pointer.0) (key_bytes key) ≡ Some candidates
    → AreEnough (said core.list) core.live view table key candidates

-- It was read by the directories, and is so where they know the key.
pub record ReadsKnown {D : Type 0} (m : Meaning D) (old new : Core D) (t : TxNo) (table : Table) (key : Value)
    (found : RowAt) : Type 0 where
  pub reads : OnlyReads m old new
  pub told : (image : Image) → Tells m old.store.disk image
      → KnowsKey old table key (shown old.store.dirty image)
      → IsOfKey old t table key found (shown old.store.dirty image)

abbrev pub WhyOfKnown : {D : Type 0} → Meaning D → Core D → TxNo → Table → Value → Pool D FireLinks → Pages
    → SpaceFault → Type 0
WhyOfKnown m core t table key store view fault =
    KnowsKey core table key view → WhyOfKey m core t table key store view fault

-- The row in the view allows the write, and this is the record that speaks for its key.
pub record FindsRow {D : Type 0} (m : Meaning D) (old new : Core D) (t : TxNo) (table : Table) (key : Value)
    (write : Write) (rec : Option RecId) : Type 0 where
  pub found : RowAt
  pub reads : ReadsKnown m old new t table key found
  pub allows : Allows write (is_some found.row)
  pub is : rec ≡ found.rec

-- It was not read, or does not allow the write.
pub data FailsRow {D : Type 0} (m : Meaning D) (old new : Core D) (t : TxNo) (table : Table) (key : Value)
    (write : Write) (refusal : Refusal) : Type 0 where
  row_unread : FailsReading m old new (WhyOfKnown m old t table key) refusal
      → FailsRow m old new t table key write refusal
  row_wrong : (found : RowAt) → ReadsKnown m old new t table key found
      → IsWrong write (is_some found.row) refusal → FailsRow m old new t table key write refusal

-- ---- the stages

-- The event has begun: the wait is over, and the transaction may write.
pub record HasBegun {D : Type 0} (old begun : Core D) (t : TxNo) (wait : Bool) : Type 0 where
  pub continues : Continues old t.0
  pub ended : EndsWait old begun t.0
  pub may : MayWrite begun.works t.0 wait

-- Nobody is in the way by the table's row of the catalog.
pub record HasPassed {D : Type 0} (m : Meaning D) (old passed : Core D) (t : TxNo) (table : Table) (wait : Bool)
    : Type 0 where
  pub begun : Core D
  pub has_begun : HasBegun old begun t wait
  pub passes : PassesTable m begun passed t wait table.name

-- The row in the view allows the write.
pub record HasFound {D : Type 0} (m : Meaning D) (old found : Core D) (t : TxNo) (table : Table) (write : Write)
    (wait : Bool) (rec : Option RecId) : Type 0 where
  pub passed : Core D
  pub has_passed : HasPassed m old passed t table wait
  pub key : written_at table write ≢ Null
  pub finds : FindsRow m passed found t table (written_at table write) write rec

-- Nobody is in the way by the record.
pub record IsFree {D : Type 0} (m : Meaning D) (old free : Core D) (t : TxNo) (table : Table) (write : Write)
    (wait : Bool) (rec : Option RecId) : Type 0 where
  pub found : Core D
  pub has_found : HasFound m old found t table write wait rec
  pub passes : PassesRecord m found free t wait rec

-- A row is written: nobody was in the way, the view allowed it, and it is put in the record of its key.
pub record Writes {D : Type 0} (m : Meaning D) (old new : Core D) (t : TxNo) (table : Table) (write : Write)
    : Type 0 where
  pub wait : Bool
  pub rec : Option RecId
  pub free : Core D
  pub is_free : IsFree m old free t table write wait rec
  pub puts : PutsRow m free new t table write (written_at table write) rec

-- Why it is not written: each stage's own refusals, after the stages before it.
pub data FailsWrite {D : Type 0} (m : Meaning D) (old new : Core D) (t : TxNo) (table : Table) (write : Write)
    (refusal : Refusal) : Type 0 where
  not_begun : IsRefused old new t.0 refusal → FailsWrite m old new t table write refusal
  only_reads : Continues old t.0 → EndsWait old new t.0 → MayOnlyRead new.works t.0 refusal
      → FailsWrite m old new t table write refusal
  at_table : (begun : Core D) (wait : Bool) → HasBegun old begun t wait
      → StopsAtTable m begun new t wait table.name refusal → FailsWrite m old new t table write refusal
  no_key : (passed : Core D) (wait : Bool) → HasPassed m old passed t table wait
      → FailsKey passed new table write refusal → FailsWrite m old new t table write refusal
  at_row : (passed : Core D) (wait : Bool) → HasPassed m old passed t table wait → written_at table write ≢ Null
      → FailsRow m passed new t table (written_at table write) write refusal
      → FailsWrite m old new t table write refusal
  at_record : (found : Core D) (wait : Bool) (rec : Option RecId) → HasFound m old found t table write wait rec
      → StopsAtRecord m found new t wait rec refusal → FailsWrite m old new t table write refusal
  not_put : (free : Core D) (wait : Bool) (rec : Option RecId) → IsFree m old free t table write wait rec
      → FailsPut m free new t table write (written_at table write) rec refusal
      → FailsWrite m old new t table write refusal
