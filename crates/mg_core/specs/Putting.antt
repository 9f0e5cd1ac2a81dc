-- A row is put on the pages, and what it was before is kept.
use Rattle.std.specs.Prelude.{◌≡◌, ◌≤◌, ℕ, List, Option}
use Rattle.mg_base.specs.Disk.{Meaning}
use Rattle.mg_base.specs.Image.{Image}
use Rattle.mg_base.specs.declared.numbers.RecId.{RecId}
use Rattle.mg_base.specs.declared.numbers.TxNo.{TxNo}
use Rattle.mg_directory.specs.Candidates.{MarksFor, NotesOrDrops, by_table, notes_in}
use Rattle.mg_image.specs.Form.{Pages}
use Rattle.mg_model.specs.declared.refusal.Refusal.{Refusal}
use Rattle.mg_model.specs.declared.refusal.Refusal.TheVariants.{Memory}
use Rattle.mg_model.specs.declared.table.Table.{Table}
use Rattle.mg_pool.specs.Pool.{shown}
use Rattle.mg_pool.specs.declared.pool.Pool.{Pool}
use Rattle.mg_records.specs.declared.write.Write.{Write}
use Rattle.mg_row_writes.specs.Befores.{IsBefore}
use Rattle.mg_batches.specs.Batches.{not_lawful}
use Rattle.mg_row_writes.specs.Finding.{RefusesSeen}
use Rattle.mg_row_writes.specs.Laying.{FailsLay, KeysMayBeLaid, Lays, laid_in}
use Rattle.mg_row_writes.specs.Storing.{IsStored, MayBeStored}
use Rattle.mg_row_writes.specs.declared.before.Before.{Before}
use Rattle.mg_seek.specs.Versions.{wants}
use Rattle.mg_seek.specs.declared.whose.Wanted.TheVariants.{Any}
use Rattle.mg_sortkey.specs.KeyBytes.{key_bytes}
use Rattle.mg_space.specs.View.{Tells}
use Rattle.mg_space.specs.declared.fault.SpaceFault.{SpaceFault}
use Rattle.mg_space.specs.declared.fault.SpaceFault.TheVariants as faults
use Rattle.mg_space.specs.declared.links.FireLinks.{FireLinks}
use Rattle.mg_txlist.specs.TxList.{said}
use Rattle.mg_undo.specs.declared.changes.Was.{Was}
use Rattle.mg_value.specs.declared.value.Value.{Value}
use Rattle.mg_version.specs.declared.cell.Version.{Version}
use Rattle.mg_works.specs.Works.{Working, unasked, with_change, with_work, without_change}
use Rattle.mg_core.specs.declared.parts.Core.{Core}
use Rattle.mg_core.specs.Obstacles.{IsTold}
use Rattle.mg_core.specs.Reading.{FailsReading, OnlyReads}
use Rattle.mg_core.specs.Refusing.{CountsFault, IsRefusal, NamesLimit}

-- A fault is told and counted, and nothing else has happened.
pub record CountsOne {D : Type 0} (old new : Core D) (fault : SpaceFault) (refusal : Refusal) : Type 0 where
  pub is : IsRefusal fault refusal
  pub counts : CountsFault fault old.damage new.damage old.shortages new.shortages
  pub same : new ≡ record old { damage = new.damage; shortages = new.shortages }

-- ---- the version is laid

-- the works, where what a transaction's own change of a key was is kept, and its commit is no longer asked for
abbrev pub works_kept : ℕ → ℕ → Value → Was → List Working → List Working
works_kept t owner key was works = with_work t unasked (with_work t (with_change owner key was) works)

-- The version of a write is laid on its way, after the entries of its row, and what the transaction's own change of the
-- key was is kept.
pub record LaysKept {D : Type 0} (m : Meaning D) (old new : Core D) (t : ℕ) (table : Table) (write : Write)
    (key : Value) (before : Before) (v : Version) : Type 0 where
  pub may : MayBeStored old.store.geometry.size table.pointer.0 v
  pub short : KeysMayBeLaid old.store.geometry.size table write
  pub lays : Lays m old.store new.store table before.way write v
  pub same : new ≡ record old {
    store = new.store;
    works = works_kept t table.pointer.0 key before.was old.works;
  }

-- So it is, in this record.
pub record LaysKeptIn {D : Type 0} (m : Meaning D) (old new : Core D) (t : ℕ) (table : Table) (write : Write)
    (key : Value) (before : Before) (v : Version) (rec : RecId) : Type 0 where
  pub laid : LaysKept m old new t table write key before v
  pub at : rec ≡ laid_in m old.store new.store table before.way write v laid.lays

-- It is not: what was kept is taken back, and the fault is told and counted.
pub record FailsLaid {D : Type 0} (m : Meaning D) (old new : Core D) (t : ℕ) (table : Table) (write : Write)
    (key : Value) (before : Before) (v : Version) (refusal : Refusal) : Type 0 where
  pub may : MayBeStored old.store.geometry.size table.pointer.0 v
  pub short : KeysMayBeLaid old.store.geometry.size table write
  pub fault : SpaceFault
  pub fails : FailsLay m old.store new.store table before.way write v fault
  pub is : IsRefusal fault refusal
  pub names : NamesLimit new.store.geometry.limit refusal
  pub counts : CountsFault fault old.damage new.damage old.shortages new.shortages
  pub same : new ≡ record old {
    store = new.store;
    works = with_work t without_change (works_kept t table.pointer.0 key before.was old.works);
    damage = new.damage;
    shortages = new.shortages;
  }

-- why a version is not laid: a page has no room for it, or for a key of its row in an index, which a lawful row never
-- has, memory is wanting to see that or to keep what was, or the pages are refused
pub data FailsKept {D : Type 0} (m : Meaning D) (old new : Core D) (t : ℕ) (table : Table) (write : Write)
    (key : Value) (before : Before) (v : Version) (refusal : Refusal) : Type 0 where
  too_long : (MayBeStored old.store.geometry.size table.pointer.0 v → ⊥)
      → CountsOne old new (faults.Damaged not_lawful) refusal
      → FailsKept m old new t table write key before v refusal
  key_too_long : (KeysMayBeLaid old.store.geometry.size table write → ⊥)
      → CountsOne old new (faults.Damaged not_lawful) refusal
      → FailsKept m old new t table write key before v refusal
  not_kept : MayBeStored old.store.geometry.size table.pointer.0 v → IsTold old new Memory refusal
      → FailsKept m old new t table write key before v refusal
  not_laid : FailsLaid m old new t table write key before v refusal
      → FailsKept m old new t table write key before v refusal

-- ---- the row is put

-- what stands at a key before a transaction writes there
abbrev pub StandsBefore : {D : Type 0} → Core D → TxNo → Table → Option RecId → Before → Pages → Type 0
StandsBefore core t table rec before view = IsBefore (said core.list) core.live t.0 view table rec before

abbrev pub WhyNotBefore : {D : Type 0} → Meaning D → Core D → Table → Option RecId → Pool D FireLinks → Pages
    → SpaceFault → Type 0
WhyNotBefore m core table rec store view fault = RefusesSeen m store view
    (wants (said core.list) core.live Any) table rec fault

-- The version of a write was made, and what stands at its key was read.
pub record HasBefore {D : Type 0} (m : Meaning D) (old read : Core D) (t : TxNo) (table : Table) (write : Write)
    (rec : Option RecId) (before : Before) (v : Version) : Type 0 where
  pub stored : IsStored table t.0 write v
  pub reads : OnlyReads m old read
  pub told : (image : Image) → Tells m old.store.disk image
      → StandsBefore old t table rec before (shown old.store.dirty image)

-- A record of a table is noted under a key, if the table has a directory, or that is dropped; and the table is marked
-- as one with too many records only where there are as many notes as there may be.
pub record NotesRow {D : Type 0} (old new : Core D) (first : ℕ) (key : Value) (rec : RecId) : Type 0 where
  pub notes : NotesOrDrops (by_table old.directories.dirs) (by_table new.directories.dirs) first (key_bytes key) rec
  pub marks : MarksFor (old.directories.most ≤ notes_in old.directories.dirs) old.directories new.directories first
  pub same : new ≡ record old { directories = new.directories }

-- The row of a write is put: its version is laid on the way that what stands there has, and the record is noted.
pub record PutsRow {D : Type 0} (m : Meaning D) (old new : Core D) (t : TxNo) (table : Table) (write : Write)
    (key : Value) (rec : Option RecId) : Type 0 where
  pub read : Core D
  pub before : Before
  pub version : Version
  pub has : HasBefore m old read t table write rec before version
  pub laid : LaysKept m read (record new { directories = read.directories }) t.0 table write key before version
  pub noted : NotesOrDrops (by_table read.directories.dirs) (by_table new.directories.dirs) table.pointer.0 (key_bytes key)
      (laid_in m read.store new.store table before.way write version laid.lays)
  pub marks : MarksFor (read.directories.most ≤ notes_in read.directories.dirs) read.directories new.directories
      table.pointer.0

-- why it is not put
pub data FailsPut {D : Type 0} (m : Meaning D) (old new : Core D) (t : TxNo) (table : Table) (write : Write)
    (key : Value) (rec : Option RecId) (refusal : Refusal) : Type 0 where
  no_version : IsTold old new Memory refusal → FailsPut m old new t table write key rec refusal
  no_before : FailsReading m old new (WhyNotBefore m old table rec) refusal
      → FailsPut m old new t table write key rec refusal
  no_lay : (read : Core D) (before : Before) (v : Version) → HasBefore m old read t table write rec before v
      → FailsKept m read new t.0 table write key before v refusal
      → FailsPut m old new t table write key rec refusal
