-- A write, by its last stages.
use Rattle.std.proofs.Common.{◌≡◌, ◌≢◌, ◌≤◌, ◌∙◌, inl, ℕ, Bool, List, Option, None, Some, Vec, Global, Result, Ok, Err, ap, refl, subst, sym}
use Rattle.std.specs.Option.{option_map}
use Rattle.std.specs.Prelude.{IfSome, IsErr, MatchOption, IsErrAnd, MatchResult}
use Rattle.mg_base.specs.Disk.{Meaning}
use Rattle.mg_base.specs.Image.{Image}
use Rattle.mg_base.specs.declared.numbers.RecId.{RecId}
use Rattle.mg_base.specs.declared.numbers.TxNo.{TxNo}
use Rattle.mg_directory.specs.Candidates.{ByKey, ByTable, Drops, Kept, MarksFor, NotesIn, NotesOrDrops, at_key, by_table, notes_in}
use Rattle.mg_image.specs.Form.{Pages}
use Rattle.mg_model.specs.declared.refusal.Refusal.{Refusal}
use Rattle.mg_model.specs.declared.table.Table.{Table}
use Rattle.mg_pool.specs.Fault.{StaysOnline}
use Rattle.mg_pool.specs.Pool.{shown}
use Rattle.mg_pool.specs.declared.pool.Pool.{Pool}
use Rattle.mg_records.specs.declared.write.Write.{Write}
use Rattle.mg_row_writes.specs.Finding.{MayTell}
use Rattle.mg_row_writes.specs.Laying.{laid_in}
use Rattle.mg_row_writes.specs.Storing.{IsStored, written_at}
use Rattle.mg_sortkey.specs.KeyBytes.{key_bytes}
use Rattle.mg_txlist.specs.TxList.{said}
use Rattle.mg_txlist.specs.declared.list.TxList.{TxList}
use Rattle.mg_row_writes.specs.declared.before.Before.{Before}
use Rattle.mg_space.specs.View.{KeepsStore, Tells}
use Rattle.mg_space.specs.declared.links.FireLinks.{FireLinks}
use Rattle.mg_value.specs.declared.value.Value.{Value}
use Rattle.mg_value.specs.declared.value.Value.TheVariants.{Null}
use Rattle.mg_version.specs.declared.cell.Version.{Version}
use Rattle.mg_core.specs.declared.parts.Core.{Core}
use Rattle.mg_core.specs.Putting.{FailsPut, HasBefore, LaysKept, LaysKeptIn, NotesRow, PutsRow, StandsBefore}
use Rattle.mg_core.specs.Cores.{IsCore}
use Rattle.mg_core.specs.Writing.{FailsRow, FailsWrite, FindsRow, HasFound, HasPassed, IsFree, KnowsKey, Writes, at_row, not_put}

-- a refusal that a call met is handed on
pub refused_on : {T : Type 0} (result : Result T Refusal) (refusal : Refusal) (P : T → Type 0)
    (Q : Refusal → Type 0) → IsErr result → IsErrAnd result (λ given. given ≡ refusal) → Q refusal
    → MatchResult result P Q
refused_on (Ok x) refusal P Q err is holds = absurd cc
refused_on (Err e) refusal P Q err is holds = subst Q (sym is) holds

-- ---- the candidates

-- candidates that a directory has are enough where the directories know the key
pub may_tell_by : {D : Type 0} (core : Core D) (table : Table) (key read : Value) (list : TxList) (view : Pages)
    (recs : Option (List RecId)) (found : Option (Vec RecId Global))
    → recs ≡ option_map (λ list. list.items) found
    → IfSome found (λ list. at_key (by_table core.directories.dirs table.pointer.0) (key_bytes key) ≡ Some list.items)
    → read ≡ key → list ≡ core.list → KnowsKey core table key view
    → MayTell (said list) core.live view table read recs
may_tell_by core table key read list view recs found is has same said_same knows =
    subst (λ (k : Value). MayTell (said list) core.live view table k recs) (sym same)
    (subst (λ (l : TxList). MayTell (said l) core.live view table key recs) (sym said_same) (at found is has))
  where
    at : (f : Option (Vec RecId Global)) → recs ≡ option_map (λ list. list.items) f
        → IfSome f (λ list. at_key (by_table core.directories.dirs table.pointer.0) (key_bytes key) ≡ Some list.items)
        → MayTell (said core.list) core.live view table key recs
    at None is_ has_ = subst (MayTell (said core.list) core.live view table key) (sym is_) tt
    at (Some list_) is_ has_ =
        subst (MayTell (said core.list) core.live view table key) (sym is_) (knows list_.items has_)

-- what a directory has for the bytes of a key, it has for the key
pub candidates_by : (dir : Option ByKey) (found : Option (Vec RecId Global)) (bytes its : List ℕ) → bytes ≡ its
    → MatchOption found (dir ≡ None) (λ recs. at_key dir bytes ≡ Some recs.items)
    → IfSome found (λ recs. at_key dir its ≡ Some recs.items)
candidates_by dir None bytes its same found = tt
candidates_by dir (Some recs) bytes its same found = subst (λ (b : List ℕ). at_key dir b ≡ Some recs.items) same found

-- ---- the record is noted

-- directories are in nothing else that an engine agrees with
pub core_noted : {D : Type 0} (m : Meaning D) (core : Core D) (dirs : Kept) → IsCore m core
    → IsCore m (record core { directories = dirs })
core_noted m core dirs is = record {
  pool = is.pool;
  geometry = is.geometry;
  list = is.list;
  size = is.size;
  tips = is.tips;
  next = is.next;
  drawn = is.drawn;
  active = is.active;
  catalog = is.catalog;
}

-- directories that stay are those that there were
pub undirected : {D : Type 0} (old final : Core D) (store : Pool D FireLinks) (dirs : Kept) → dirs ≡ old.directories
    → final ≡ record old {
      store = store;
      directories = dirs;
      damage = final.damage;
      shortages = final.shortages;
    } → final ≡ record old { store = store; damage = final.damage; shortages = final.shortages }
undirected {D} old final store dirs same is = subst
    (λ (ds : Kept). final ≡ record old {
      store = store;
      directories = ds;
      damage = final.damage;
      shortages = final.shortages;
    }) same is

-- a directory that is dropped has nothing to be noted in
pub dropped_notes : (old new : ByTable) (first : ℕ) (bytes : List ℕ) (rec : RecId) → Drops old new first
    → NotesOrDrops old new first bytes rec
dropped_notes old new first bytes rec drops = record {
  its = subst (λ (o : Option ByKey). NotesIn (old first) o bytes rec) (sym drops.its) tt;
  others = drops.others;
}

-- nor is anything marked, where all else of the directories is as it was
pub unmarked : (cause : Type 0) (old new : Kept) (first : ℕ) → new ≡ record old { dirs = new.dirs }
    → MarksFor cause old new first
unmarked cause old new first same = record {
  most = ap (λ (k : Kept). k.most) same;
  marked = inl (ap (λ (k : Kept). k.too_large) same);
}

-- the row is put: its version is laid, and its record is noted
pub put_noted : {D : Type 0} (m : Meaning D) (old read mid new : Core D) (t : TxNo) (table : Table) (write : Write)
    (key : Value) (rec : Option RecId) (before : Before) (v : Version) (at : RecId)
    → HasBefore m old read t table write rec before v
    → LaysKeptIn m read mid t.0 table write key before v at → NotesRow mid new table.pointer.0 key at
    → PutsRow m old new t table write key rec
put_noted {D} m old read mid new t table write key rec before v at has lays notes = record {
  read = read;
  before = before;
  version = v;
  has = has;
  laid = both.0;
  noted = subst (λ (r : RecId). NotesOrDrops (by_table read.directories.dirs) (by_table new.directories.dirs)
      table.pointer.0 (key_bytes key) r) both.1
      (subst (λ (ds : Kept). NotesOrDrops (by_table ds.dirs) (by_table new.directories.dirs) table.pointer.0
      (key_bytes key) at) (ap (λ (c : Core D). c.directories) lays.laid.same) notes.notes);
  marks = subst (λ (ds : Kept). MarksFor (ds.most ≤ notes_in ds.dirs) ds new.directories table.pointer.0)
      (ap (λ (c : Core D). c.directories) lays.laid.same) notes.marks;
}
  where
    -- with the directories as they were read
    as_read : Core D → Core D
    as_read c = record c { directories = read.directories }

    back : as_read new ≡ mid
    back = ap as_read notes.same ∙ (ap as_read lays.laid.same ∙ sym lays.laid.same)

    IsLaid : Core D → Type 0
    IsLaid c = (laid : LaysKept m read c t.0 table write key before v)
        × (at ≡ laid_in m read.store c.store table before.way write v laid.lays)

    both : IsLaid (as_read new)
    both = subst IsLaid (sym back) (lays.laid, lays.at)

-- what stands at the key was read
pub has_by : {D : Type 0} (m : Meaning D) (old : Core D) (store : Pool D FireLinks) (t : TxNo) (table : Table)
    (write : Write) (rec : Option RecId) (before : Before) (v : Version) → IsStored table t.0 write v
    → KeepsStore m old.store store → StaysOnline m old.store store
    → ((image : Image) → Tells m old.store.disk image
    → StandsBefore old t table rec before (shown old.store.dirty image))
    → HasBefore m old (record old { store = store }) t table write rec before v
has_by m old store t table write rec before v stored keeps online told = record {
  stored = stored;
  reads = record { keeps = keeps; online = online; same = refl };
  told = told;
}

-- the row in the view allows the write
pub found_by : {D : Type 0} (m : Meaning D) (old passed keyed found : Core D) (t : TxNo) (table : Table)
    (write : Write) (wait : Bool) (rec : Option RecId) (key : Value) → HasPassed m old passed t table wait
    → keyed ≡ passed → key ≡ written_at table write → written_at table write ≢ Null
    → FindsRow m keyed found t table key write rec → HasFound m old found t table write wait rec
found_by {D} m old passed keyed found t table write wait rec key has same is some finds = record {
  passed = passed;
  has_passed = has;
  key = some;
  finds = subst (λ (k : Value). FindsRow m passed found t table k write rec) is
      (subst (λ (core : Core D). FindsRow m core found t table key write rec) same finds);
}

-- it does not
pub row_refused : {D : Type 0} (m : Meaning D) (old passed keyed new : Core D) (t : TxNo) (table : Table)
    (write : Write) (wait : Bool) (key : Value) (refusal : Refusal) → HasPassed m old passed t table wait
    → keyed ≡ passed → key ≡ written_at table write → written_at table write ≢ Null
    → FailsRow m keyed new t table key write refusal → FailsWrite m old new t table write refusal
row_refused {D} m old passed keyed new t table write wait key refusal has same is some fails =
    at_row passed wait has some (subst (λ (k : Value). FailsRow m passed new t table k write refusal) is
    (subst (λ (core : Core D). FailsRow m core new t table key write refusal) same fails))

-- the row is put, or not
pub done_by : {D : Type 0} (m : Meaning D) (old free new : Core D) (t : TxNo) (table : Table) (write : Write)
    (wait : Bool) (rec : Option RecId) (key : Value) (result : Result (Unit {0}) Refusal)
    → IsFree m old free t table write wait rec → key ≡ written_at table write
    → MatchResult result (λ _. PutsRow m free new t table write key rec) (FailsPut m free new t table write key rec)
    → MatchResult result (λ _. Writes m old new t table write) (FailsWrite m old new t table write)
done_by m old free new t table write wait rec key (Ok x) is_free is puts = record {
  wait = wait;
  rec = rec;
  free = free;
  is_free = is_free;
  puts = subst (λ (k : Value). PutsRow m free new t table write k rec) is puts;
}
done_by m old free new t table write wait rec key (Err refusal) is_free is fails = not_put free wait rec is_free
    (subst (λ (k : Value). FailsPut m free new t table write k rec refusal) is fails)
