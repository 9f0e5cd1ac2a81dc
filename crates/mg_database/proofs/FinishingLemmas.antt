-- Every page is written, and the disk settled.
use Rattle.std.proofs.Common.{◌≡◌, ℕ, true, false, List, [], ◌∷◌, Option, None, Some, refl, sym, ap, ◌∙◌, subst}
use Rattle.std.specs.Prelude.{OnOk, Result, Ok, Err, is_some, unwrap_or}
use Rattle.mg_base.specs.Disk.{FailsNoWrite, MayLeave, Meaning, Rose}
use Rattle.mg_base.specs.Image.{Image, page_at}
use Rattle.mg_format.specs.Format.{IsClean}
use Rattle.mg_pool.specs.Dirty.{content_of}
use Rattle.mg_base.specs.declared.geometry.Geometry.{Geometry}
use Rattle.mg_base.specs.declared.numbers.PageNo.{PageNo}
use Rattle.mg_pool.specs.Fault.{OnlyRefuses, OnlyWrites, TellsFault}
use Rattle.mg_pool.specs.Pool.{HasAtMost, IsPool, KeepsContent, shown}
use Rattle.mg_pool.specs.Refusal.{LeavesRefused}
use Rattle.mg_pool.specs.Run.{HasWritten}
use Rattle.mg_pool.specs.declared.fault.PoolFault.{PoolFault}
use Rattle.mg_pool.specs.declared.fault.PoolFault.TheVariants as faults
use Rattle.mg_pool.specs.declared.pool.Pool.{Pool}
use Rattle.mg_space.specs.View.{Tells}
use Rattle.mg_space.specs.declared.links.FireLinks.{FireLinks}
use Rattle.mg_survey.specs.Survey.{IsSameDisk}
use Rattle.mg_database.specs.Finishing.{FailsToEnd, FailsWriting, Finishes, HasWrittenOn, WritesAll, WritesOn, offline, unsettled, unwritten}

abbrev pub Holds : {D : Type 0} → Meaning D → Type 0
Holds {D} m = (disk : D) → m.tells disk ≡ true
    → (image : Image) × (m.held disk ≡ Some image) × MayLeave m disk image

pub written_more : {D : Type 0} (m : Meaning D) (old mid new : Pool D FireLinks) → HasWrittenOn m old mid
    → new.offline ≡ None → HasWritten m mid new → HasWrittenOn m old new
written_more m old mid new so_far online run = record {
  pool = run.pool;
  online = online;
  between = mid ∷ so_far.between;
  run = (so_far.run, run);
}

-- over the whole run the disk's counts of faults have not risen, it tells as before, and lets as many page writes pass
steady : {D : Type 0} (m : Meaning D) (between : List (Pool D FireLinks)) (old now : Pool D FireLinks)
    → WritesOn m between old now → (m.faults now.disk ≡ m.faults old.disk) × (m.tells now.disk ≡ m.tells old.disk)
    × (now.dirty.size ≡ old.dirty.size) × (m.most_writes now.disk ≡ m.most_writes old.disk) × FailsNoWrite m old.disk now.disk
steady m [] old now run = rw run (refl, refl, refl, refl, refl)
steady m (mid ∷ earlier) old now run = let before = steady m earlier old mid run.0 in (
  run.1.steady ∙ before.0,
  run.1.tells ∙ before.1,
  run.1.size ∙ before.2,
  run.1.time.most_writes ∙ before.3,
  run.1.none_failed ∙ before.4,
)

-- nor has its page size changed
same_geometry : {D : Type 0} (m : Meaning D) (between : List (Pool D FireLinks)) (old now : Pool D FireLinks)
    → WritesOn m between old now → now.geometry ≡ old.geometry
same_geometry {D} m [] old now run = ap (λ (s : Pool D FireLinks). s.geometry) run
same_geometry m (mid ∷ earlier) old now run = run.1.geometry ∙ same_geometry m earlier old mid run.0

-- two caches of one geometry have disks of one page size
sized_alike : {D : Type 0} (m : Meaning D) (old new : Pool D FireLinks) → IsPool m old → IsPool m new
    → new.geometry ≡ old.geometry → m.tells new.disk ≡ m.tells old.disk
    → m.most_writes new.disk ≡ m.most_writes old.disk → IsSameDisk m old.disk new.disk
sized_alike m old new before after same tells most = record {
  size = λ n known. after.size ∙ (ap (λ (g : Geometry). Some g.size) same ∙ (sym before.size ∙ known));
  tells = tells;
  most_writes = most;
}

-- the disk is what it was, where a page write failed
writing_same : {D : Type 0} (m : Meaning D) (old new : Pool D FireLinks) (count : ℕ) → IsPool m old
    → FailsWriting m old new count → IsSameDisk m old.disk new.disk
writing_same {D} m old new count pool fails = sized_alike m old new pool fails.fails.fails.pool
    (ap (λ (s : Pool D FireLinks). s.geometry) fails.fails.fails.same
    ∙ (fails.fails.written.geometry ∙ same_geometry m fails.run.between old fails.mid fails.run.run))
    (fails.fails.fails.time.tells ∙ (fails.fails.written.tells
    ∙ (steady m fails.run.between old fails.mid fails.run.run).1))
    (fails.fails.fails.time.most_writes ∙ (fails.fails.written.time.most_writes
    ∙ (steady m fails.run.between old fails.mid fails.run.run).3))

pub all_same : {D : Type 0} (m : Meaning D) (old new : Pool D FireLinks) (fault : PoolFault) → IsPool m old
    → WritesAll m old new (Err fault) → IsSameDisk m old.disk new.disk
all_same m old new fault pool fails = writing_same m old new fails.0 pool fails.2

-- and it has no more pages than the page limit
pub all_within : {D : Type 0} (m : Meaning D) (old new : Pool D FireLinks) (fault : PoolFault)
    → WritesAll m old new (Err fault) → HasAtMost m new.disk old.geometry.limit
all_within {D} m old new fault all = at all.2
  where
    at : FailsWriting m old new all.0 → HasAtMost m new.disk old.geometry.limit
    at fails = subst (λ (g : Geometry). HasAtMost m new.disk g.limit)
        (ap (λ (s : Pool D FireLinks). s.geometry) fails.fails.fails.same
        ∙ (fails.fails.written.geometry ∙ same_geometry m fails.run.between old fails.mid fails.run.run))
        fails.fails.fails.pool.within

pub settled_within : {D : Type 0} (m : Meaning D) (old mid new : Pool D FireLinks) → IsPool m new
    → HasWrittenOn m old mid → new.geometry ≡ mid.geometry → HasAtMost m new.disk old.geometry.limit
settled_within m old mid new after run same = subst (λ (g : Geometry). HasAtMost m new.disk g.limit)
    (same ∙ same_geometry m run.between old mid run.run) after.within

-- and where it was settled, or that failed
pub settled_same : {D : Type 0} (m : Meaning D) (old mid new : Pool D FireLinks) → IsPool m old → IsPool m new
    → HasWrittenOn m old mid → new.geometry ≡ mid.geometry → KeepsContent m mid.disk new.disk
    → IsSameDisk m old.disk new.disk
settled_same m old mid new before after run same keeps = sized_alike m old new before after
    (same ∙ same_geometry m run.between old mid run.run) (keeps.tells ∙ (steady m run.between old mid run.run).1)
    (keeps.most_writes ∙ (steady m run.between old mid run.run).3)

-- and each page is shown as before
pub same_pages : {D : Type 0} (m : Meaning D) → Holds m → (between : List (Pool D FireLinks))
    (old now : Pool D FireLinks) → WritesOn m between old now → (i j : Image) → Tells m old.disk i
    → m.held now.disk ≡ Some j → (page : ℕ) → shown now.dirty j page ≡ shown old.dirty i page
same_pages {D} m holds [] old now run i j tells held page =
    subst (λ (s : Pool D FireLinks). m.held s.disk ≡ Some j → shown s.dirty j page ≡ shown old.dirty i page)
    (sym run) same held
  where
    some : (a b : Image) → Some a ≡ Some b → a ≡ b
    some a b e = cc

    same : m.held old.disk ≡ Some j → shown old.dirty j page ≡ shown old.dirty i page
    same its = ap (λ (k : Image). shown old.dirty k page) (some j i (sym its ∙ tells.held))
same_pages m holds (mid ∷ earlier) old now run i j tells held page =
    let told : m.tells mid.disk ≡ true = (steady m earlier old mid run.0).1 ∙ tells.told in
    let there = holds mid.disk told in
    (run.1.out told there.0 j there.1 held).shown_same page
    ∙ same_pages m holds earlier old mid run.0 i there.0 tells there.1 page

-- where no page is dirty, the pages are shown as on the disk
clean_shown : {D : Type 0} (store : Pool D FireLinks) → IsClean store → (image : Image) (page : ℕ)
    → shown store.dirty image page ≡ page_at store.dirty.size image page
clean_shown store clean image page = at (content_of store.dirty page) (clean page)
  where
    at : (content : Option (List ℕ)) → is_some content ≡ false
        → unwrap_or content (page_at store.dirty.size image page) ≡ page_at store.dirty.size image page
    at None none = refl
    at (Some bytes) none = absurd cc

-- a page write failed
pub write_fails : {D : Type 0} (m : Meaning D) (old mid new : Pool D FireLinks) (fault : PoolFault)
    → HasWrittenOn m old mid → OnlyWrites {T = PageNo} (Err fault) → TellsFault {T = PageNo} m mid new (Err fault)
    → LeavesRefused {T = PageNo} m mid new (Err fault) → WritesAll m old new (Err fault)
write_fails m old mid new (faults.DiskRead n) so_far own told left = absurd own
write_fails m old mid new (faults.DiskWrite n) so_far own told left = (
  n,
  refl,
  record {
    mid = mid;
    run = so_far;
    fails = left;
    rose = subst (λ (count : ℕ). Rose count (m.faults new.disk))
        (steady m so_far.between old mid so_far.run).0 told.2.2;
    failed_writes = subst (λ (count : ℕ). Rose count (m.failed_writes new.disk))
        (steady m so_far.between old mid so_far.run).4 told.3;
  },
)
write_fails m old mid new (faults.Offline n) so_far own told left =
    absurd (let no : None ≡ Some n = sym so_far.online ∙ told.0 in cc)
write_fails m old mid new (faults.Absent n) so_far own told left = absurd own
write_fails m old mid new faults.Memory so_far own told left = absurd own

-- an earlier page write had failed
pub offline_fails : {D : Type 0} (m : Meaning D) (old : Pool D FireLinks) (fault : PoolFault)
    → OnlyRefuses {T = Unit {0}} (Err fault) → TellsFault {T = Unit {0}} m old old (Err fault)
    → FailsToEnd m old old fault
offline_fails m old (faults.DiskRead n) own told = absurd own
offline_fails m old (faults.DiskWrite n) own told = absurd own
offline_fails m old (faults.Offline n) own told = offline n told.0 refl
offline_fails m old (faults.Absent n) own told = absurd own
offline_fails m old faults.Memory own told = absurd own

-- not every page was written
pub writing_fails : {D : Type 0} (m : Meaning D) (old new : Pool D FireLinks) (fault : PoolFault)
    → WritesAll m old new (Err fault) → FailsToEnd m old new fault
writing_fails m old new fault fails = subst (FailsToEnd m old new) (sym fails.1) (unwritten fails.0 fails.2)

-- the disk was settled, or that failed
module _ {D : Type 0} (m : Meaning D) (holds : Holds m) (old written new : Pool D FireLinks)
    (online : old.offline ≡ None) (run : HasWrittenOn m old written) (clean : IsClean written)
    (settles : KeepsContent m written.disk new.disk) where
  parts : (m.faults written.disk ≡ m.faults old.disk) × (m.tells written.disk ≡ m.tells old.disk)
      × (written.dirty.size ≡ old.dirty.size) × (m.most_writes written.disk ≡ m.most_writes old.disk)
      × FailsNoWrite m old.disk written.disk
  parts = steady m run.between old written run.run

  kept : (image now : Image) → Tells m old.disk image → m.held new.disk ≡ Some now
      → (page : ℕ) → page_at old.dirty.size now page ≡ shown old.dirty image page
  kept image now tells held page = ap (λ (size : ℕ). page_at size now page) (sym parts.2)
      ∙ (sym (clean_shown written clean now page)
      ∙ same_pages m holds run.between old written run.run image now tells (sym settles.held ∙ held) page)

  pub settled : (result : Result (Unit {0}) PoolFault) → OnlyWrites result
      → TellsFault m written new result
      → OnOk result (m.tells written.disk ≡ true → (c : Image) → MayLeave m new.disk c → m.held new.disk ≡ Some c)
      → Finishes m old new result
  settled (Ok x) own told durable = record {
    online = online;
    written = written;
    run = run;
    clean = clean;
    settles = settles;
    steady = ap (λ (counts : ℕ × ℕ × ℕ). counts.1) told.2 ∙ parts.0;
    none_failed = ap (λ (counts : ℕ × ℕ × ℕ). counts.2) told.2 ∙ parts.4;
    holds = kept;
    durable = λ tells c may. durable (parts.1 ∙ tells) c may;
  }
  settled (Err (faults.DiskRead n)) own told durable = absurd own
  settled (Err (faults.DiskWrite n)) own told durable = unsettled n written run clean settles (
    subst (λ (count : ℕ). Rose count (m.faults new.disk)) parts.0 told.2.2,
    subst (λ (count : ℕ). Rose count (m.failed_writes new.disk)) parts.4 told.3,
  )
  settled (Err (faults.Offline n)) own told durable =
      absurd (let no : None ≡ Some n = sym run.online ∙ told.0 in cc)
  settled (Err (faults.Absent n)) own told durable = absurd own
  settled (Err faults.Memory) own told durable = absurd own
