-- A disk of which a number of page writes pass.
use Rattle.std.specs.Prelude.{◌≡◌, ℕ, ◌+◌, ◌-◌, ◌<◌, min, Some}
use Rattle.mg_base.specs.Disk.{Meaning, Rose}
use Rattle.mg_fuse.specs.Counting.{AsksAtMost, AsksExactly}
use Rattle.mg_fuse.specs.declared.stopped.Stopped.{Stopped}

abbrev pub inner_of : {D : Type 0} → Stopped D → D
inner_of d = d.inner

abbrev pub most_of : {D : Type 0} → Stopped D → ℕ
most_of d = d.most

-- the page writes that it passed on
abbrev pub passed_of : {D : Type 0} → Stopped D → ℕ
passed_of d = d.passed

-- the page writes that it refused
abbrev pub blown_of : {D : Type 0} → Stopped D → ℕ
blown_of d = d.blown

-- what the disk behind it will have counted when all page writes have passed that may, as far as it counts
abbrev pub most_asked : {D : Type 0} → Meaning D → ℕ → Stopped D → ℕ
most_asked m counts_to d = min (m.asked d.inner + (d.most - d.passed)) counts_to

-- It tells what the disk behind it tells, and counts page reads as that does. Its faults are those of both, and so its
-- failed page writes. It counts the page writes that it was asked for. How many pass in all is told as the disk behind it counts them, up to the end of its
-- count: that number stays whatever is called.
abbrev pub stopped_meaning : {D : Type 0} → Meaning D → ℕ → Meaning (Stopped D)
stopped_meaning m counts_to = record {
  size = λ d. m.size d.inner;
  count = λ d. m.count d.inner;
  held = λ d. m.held d.inner;
  tells = λ d. m.tells d.inner;
  moment = λ d. m.moment d.inner;
  left = λ d t c. m.left d.inner t c;
  faults = λ d. m.faults d.inner + d.blown;
  failed_writes = λ d. m.failed_writes d.inner + d.blown;
  asked = λ d. d.passed + d.blown;
  reads = λ d. m.reads d.inner;
  was_read = λ d n. m.was_read d.inner n;
  most_writes = λ d. Some (most_asked m counts_to d);
}

-- a disk was put behind a fuse that lets so many page writes pass, and nothing was asked yet
pub record IsNewlyStopped {D : Type 0} (inner : D) (most : ℕ) (stopped : Stopped D) : Type 0 where
  pub its_inner : inner_of stopped ≡ inner
  pub its_most : most_of stopped ≡ most
  pub none_passed : passed_of stopped ≡ 0
  pub none_blown : blown_of stopped ≡ 0

-- one page write more has passed
pub record Passes {D : Type 0} (old new : Stopped D) : Type 0 where
  pub passed : passed_of new ≡ passed_of old + 1
  pub most : most_of new ≡ most_of old
  pub blown : blown_of new ≡ blown_of old

-- a page write was refused, and the disk behind the fuse does not know of it
pub record Blows {D : Type 0} (old new : Stopped D) : Type 0 where
  pub inner : inner_of new ≡ inner_of old
  pub passed : passed_of new ≡ passed_of old
  pub most : most_of new ≡ most_of old
  pub blown : Rose (blown_of old) (blown_of new)

-- A disk was put behind a fuse, and calls have left as many page writes to pass in all: it was asked for no more page
-- writes than pass, and for all of them if one was refused; and it was refused where the fuse failed and the disk did not.
pub record StopsWithin {D : Type 0} (m : Meaning D) (counts_to most : ℕ) (inner : D) (new : Stopped D) : Type 0 where
  pub at_most : AsksAtMost m counts_to most inner (inner_of new)
  pub all : 0 < blown_of new → AsksExactly m counts_to most inner (inner_of new)

abbrev pub StoppedDisksAreAskedForNoMore : {D : Type 0} → Meaning D → ℕ → Type 0
StoppedDisksAreAskedForNoMore {D} m counts_to = (inner : D) (most : ℕ) (old new : Stopped D)
    → IsNewlyStopped inner most old
    → (stopped_meaning m counts_to).most_writes new ≡ (stopped_meaning m counts_to).most_writes old
    → StopsWithin m counts_to most inner new
