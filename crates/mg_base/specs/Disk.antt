-- What a disk means: its pages, what a crash may leave of them, and what it was asked for.
use Rattle.std.specs.Prelude.{◌≡◌, ◌⊎◌, ℕ, ◌+◌, ◌-◌, ◌<◌, ◌≤◌, ◌^◌, ◌||◌, ◌==◌, Bool, true, false, Option, Some, None, Result, IsErr, OnOk, OnErr, List, length, max}
use Rattle.mg_base.specs.Image.{Image, written}

-- What is known of a disk: a content or a size that is not known, or not told, is none. A moment is a
-- number of the disk's own clock, which never falls.
pub record Meaning (D : Type 0) : Type 1 where
  -- the size of a page, once it is known
  pub size : D → Option ℕ
  -- the number of pages, once it is known
  pub count : D → Option ℕ
  -- the pages that reads give
  pub held : D → Option Image
  -- whether it tells what a crash may leave
  pub tells : D → Bool
  pub moment : D → ℕ
  -- what a crash at that moment or a later one might have left
  pub left : D → ℕ → Image → Type 0
  -- how often it failed
  pub faults : D → ℕ
  -- how many of its faults were of page writes, or of settling
  pub failed_writes : D → ℕ
  -- how many page writes it was asked for, and how many page reads, where it counts them
  pub asked : D → ℕ
  pub reads : D → ℕ
  -- which pages were read, where it tells them
  pub was_read : D → ℕ → Bool
  -- how many page writes pass in all, where there is such a limit
  pub most_writes : D → Option ℕ

-- a count has risen; one that stands at its end counts as risen
abbrev pub Rose : ℕ → ℕ → Type 0
Rose before now = (before < now) ⊎ (2 ^ 64 - 1 ≤ now)

-- what is known stays known and stays the same
abbrev pub Stays : Option ℕ → Option ℕ → Type 0
Stays None now = Unit {0}
Stays (Some n) now = now ≡ Some n

-- what a crash now may leave
abbrev pub MayLeave : {D : Type 0} → Meaning D → D → Image → Type 0
MayLeave m disk image = m.left disk (m.moment disk) image

-- time goes on: what a crash might have left before it might still have left, and nothing is added but what a crash now may leave
pub record Elapses {D : Type 0} (m : Meaning D) (old new : D) : Type 0 where
  pub later : m.moment old ≤ m.moment new
  pub nothing_else : (t : ℕ) (c : Image) → t ≤ m.moment old → m.left new t c → m.left old t c ⊎ MayLeave m new c
  pub keeps : (t : ℕ) (c : Image) → t ≤ m.moment old → m.left old t c → m.left new t c

-- what every call keeps, and the only cause of its fault; the count of faults rises at a fault alone
pub record Keeps {D T E : Type 0} (m : Meaning D) (old new : D) (result : Result T E) : Type 0 where
  pub size : Stays (m.size old) (m.size new)
  pub tells : m.tells new ≡ m.tells old
  pub most_writes : m.most_writes new ≡ m.most_writes old
  pub time : m.tells old ≡ true → Elapses m old new
  pub never_falls : m.faults old ≤ m.faults new
  pub cause : IsErr result → Rose (m.faults old) (m.faults new)
  pub steady : OnOk result (m.faults new ≡ m.faults old)

-- no page write failed, and no settling
abbrev pub FailsNoWrite : {D : Type 0} → Meaning D → D → D → Type 0
FailsNoWrite m old new = m.failed_writes new ≡ m.failed_writes old

-- a page write or a settling: it counts as a failed one exactly where it fails
pub record CountsFailedWrite {D T E : Type 0} (m : Meaning D) (old new : D) (result : Result T E) : Type 0 where
  pub never_falls : m.failed_writes old ≤ m.failed_writes new
  pub cause : IsErr result → Rose (m.failed_writes old) (m.failed_writes new)
  pub steady : OnOk result (FailsNoWrite m old new)

-- a call that changes nothing of the content, and asks for no page write
pub record Calm {D T E : Type 0} (m : Meaning D) (old new : D) (result : Result T E) : Type 0 where
  pub keeps : Keeps m old new result
  pub count : Stays (m.count old) (m.count new)
  pub held : m.held new ≡ m.held old
  pub crash : m.tells old ≡ true → (c : Image) → MayLeave m new c → MayLeave m old c
  pub asked : m.asked new ≡ m.asked old

-- no page read was asked for
pub record KeepsReads {D : Type 0} (m : Meaning D) (old new : D) : Type 0 where
  pub reads : m.reads new ≡ m.reads old
  pub was_read : (n : ℕ) → m.was_read new n ≡ m.was_read old n

-- at most one page read was asked for, and of this page alone
pub record ReadsPage {D : Type 0} (m : Meaning D) (old new : D) (page : ℕ) : Type 0 where
  pub reads : m.reads new ≤ m.reads old + 1
  pub alone : (n : ℕ) → m.was_read new n ≡ true → (m.was_read old n ≡ true) ⊎ (n ≡ page)

-- What a page write does. At Ok the page is written; a write that failed may have reached the disk. A crash then leaves
-- what it might have left before, or what the disk holds now.
pub record Writes {D T E : Type 0} (m : Meaning D) (old new : D) (page : ℕ) (bytes : List ℕ) (result : Result T E) : Type 0 where
  pub count : OnOk result ((n : ℕ) → m.count old ≡ Some n → m.count new ≡ Some (max n (page + 1)))
  pub stored : OnOk result ((image : Image) → m.held old ≡ Some image → m.held new ≡ Some (written (length bytes) image page bytes))
  pub failed : OnErr result ((image : Image) → m.held old ≡ Some image → (m.held new ≡ Some image) ⊎ (m.held new ≡ Some (written (length bytes) image page bytes)))
  pub failed_count : OnErr result ((n : ℕ) → m.count old ≡ Some n → (m.count new ≡ Some n) ⊎ (m.count new ≡ Some (max n (page + 1))))
  pub crash : m.tells old ≡ true → (c : Image) → MayLeave m new c → MayLeave m old c ⊎ (m.held new ≡ Some c)
  -- a disk that does not tell what it holds goes on so
  pub untold : m.held old ≡ None → m.held new ≡ None
  pub asked : m.asked new ≤ m.asked old + 1
  pub unread : KeepsReads m old new
  pub keeps : Keeps m old new result

-- Of a disk that counts.

-- one call more is counted; a count that stands at its end stays there
abbrev pub Counts : ℕ → ℕ → Type 0
Counts before now = (now ≡ before + 1) ⊎ ((2 ^ 64 - 1 ≤ before) × (now ≡ before))

-- one page read more is counted, and at Ok this page was read
pub record CountsRead {D T E : Type 0} (m : Meaning D) (old new : D) (page : ℕ) (result : Result T E) : Type 0 where
  pub reads : Counts (m.reads old) (m.reads new)
  pub was_read : OnOk result ((n : ℕ) → m.was_read new n ≡ (m.was_read old n || n == page))
  pub failed : OnErr result ((n : ℕ) → m.was_read new n ≡ m.was_read old n)

-- nothing was counted yet
pub record IsUnasked {D : Type 0} (m : Meaning D) (disk : D) : Type 0 where
  pub asked : m.asked disk ≡ 0
  pub reads : m.reads disk ≡ 0
  pub was_read : (n : ℕ) → m.was_read disk n ≡ false
