-- What a device means: what is surely on it, and the page writes that may still reach it, in any order.
use Rattle.std.specs.Prelude.{◌≡◌, ◌⊎◌, ℕ, ◌≤◌, Bool, true, false, Option, Some, None, Result, OnOk, OnErr, List, [], ◌∷◌, ◌++◌, length, max, ◌+◌}
use Rattle.mg_base.specs.Disk.{Keeps, Meaning, Stays}
use Rattle.mg_base.specs.Image.{Image, written}

pub record PageWrite : Type 0 where
  pub page : ℕ
  pub bytes : List ℕ

-- an image after one page write, and after several, the newest first
abbrev pub after_write : Image → PageWrite → Image
after_write image w = written (length w.bytes) image w.page w.bytes

abbrev pub after_writes : Image → List PageWrite → Image
after_writes image [] = image
after_writes image (w ∷ ws) = after_write (after_writes image ws) w

-- From an image an image comes as some of the page writes reach the device, in any order: none of them, or one of them
-- first and then some of the others.
pub data Reaches : Image → List PageWrite → Image → Type 0 where
  none : {image : Image} {ws : List PageWrite} → Reaches image ws image
  first : (image : Image) (before : List PageWrite) (w : PageWrite) (after : List PageWrite) (c : Image)
      → Reaches (after_write image w) (before ++ after) c → Reaches image (before ++ w ∷ after) c

-- What is known of a device: a size, a number of pages or a content that is not known, or not told, is none. A moment is
-- a number of its own clock, which never falls.
pub record DeviceMeaning (V : Type 0) : Type 1 where
  -- the size of a page, once it is known
  pub size : V → Option ℕ
  -- the number of pages, once it is known
  pub count : V → Option ℕ
  -- what it held at the last sync that answered Ok: this stays
  pub synced : V → Option Image
  -- the page writes since then, the newest first
  pub pending : V → List PageWrite
  -- whether a page write or a sync has failed
  pub failed : V → Bool
  -- whether it tells what a crash may leave
  pub tells : V → Bool
  pub moment : V → ℕ
  -- what a crash at that moment or a later one might have left
  pub left : V → ℕ → Image → Type 0
  -- how often it failed
  pub faults : V → ℕ

-- what was synced, with every page write since then
abbrev pub written_through : Option Image → List PageWrite → Option Image
written_through None ws = None
written_through (Some image) ws = Some (after_writes image ws)

-- a device read as a disk, which holds what was synced with every page write since then, and counts neither what it is
-- asked for nor which of its faults were of page writes
abbrev pub as_disk : {V : Type 0} → DeviceMeaning V → Meaning V
as_disk m = record {
  size = m.size;
  count = m.count;
  held = λ v. written_through (m.synced v) (m.pending v);
  tells = m.tells;
  moment = m.moment;
  left = m.left;
  faults = m.faults;
  failed_writes = λ v. 0;
  asked = λ v. 0;
  reads = λ v. 0;
  was_read = λ v n. false;
  most_writes = λ v. None;
}

-- What every device keeps to. A crash leaves just the images that come of what was synced, as some of the page writes since
-- then reach the device in any order; and it might have left them since any earlier moment.
pub record IsDevice {V : Type 0} (m : DeviceMeaning V) : Type 0 where
  pub told : (v : V) → m.tells v ≡ true → (image : Image) × (m.synced v ≡ Some image)
  pub leaves : (v : V) (image c : Image) → m.tells v ≡ true → m.synced v ≡ Some image → m.left v (m.moment v) c → Reaches image (m.pending v) c
  pub may_leave : (v : V) (t : ℕ) (image c : Image) → m.tells v ≡ true → m.synced v ≡ Some image → t ≤ m.moment v
      → Reaches image (m.pending v) c → m.left v t c
  pub counted : (v : V) (image : Image) (n : ℕ) → m.synced v ≡ Some image → m.count v ≡ Some n → length (after_writes image (m.pending v)) ≡ n
  -- what a crash at any moment might have left has no more pages than it holds: it never loses one
  pub never_shrinks : (v : V) (t : ℕ) (image c : Image) → m.tells v ≡ true → m.synced v ≡ Some image → m.left v t c
      → length c ≤ length (after_writes image (m.pending v))

-- a call that writes nothing and syncs nothing
pub record Rests {V T E : Type 0} (m : DeviceMeaning V) (old new : V) (result : Result T E) : Type 0 where
  pub keeps : Keeps (as_disk m) old new result
  pub count : Stays (m.count old) (m.count new)
  pub synced : m.synced new ≡ m.synced old
  pub pending : m.pending new ≡ m.pending old
  pub failed : m.failed new ≡ m.failed old

-- What a page write does: at Ok it is pending. One that failed may be pending too. The number of pages stays told.
-- Nothing is said of the page writes of a device that does not tell what was synced.
pub record Pends {V T E : Type 0} (m : DeviceMeaning V) (old new : V) (w : PageWrite) (result : Result T E) : Type 0 where
  pub keeps : Keeps (as_disk m) old new result
  pub synced : m.synced new ≡ m.synced old
  pub pending : OnOk result ((image : Image) → m.synced old ≡ Some image → m.pending new ≡ w ∷ m.pending old)
  pub in_doubt : OnErr result ((image : Image) → m.synced old ≡ Some image → (m.pending new ≡ m.pending old) ⊎ (m.pending new ≡ w ∷ m.pending old))
  pub failed : OnErr result (m.failed new ≡ true)
  pub goes_on : OnOk result (m.failed new ≡ m.failed old)
  pub count : OnOk result ((n : ℕ) → m.count old ≡ Some n → m.count new ≡ Some (max n (w.page + 1)))
  pub failed_count : OnErr result ((n : ℕ) → m.count old ≡ Some n → (m.count new ≡ Some n) ⊎ (m.count new ≡ Some (max n (w.page + 1))))

-- What a sync does: at Ok every page write is on the device to stay, unless a page write or a sync failed before: what is
-- pending then may have been dropped, and the answer does not tell. One that failed leaves them pending.
pub record Syncs {V T E : Type 0} (m : DeviceMeaning V) (old new : V) (result : Result T E) : Type 0 where
  pub keeps : Keeps (as_disk m) old new result
  pub count : Stays (m.count old) (m.count new)
  pub synced : OnOk result (m.failed old ≡ false → m.synced new ≡ written_through (m.synced old) (m.pending old))
  pub none_pending : OnOk result (m.failed old ≡ false → m.pending new ≡ [])
  pub in_doubt : OnErr result ((m.synced new ≡ m.synced old) × (m.pending new ≡ m.pending old))
  pub failed : OnErr result (m.failed new ≡ true)
  pub goes_on : OnOk result (m.failed new ≡ m.failed old)
