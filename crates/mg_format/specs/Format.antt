-- The writing of a new database: what each page write leaves, and what a crash may leave.
use Rattle.std.specs.Prelude.{◌≡◌, ◌⊎◌, ◌<◌, ◌≤◌, ◌==◌, ℕ, false, List, Result, OnOk, if◌then◌else◌}
use Rattle.mg_base.specs.Disk.{MayLeave, Meaning}
use Rattle.mg_base.specs.Image.{Image, page_at}
use Rattle.mg_base.specs.Moments.{LeavesOnly}
use Rattle.mg_base.specs.declared.geometry.TheConstants.{GREATEST_LIMIT}
use Rattle.mg_image.specs.Form.{Pages, packed_coding, packed_form}
use Rattle.mg_image.specs.NewDatabase.{IsNewPage}
use Rattle.mg_image.specs.Opening.{IsUnmade}
use Rattle.mg_pool.specs.Dirty.{is_dirty}
use Rattle.mg_pool.specs.declared.pool.Pool.{Pool}
use Rattle.mg_space.specs.View.{Tells}

-- no page is dirty
abbrev pub IsClean : {D L : Type 0} → Pool D L → Type 0
IsClean store = (p : ℕ) → is_dirty store.dirty p ≡ false

-- What a disk says of itself stays: whether it tells what a crash may leave, and how many page writes pass in all.
pub record SaysAlike {D : Type 0} (m : Meaning D) (old new : D) : Type 0 where
  pub tells : m.tells new ≡ m.tells old
  pub most_writes : m.most_writes new ≡ m.most_writes old

-- one page is dirty, and no other
abbrev pub IsOnlyDirty : {D L : Type 0} → Pool D L → ℕ → Type 0
IsOnlyDirty store n = (p : ℕ) → is_dirty store.dirty p ≡ (p == n)

-- pages with another content of one of them
abbrev pub with_page : Pages → ℕ → List ℕ → Pages
with_page pages n bytes p = if p == n then bytes else pages p

-- the pages of an image are these
abbrev pub HasPages : ℕ → Image → Pages → Type 0
HasPages size image pages = (p : ℕ) → page_at size image p ≡ pages p

-- a database may be made on an image
abbrev pub IsUnmadeImage : ℕ → Image → Type 0
IsUnmadeImage size image = IsUnmade packed_form size (page_at size image)

-- an image is a new database: each page below the greatest limit is that of its number
abbrev pub IsMade : ℕ → Image → Type 0
IsMade size image =
    (n : ℕ) → n < GREATEST_LIMIT → IsNewPage packed_coding size n (page_at size image n)

-- the disk tells an image on which a database may be made
pub record IsFresh {D L : Type 0} (m : Meaning D) (store : Pool D L) (image : Image) : Type 0 where
  pub tells : Tells m store.disk image
  pub unmade : IsUnmadeImage store.geometry.size image

-- the disk tells an image whose pages are these
pub record HoldsPages {D : Type 0} (m : Meaning D) (disk : D) (size : ℕ) (pages : Pages)
    : Type 0 where
  pub image : Image
  pub tells : Tells m disk image
  pub pages_are : HasPages size image pages

-- A page was written. A crash leaves what it might have left before, or the image before or after
-- the page write.
pub record WritesNew {D E : Type 0} (m : Meaning D) (old new : D) (size : ℕ) (image : Image) (n : ℕ)
    (result : Result (Unit {0}) E) : Type 0 where
  pub bytes : List ℕ
  pub is_new : IsNewPage packed_coding size n bytes
  pub crash : LeavesOnly m old new (λ c. MayLeave m old c
      ⊎ (HasPages size c (page_at size image)
      ⊎ HasPages size c (with_page (page_at size image) n bytes)))
  pub written : OnOk result
      (HoldsPages m new size (with_page (page_at size image) n bytes))

-- What a crash may leave since a disk was fresh: what it might have left before, an image on which a
-- database may be made, or the new database.
abbrev pub LeavesNew : {D : Type 0} → Meaning D → D → ℕ → Image → Type 0
LeavesNew m old size c = MayLeave m old c ⊎ (IsUnmadeImage size c ⊎ IsMade size c)

-- The pages from 1 up to one were written, and nothing else has happened to a fresh disk.
pub record HasWrittenUpTo {D : Type 0} (m : Meaning D) (start now : D) (size n : ℕ) : Type 0 where
  pub image : Image
  pub tells : Tells m now image
  pub unmade : IsUnmadeImage size image
  pub made : (p : ℕ) → 1 ≤ p → p < n → IsNewPage packed_coding size p (page_at size image p)
  pub crash : LeavesOnly m start now (LeavesNew m start size)

-- The new database is on the disk, and a crash leaves nothing else.
pub record HasNew {D : Type 0} (m : Meaning D) (disk : D) (size : ℕ) : Type 0 where
  pub image : Image
  pub tells : Tells m disk image
  pub made : IsMade size image
  pub settled : (c : Image) → MayLeave m disk c → c ≡ image

-- What the writing of a new database leaves. Stopped at any page write, a crash leaves no database,
-- or the new one.
pub record FormatDone {D E : Type 0} (m : Meaning D) (old new : D) (size : ℕ)
    (result : Result (Unit {0}) E) : Type 0 where
  pub crash : LeavesOnly m old new (LeavesNew m old size)
  pub made : OnOk result (HasNew m new size)
