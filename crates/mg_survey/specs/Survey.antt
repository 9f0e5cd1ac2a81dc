-- What a disk is asked before it is opened, and on which a database may be made.
use Rattle.std.specs.Prelude.{◌≡◌, ◌≢◌, ◌↔◌, ◌==◌, ◌<◌, ◌≤◌, ◌⊎◌, ℕ, zero, suc, true, List, length, max, Some, Result, IsErr, IsTrue, OnOk}
use Rattle.mg_base.specs.Asking.{AsksReads}
use Rattle.mg_base.specs.Disk.{FailsNoWrite, Meaning, Rose}
use Rattle.mg_base.specs.Geometry.{is_page_size}
use Rattle.mg_base.specs.Image.{Image, blank, page_at}
use Rattle.mg_base.specs.declared.geometry.TheConstants.{GREATEST_LIMIT}
use Rattle.mg_image.specs.Form.{Pages, packed_coding, packed_form}
use Rattle.mg_image.specs.NewDatabase.{IsNewPage}
use Rattle.mg_image.specs.Opening.{IsUnmade}
use Rattle.mg_pool.specs.Pool.{HasAtMost, KeepsContent}
use Rattle.mg_survey.specs.declared.survey.Survey.{Survey}

-- A disk has so many pages of this size, and has told both.
pub record HasPages {D : Type 0} (m : Meaning D) (disk : D) (size pages : ℕ) : Type 0 where
  pub sized : m.size disk ≡ Some size
  pub count : m.count disk ≡ Some pages

-- the page of a number is one on which a database may be made: it is zero, or, behind page 0, that of a new
-- database
abbrev pub IsUnmadeAt : ℕ → ℕ → List ℕ → Type 0
IsUnmadeAt size zero page = page ≡ blank size
IsUnmadeAt size (suc n) page = (page ≡ blank size) ⊎ IsNewPage packed_coding size (suc n) page

-- each page behind page 0 is
abbrev pub AreUnmadeBehind : ℕ → Pages → Type 0
AreUnmadeBehind size pages =
    (n : ℕ) → 1 ≤ n → n < GREATEST_LIMIT → IsUnmadeAt size n (pages n)

-- A disk was only asked, and read: it holds what it held, no page write was asked for, so none failed, and an
-- error comes only where its count of faults rose.
pub record OnlyAsks {D T E : Type 0} (m : Meaning D) (old new : D) (result : Result T E) : Type 0 where
  pub content : KeepsContent m old new
  pub cause : IsErr result → Rose (m.faults old) (m.faults new)
  pub steady : OnOk result (m.faults new ≡ m.faults old)
  pub none_failed : FailsNoWrite m old new

-- where page 0 is not zero, it alone was read, and once at most
abbrev pub ReadsHead : {D : Type 0} → Meaning D → D → D → ℕ → Type 0
ReadsHead m old new size = (image : Image) → m.held old ≡ Some image
    → page_at size image 0 ≢ blank size → AsksReads m old new 1 (λ n. n == 0)

-- What a disk has told of itself stays: its page size, whether it tells what a crash may leave, and how many page
-- writes pass in all.
pub record IsSameDisk {D : Type 0} (m : Meaning D) (old new : D) : Type 0 where
  pub size : (n : ℕ) → m.size old ≡ Some n → m.size new ≡ Some n
  pub tells : m.tells new ≡ m.tells old
  pub most_writes : m.most_writes new ≡ m.most_writes old

-- The pages of a disk from 1 up to one were read, a database may be made on each, and no call has failed.
pub record HasTested {D : Type 0} (m : Meaning D) (old now : D) (size pages n : ℕ) : Type 0 where
  pub has : HasPages m now size pages
  pub content : KeepsContent m old now
  pub steady : m.faults now ≡ m.faults old
  pub none_failed : FailsNoWrite m old now
  pub unmade : (image : Image) → m.held old ≡ Some image → (k : ℕ) → 1 ≤ k → k < n
      → IsUnmadeAt size k (page_at size image k)

-- how many pages a new database has
abbrev pub new_pages : ℕ
new_pages = 7

-- the page limit of an opening: the greatest of the one that is asked for, the disk's number of pages, and that of
-- a new database
abbrev pub limit_of : ℕ → ℕ → ℕ
limit_of limit pages = max (max limit pages) new_pages

-- A disk was asked: its page size is known, the page limit is that of its number of pages, which are no more, and a
-- database may be made on it or not.
pub record IsSurveyed {D : Type 0} (m : Meaning D) (old new : D) (limit : ℕ) (it : Survey) : Type 0 where
  pub sized : m.size new ≡ Some it.geometry.size
  pub lawful : is_page_size it.geometry.size ≡ true
  pub within : HasAtMost m new it.geometry.limit
  pub room : new_pages ≤ it.geometry.limit
  pub limit_is : (image : Image) → m.held old ≡ Some image
      → it.geometry.limit ≡ limit_of limit (length image)
  pub unmade_is : (image : Image) → m.held old ≡ Some image
      → (IsTrue it.unmade ↔ IsUnmade packed_form it.geometry.size (page_at it.geometry.size image))
