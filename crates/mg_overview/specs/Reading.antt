-- What the reading of a whole disk says.
use Rattle.std.specs.Prelude.{◌≡◌, ◌≤◌, ℕ, true, nat_lt, length, take, min, Some, Result, Ok, Err, unwrap_or}
use Rattle.mg_base.specs.Asking.{AsksReads}
use Rattle.mg_base.specs.Disk.{FailsNoWrite, Meaning, Rose, Stays}
use Rattle.mg_base.specs.Geometry.{is_page_size}
use Rattle.mg_base.specs.Image.{Image, page_at}
use Rattle.mg_base.specs.declared.geometry.TheConstants.{GREATEST_LIMIT}
use Rattle.mg_pool.specs.Pool.{KeepsContent}
use Rattle.mg_overview.specs.declared.reading.ReadFault.{ReadFault}
use Rattle.mg_overview.specs.declared.reading.ReadFault.TheVariants.{Disk, Memory}
use Rattle.mg_overview.specs.declared.reading.WholeImage.{WholeImage}

-- Disk comes exactly where the disk's count of faults rose
abbrev pub TellsReadFault : {D T : Type 0} → Meaning D → D → D → Result T ReadFault → Type 0
TellsReadFault m old new (Ok x) = m.faults new ≡ m.faults old
TellsReadFault m old new (Err Disk) = Rose (m.faults old) (m.faults new)
TellsReadFault m old new (Err Memory) = m.faults new ≡ m.faults old

-- each page is so long, also one past the end
abbrev pub AreLong : ℕ → Image → Type 0
AreLong size pages = (n : ℕ) → length (page_at size pages n) ≡ size

-- A disk has told its page size, and that it has so many pages or more.
pub record HasPages {D : Type 0} (m : Meaning D) (disk : D) (size count : ℕ) : Type 0 where
  pub sized : m.size disk ≡ Some size
  pub some : count ≤ unwrap_or (m.count disk) 0

-- What a disk has told of its size stays.
pub record KeepsTold {D : Type 0} (m : Meaning D) (old new : D) : Type 0 where
  pub sized : Stays (m.size old) (m.size new)
  pub counted : Stays (m.count old) (m.count new)

-- These are the pages that a disk has told to have: of its page size, which is a lawful one, and as many
-- as it has, but those from the greatest limit on.
pub record IsRead {D : Type 0} (m : Meaning D) (disk : D) (it : WholeImage) : Type 0 where
  pub sized : m.size disk ≡ Some it.size
  pub lawful : is_page_size it.size ≡ true
  pub long : AreLong it.size it.pages.items
  pub told : ℕ
  pub counted : m.count disk ≡ Some told
  pub count : length it.pages.items ≡ min told GREATEST_LIMIT

-- The pages of a disk below one were read, in their order, and no call has failed.
pub record HasReadBelow {D : Type 0} (m : Meaning D) (old now : D) (size count n : ℕ) (pages : Image)
    : Type 0 where
  pub has : HasPages m now size count
  pub told : KeepsTold m old now
  pub content : KeepsContent m old now
  pub steady : m.faults now ≡ m.faults old
  pub none_failed : FailsNoWrite m old now
  pub reads : AsksReads m old now n (λ k. nat_lt k count)
  pub len : length pages ≡ n
  pub long : AreLong size pages
  pub image : (image : Image) → m.held old ≡ Some image → pages ≡ take n image
