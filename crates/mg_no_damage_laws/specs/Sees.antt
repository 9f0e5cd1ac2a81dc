-- What it is to see lawful records, and that their pages are there.
use Rattle.std.specs.Prelude.{◌≡◌, ℕ, false, [], Some}
use Rattle.mg_base.specs.Disk.{Meaning}
use Rattle.mg_base.specs.Image.{Image}
use Rattle.mg_base.specs.declared.damage.Damaged.{Damaged}
use Rattle.mg_base.specs.declared.numbers.PageNo.{PageNo}
use Rattle.mg_heap.specs.Reading.{RefusesData}
use Rattle.mg_image.specs.Catalog.{IsSameTable}
use Rattle.mg_image.specs.Form.{Pages, packed_coding}
use Rattle.mg_image.specs.RecordRules.{AreRecords, Facts}
use Rattle.mg_image.specs.Records.{Reading, cells_of}
use Rattle.mg_image.specs.Sound.{HasTablePages}
use Rattle.mg_image.specs.Tables.{Has, Stand}
use Rattle.mg_model.specs.declared.table.Table.{Table}
use Rattle.mg_pool.specs.Batch.{Changed}
use Rattle.mg_pool.specs.declared.pool.Pool.{Pool}
use Rattle.mg_space.specs.View.{Tells, viewed}
use Rattle.mg_space.specs.declared.fault.SpaceFault.TheVariants as faults
use Rattle.mg_space.specs.declared.links.FireLinks.{FireLinks}

-- A page is one of the data pages of a table, whose pages are as soundness wants them.
pub record IsPageOf (size : ℕ) (pages : Pages) (n : ℕ) (table : Table) : Type 0 where
  pub stand : Stand
  pub has : HasTablePages false size pages stand
  pub table_is : stand.table ≡ table
  pub listed : Has stand.data_pages n

-- The records of pages are lawful by some facts, and each page that is a table's by these is one of its data
-- pages.
pub record AreLawful (size : ℕ) (pages : Pages) (f : Facts) (r : Reading) : Type 0 where
  pub records : AreRecords packed_coding f (cells_of pages) r
  pub data_pages : (n : ℕ) (table : Table) → f.table_of n ≡ Some table → IsPageOf size pages n table

-- a batch that has nothing: who fills it sees what the cache shows
abbrev pub no_batch : Changed
no_batch = record { pages = []; orders = [] }

-- One who fills a batch over a cache sees lawful records.
pub record SeesLawful {D : Type 0} (m : Meaning D) (store : Pool D FireLinks) (image : Image)
    (batch : Changed) (f : Facts) (r : Reading) : Type 0 where
  pub tells : Tells m store.disk image
  pub lawful : AreLawful store.geometry.size (viewed store image batch) f r

-- A table stands here on pages: these are as soundness wants them, and its data pages are its own by the facts.
pub record StandsOn (size : ℕ) (pages : Pages) (f : Facts) (stand : Stand) (table : Table) : Type 0 where
  pub has : HasTablePages false size pages stand
  pub same : IsSameTable stand.table table
  pub its : (n : ℕ) → Has stand.data_pages n → f.table_of n ≡ Some stand.table

-- a data page of a table is read by its number
abbrev pub PagesAreThere : {D : Type 0} → Meaning D → Type 0
PagesAreThere {D} m = (store : Pool D FireLinks) (image : Image) (batch : Changed) (f : Facts) (r : Reading)
    → SeesLawful m store image batch f r → (n : PageNo) (table : Table) → f.table_of n.0 ≡ Some table
    → (it : Damaged)
    → RefusesData m store batch.pages n (viewed store image batch n.0) (faults.Damaged it) → ⊥
