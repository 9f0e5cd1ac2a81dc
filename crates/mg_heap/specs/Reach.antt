-- The table that a data page belongs to, and the pointer pages by which it is reached.
use Rattle.std.specs.Prelude.{◌≡◌, ◌-◌, ◌≢◌, ◌<◌, ◌⊎◌, ◌++◌, ◌∷◌, ℕ, List, [], length}
use Rattle.mg_base.specs.Disk.{Meaning}
use Rattle.mg_base.specs.declared.damage.Damaged.{Damaged}
use Rattle.mg_base.specs.declared.damage.Field.TheVariants.{Owner}
use Rattle.mg_base.specs.declared.geometry.TheConstants.{GREATEST_LIMIT}
use Rattle.mg_base.specs.declared.numbers.PageNo.{PageNo}
use Rattle.mg_image.specs.Form.{Pages}
use Rattle.mg_image.specs.Tables.{Has}
use Rattle.mg_pointer.specs.PointerPage.{entries_of}
use Rattle.mg_pool.specs.declared.batch.BatchPage.{BatchPage}
use Rattle.mg_pool.specs.declared.pool.Pool.{Pool}
use Rattle.mg_space.specs.declared.fault.SpaceFault.{SpaceFault}
use Rattle.mg_space.specs.declared.fault.SpaceFault.TheVariants as faults
use Rattle.mg_heap.specs.Reading.{IsSomeData, RefusesData, owner_in}
use Rattle.mg_heap.specs.Table.{IsBrokenChain, IsPointerAt, IsTable, LeadsTo, link_damage}

-- a page may be the first pointer page of a table
pub record MayOwn (owner : ℕ) : Type 0 where
  pub some : owner ≢ 0
  pub below : owner < GREATEST_LIMIT

-- The owner of a data page: the first pointer page of its table, by what the page says itself.
pub record OwnsPage (n : PageNo) (b : List ℕ) (owner : ℕ) : Type 0 where
  pub data_page : IsSomeData n b
  pub is : owner ≡ owner_in b

-- a data page names an owner that no table has: found is the owner, wanted the greatest page number
abbrev pub owner_damage : PageNo → ℕ → Damaged
owner_damage n found =
    record { page = n; field = Owner; found = found; wanted = GREATEST_LIMIT - 1 }

-- a data page names an owner that no table has
pub record IsOwnerDamage (n : PageNo) (b : List ℕ) (damage : Damaged) : Type 0 where
  pub data_page : IsSomeData n b
  pub none : MayOwn (owner_in b) → ⊥
  pub is : damage ≡ owner_damage n (owner_in b)

-- why the owner of a page with these bytes is not told, but for faults of the cache
abbrev pub RefusesOwner : {D L : Type 0} → Meaning D → Pool D L → List BatchPage → PageNo → List ℕ
    → SpaceFault → Type 0
RefusesOwner m store pages n b (faults.Full limit) = ⊥
RefusesOwner m store pages n b (faults.Damaged damage) =
    RefusesData m store pages n b (faults.Damaged damage) ⊎ IsOwnerDamage n b damage
RefusesOwner m store pages n b (faults.Pool fault) = Unit {0}

-- A page is reached by pointer pages of a table: its chain leads over these to the last of them, and
-- that has the page as an entry.
pub record IsReached (pages : Pages) (owner n : ℕ) (pointers : List ℕ) : Type 0 where
  pub before : List ℕ
  pub last : ℕ
  pub are : pointers ≡ before ++ last ∷ []
  pub leads : LeadsTo pages owner before last
  pub some : last ≢ 0
  pub tested : IsPointerAt pages owner (length before) last
  pub entered : Has (entries_of (pages last)) n

-- A page is none of a table's data pages.
pub record IsUnlisted (pages : Pages) (owner n : ℕ) : Type 0 where
  pub pointers : List ℕ
  pub data_pages : List ℕ
  pub table : IsTable pages owner pointers data_pages
  pub not_there : Has data_pages n → ⊥

-- why the pointer pages by which a page is reached are not found, but for faults of the cache: the
-- table's chain is broken, or the page is none of its data pages
abbrev pub RefusesReach : {D L : Type 0} → Meaning D → Pool D L → List BatchPage → Pages → ℕ → PageNo
    → SpaceFault → Type 0
RefusesReach m store batch pages owner n (faults.Full limit) = ⊥
RefusesReach m store batch pages owner n (faults.Damaged damage) =
    IsBrokenChain m store batch pages owner (faults.Damaged damage)
    ⊎ (IsUnlisted pages owner n.0 × (damage ≡ link_damage n n.0 0))
RefusesReach m store batch pages owner n (faults.Pool fault) = Unit {0}
