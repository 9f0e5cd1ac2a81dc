-- Which page is taken, and what the taking changes.
use Rattle.std.specs.Prelude.{◌≡◌, ◌≢◌, ◌<◌, ◌≤◌, ◌⊎◌, ◌*◌, ◌/◌, ◌%◌, ◌==◌, ◌&&◌, ◌||◌, min, ℕ, Bool, true, false, List, length, take, Option, Some, None, Err}
use Rattle.mg_base.specs.Checks.{PassesAll, verdict}
use Rattle.mg_base.specs.Geometry.{is_page_size}
use Rattle.mg_base.specs.Image.{blank}
use Rattle.mg_base.specs.declared.damage.Damaged.{Damaged}
use Rattle.mg_base.specs.declared.geometry.Geometry.{Geometry}
use Rattle.mg_base.specs.declared.geometry.TheConstants.{GREATEST_LIMIT}
use Rattle.mg_base.specs.declared.numbers.PageNo.{PageNo}
use Rattle.mg_image.specs.Form.{Pages}
use Rattle.mg_image.specs.Inventory.{inventory_page, is_used}
use Rattle.mg_pip.specs.PipPage.{IsFirstFree, SetsUsed, bits, pip_checks, used_in}
use Rattle.mg_pip.specs.declared.page.TheConstants.{BITS_AT}
use Rattle.mg_pool.specs.Batch.{Changed, PutsPage}
use Rattle.mg_space.specs.declared.fault.SpaceFault.{SpaceFault}
use Rattle.mg_space.specs.declared.fault.SpaceFault.TheVariants as faults

-- a page size is one of the five
pub record IsGeometry (g : Geometry) : Type 0 where
  pub size : is_page_size g.size ≡ true

-- Below this number pages are taken: below the page limit of the file, and of the pages that a database
-- may have. A file that has more pages keeps them.
abbrev pub taking_limit : Geometry → ℕ
taking_limit g = min g.limit GREATEST_LIMIT

-- the region that a page belongs to
abbrev pub region_of : ℕ → ℕ → ℕ
region_of size n = n / bits size

-- A page is free: it lies below the limit, and so does the inventory page of its region; it is
-- neither the header page nor an inventory page; and it is not marked as used.
pub record IsFree (g : Geometry) (pages : Pages) (n : ℕ) : Type 0 where
  pub below : n < taking_limit g
  pub region : inventory_page g.size (region_of g.size n) < taking_limit g
  pub no_header : n ≢ 0
  pub no_inventory : (region : ℕ) → inventory_page g.size region ≢ n
  pub unused : is_used g.size pages n ≡ false

-- whether a bit of a region's inventory page is that of a page that is never handed out: the
-- inventory page itself, and in the first region the header page
abbrev pub is_fixed : ℕ → ℕ → Bool
is_fixed region bit = bit == 1 || (bit == 0 && region == 0)

-- an inventory page is lawful, or it is blank: then none of its pages is used
abbrev pub IsLawfulRegion : ℕ → ℕ → List ℕ → Type 0
IsLawfulRegion at region page =
    (page ≡ blank (length page)) ⊎ PassesAll (pip_checks page at region)

-- the pages of a region that are never handed out are marked as used
abbrev pub IsMarked : ℕ → List ℕ → Type 0
IsMarked region page = (bit : ℕ) → is_fixed region bit ≡ true → used_in page bit ≡ true

-- An inventory page is lawful, or was blank and has been made. It marks the pages that it marked.
pub record IsReady (at region : ℕ) (old new : List ℕ) : Type 0 where
  pub was : IsLawfulRegion at region old
  pub len : length new ≡ length old
  pub tests : PassesAll (pip_checks new at region)
  pub same : (bit : ℕ) → used_in new bit ≡ used_in old bit

-- the bits of the pages are set that are never handed out, and no other
pub record SetsFixed (region : ℕ) (old new : List ℕ) : Type 0 where
  pub len : length new ≡ length old
  pub front : take BITS_AT new ≡ take BITS_AT old
  pub bits_are : (bit : ℕ) → used_in new bit ≡ (used_in old bit || is_fixed region bit)

-- the least clear bit below a bound has been set
pub record TakesBit (below : ℕ) (old new : List ℕ) (bit : ℕ) : Type 0 where
  pub first : IsFirstFree old below bit
  pub sets : SetsUsed old new bit true

-- The pages of a region that are never handed out are marked as used, and no other page comes to be;
-- where the inventory page was blank it has been made.
pub record MarksFixed (at region : ℕ) (old new : List ℕ) : Type 0 where
  pub was : IsLawfulRegion at region old
  pub len : length new ≡ length old
  pub tests : PassesAll (pip_checks new at region)
  pub bits_are : (bit : ℕ) → used_in new bit ≡ (used_in old bit || is_fixed region bit)

-- A page has been taken: the least free one. Of all pages the inventory page of its region alone has
-- changed; it is lawful, and marks the page as used, those that it had before, and those that are
-- never handed out.
pub record TakesPage (g : Geometry) (old new : Pages) (n : ℕ) : Type 0 where
  pub free : IsFree g old n
  pub least : (m : ℕ) → m < n → IsFree g old m → ⊥
  pub others : (m : ℕ) → m ≢ inventory_page g.size (region_of g.size n) → new m ≡ old m
  pub was : IsLawfulRegion (inventory_page g.size (region_of g.size n)) (region_of g.size n)
      (old (inventory_page g.size (region_of g.size n)))
  pub len : length (new (inventory_page g.size (region_of g.size n))) ≡ g.size
  pub tests : PassesAll (pip_checks (new (inventory_page g.size (region_of g.size n)))
      (inventory_page g.size (region_of g.size n)) (region_of g.size n))
  pub bits_are : (bit : ℕ)
      → used_in (new (inventory_page g.size (region_of g.size n))) bit
      ≡ (used_in (old (inventory_page g.size (region_of g.size n))) bit
      || (bit == n % bits g.size || is_fixed (region_of g.size n) bit))

-- An inventory page is neither blank nor what is wanted of it.
pub record IsRegionDamage (at : PageNo) (region : ℕ) (page : List ℕ) (damage : Damaged)
    : Type 0 where
  pub stands : page ≢ blank (length page)
  pub differs : verdict at (pip_checks page at.0 region) ≡ Err damage

-- no page is free
abbrev pub IsFull : Geometry → Pages → Type 0
IsFull g pages = (n : ℕ) → IsFree g pages n → ⊥

-- A region has its inventory page below the limit, which is damaged, and no page before it is free.
pub record IsFirstDamage (g : Geometry) (pages : Pages) (damage : Damaged) : Type 0 where
  pub region : ℕ
  pub below : inventory_page g.size region < taking_limit g
  pub none_before : (n : ℕ) → n < region * bits g.size → IsFree g pages n → ⊥
  pub damaged : IsRegionDamage (record { 0 = inventory_page g.size region }) region
      (pages (inventory_page g.size region)) damage

-- why no page is taken, but for faults of the cache
abbrev pub RefusesTake : Geometry → Pages → SpaceFault → Type 0
RefusesTake g pages (faults.Full limit) = (limit ≡ g.limit) × IsFull g pages
RefusesTake g pages (faults.Damaged damage) = IsFirstDamage g pages damage
RefusesTake g pages (faults.Pool fault) = Unit {0}

-- why no page of a region is looked for
abbrev pub RefusesRegion : Geometry → ℕ → Pages → SpaceFault → Type 0
RefusesRegion g region pages (faults.Full limit) = ⊥
RefusesRegion g region pages (faults.Damaged damage) =
    IsRegionDamage (record { 0 = inventory_page g.size region }) region
    (pages (inventory_page g.size region)) damage
RefusesRegion g region pages (faults.Pool fault) = Unit {0}

-- The batch has one inventory page more, or another content of it: that of a page which lies below
-- the limit and is neither the header page nor an inventory page.
pub record PutsInventory (g : Geometry) (old new : Changed) (n : ℕ) : Type 0 where
  pub below : n < taking_limit g
  pub region : inventory_page g.size (region_of g.size n) < taking_limit g
  pub no_header : n ≢ 0
  pub no_inventory : (region : ℕ) → inventory_page g.size region ≢ n
  pub bytes : List ℕ
  pub len : length bytes ≡ g.size
  pub puts : PutsPage old new (inventory_page g.size (region_of g.size n)) bytes

-- in a region the least free page has been taken, or it has none
abbrev pub TakesInRegion : Geometry → ℕ → Pages → Pages → Option PageNo → Type 0
TakesInRegion g region old new None = (n : ℕ) → region_of g.size n ≡ region → IsFree g old n → ⊥
TakesInRegion g region old new (Some page) = (region_of g.size page.0 ≡ region)
    × (((m : ℕ) → m < region * bits g.size → IsFree g old m → ⊥) → TakesPage g old new page.0)
