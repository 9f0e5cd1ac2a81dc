-- How many pages are free, by lawful inventory pages.
use Rattle.std.specs.Prelude.{◌≡◌, ◌<◌, ℕ}
use Rattle.mg_base.specs.declared.geometry.Geometry.{Geometry}
use Rattle.mg_image.specs.Form.{Pages}
use Rattle.mg_image.specs.Inventory.{inventory_page}
use Rattle.mg_space.specs.Taking.{IsFree, IsGeometry, IsLawfulRegion, TakesPage, taking_limit}

-- each inventory page below the limit is lawful, or blank
abbrev pub HasRegions : Geometry → Pages → Type 0
HasRegions g pages = (region : ℕ) → inventory_page g.size region < taking_limit g
    → IsLawfulRegion (inventory_page g.size region) region (pages (inventory_page g.size region))

-- they are so still, where a page was taken
abbrev pub TakingKeepsRegions : Type 0
TakingKeepsRegions = (g : Geometry) (old new : Pages) (n : ℕ) → IsGeometry g → HasRegions g old
    → TakesPage g old new n → HasRegions g new

-- So many pages are free at least: to each number below the count belongs a free page, to no two the same.
pub record HasFree (g : Geometry) (pages : Pages) (count : ℕ) : Type 0 where
  pub page : ℕ → ℕ
  pub free : (i : ℕ) → i < count → IsFree g pages (page i)
  pub apart : (i j : ℕ) → i < count → j < count → page i ≡ page j → i ≡ j

-- By lawful inventory pages so many pages are free.
pub record TellsFree (g : Geometry) (pages : Pages) (count : ℕ) : Type 0 where
  pub regions : HasRegions g pages
  pub free : HasFree g pages count
