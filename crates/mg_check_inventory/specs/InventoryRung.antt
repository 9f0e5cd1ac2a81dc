-- What is found in the page inventory of an image.
use Rattle.std.specs.Prelude.{◌≢◌, ◌↔◌, ◌<◌, ℕ, List, ◌++◌}
use Rattle.mg_base.specs.Checks.{Check, verdict}
use Rattle.mg_base.specs.Image.{blank}
use Rattle.mg_base.specs.declared.geometry.TheConstants.{GREATEST_LIMIT}
use Rattle.mg_findings.specs.declared.finding.Finding.{Finding}
use Rattle.mg_findings.specs.Findings.{HasNone, Tells}
use Rattle.mg_image.specs.Form.{Pages}
use Rattle.mg_image.specs.Inventory.{inventory_page}
use Rattle.mg_image.specs.Sound.{HasInventory}
use Rattle.mg_pip.specs.PipPage.{pip_checks}
use Rattle.mg_check_inventory.specs.ImagePages.{bit_checks, numbered}

-- the tests of the page inventory page of a region, under its number: its fields, then its own bit
abbrev pub region_checks : ℕ → Pages → ℕ → ℕ → List Check
region_checks size pages n region =
    pip_checks (pages n) n region ++ bit_checks size pages n

-- Where the page inventory page of a region is not blank, the first of its tests that differs is
-- found. A blank one marks nothing as used, and an absent one is blank.
pub record IsRegionFinding (size : ℕ) (pages : Pages) (region : ℕ) (f : Finding) : Type 0 where
  pub within : inventory_page size region < GREATEST_LIMIT
  pub filled : pages (inventory_page size region) ≢ blank size
  pub told : Tells (verdict (numbered (inventory_page size region))
      (region_checks size pages (inventory_page size region) region)) f

-- such a thing is found of one of the regions below a number
abbrev pub IsFoundBelow : ℕ → Pages → ℕ → Finding → Type 0
IsFoundBelow size pages count f =
    (region : ℕ) × (region < count) × IsRegionFinding size pages region f

-- what is found in the page inventory of an image: of each region one thing at most
abbrev pub IsInventoryFinding : ℕ → Pages → Finding → Type 0
IsInventoryFinding size pages f = (region : ℕ) × IsRegionFinding size pages region f

-- nothing is found exactly where each page inventory page is as a sound image asks it
abbrev pub InventoryLaw : Type 0
InventoryLaw = (size : ℕ) (pages : Pages)
    → HasNone (IsInventoryFinding size pages) ↔ HasInventory size pages
