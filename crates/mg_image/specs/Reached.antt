-- Which pages are reached, and when a reached page is as wanted.
use Rattle.std.specs.Prelude.{◌≡◌, ◌≢◌, ◌<◌, ◌+◌, ℕ, zero, suc, true, List, [], ◌∷◌, ◌++◌}
use Rattle.std.specs.List.{flat_map}
use Rattle.mg_base.specs.Checks.{Check, PassesAll}
use Rattle.mg_base.specs.Image.{blank}
use Rattle.mg_base.specs.declared.geometry.TheConstants.{GREATEST_LIMIT}
use Rattle.mg_image.specs.Form.{Pages}
use Rattle.mg_image.specs.Inventory.{inventory_page, is_used, last_sequence, tip_page}
use Rattle.mg_image.specs.Tables.{Has, Layout, pages_of, stands_of}

-- A reached page is part of the image and marked as used, and each field that a test of it looks at
-- is as wanted.
pub record IsAsWanted (size : ℕ) (pages : Pages) (n : ℕ) (checks : List Check) : Type 0 where
  pub below : n < GREATEST_LIMIT
  pub used : is_used size pages n ≡ true
  pub fields : PassesAll checks

-- the transaction inventory pages of the sequences below a number
abbrev pub tips_below : ℕ → Pages → ℕ → List ℕ
tips_below size pages zero = []
tips_below size pages (suc n) = tip_page size pages n ∷ tips_below size pages n

-- the transaction inventory pages
abbrev pub tips_of : ℕ → Pages → List ℕ
tips_of size pages = tips_below size pages (last_sequence size pages + 1)

-- the pages that links lead to: of the transaction inventory, of tables with their indexes, and of
-- sequences
abbrev pub linked_pages : ℕ → Pages → Layout → List ℕ
linked_pages size pages layout =
    tips_of size pages ++ flat_map pages_of (stands_of layout) ++ layout.sequences

-- the reached pages: the header, the page inventory pages that are not blank, and those that links
-- lead to
pub data IsReached (size : ℕ) (pages : Pages) (layout : Layout) : ℕ → Type 0 where
  header : IsReached size pages layout 0
  inventory : (region : ℕ) → inventory_page size region < GREATEST_LIMIT
      → pages (inventory_page size region) ≢ blank size
      → IsReached size pages layout (inventory_page size region)
  linked : (n : ℕ) → Has (linked_pages size pages layout) n → IsReached size pages layout n
