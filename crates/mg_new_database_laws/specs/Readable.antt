-- Pages that an opening reads without finding damage.
use Rattle.std.specs.Prelude.{◌≡◌, ◌<◌, ◌≤◌, ℕ, true, List, [], ◌∷◌}
use Rattle.mg_base.specs.Checks.{PassesAll}
use Rattle.mg_base.specs.Geometry.{is_page_size}
use Rattle.mg_base.specs.Image.{Image, page_at}
use Rattle.mg_base.specs.declared.geometry.TheConstants.{GREATEST_LIMIT}
use Rattle.mg_format.specs.Format.{IsMade}
use Rattle.mg_header.specs.HeaderPage.{database_checks, page_checks}
use Rattle.mg_image.specs.Form.{Pages}
use Rattle.mg_image.specs.Inventory.{header_of, is_used, last_sequence, tip_page}
use Rattle.mg_image.specs.Sound.{HasInventory, HasTransactions}
use Rattle.mg_pointer.specs.PointerPage.{entries_of, next_in, pointer_checks}
use Rattle.mg_tip.specs.TipPage.{tip_checks}

-- The header passes its tests, and so does each transaction inventory page; the catalog begins on a page that may be
-- part of a database.
pub record AreReadable (size : ℕ) (pages : Pages) : Type 0 where
  pub database : PassesAll (database_checks (pages 0) size)
  pub fields : PassesAll (page_checks (pages 0))
  pub tips : (sequence : ℕ) → sequence ≤ last_sequence size pages
      → PassesAll (tip_checks (pages (tip_page size pages sequence)) (tip_page size pages sequence) sequence)
  pub catalog : (header_of pages).catalog.0 < GREATEST_LIMIT

-- those of a new database are, whatever its page size
abbrev pub NewAreReadable : Type 0
NewAreReadable = (size : ℕ) (image : Image) → is_page_size size ≡ true → IsMade size image
    → AreReadable size (page_at size image)

-- the seven pages of a new database are marked as used
abbrev pub NewAreUsed : Type 0
NewAreUsed = (size : ℕ) (image : Image) (n : ℕ) → is_page_size size ≡ true → IsMade size image → n < 7
    → is_used size (page_at size image) n ≡ true

-- its inventory has the page of the first region, and of no other
abbrev pub NewHaveInventory : Type 0
NewHaveInventory = (size : ℕ) (image : Image) → is_page_size size ≡ true → IsMade size image
    → HasInventory size (page_at size image)

-- and no transaction of it has become anything but the system's
abbrev pub NewAreUndrawn : Type 0
NewAreUndrawn = (size : ℕ) (image : Image) → is_page_size size ≡ true → IsMade size image
    → HasTransactions size (page_at size image)

-- A pointer page of a table that begins there has one entry, and no page follows it.
pub record PointsTo (b : List ℕ) (page entry : ℕ) : Type 0 where
  pub fields : PassesAll (pointer_checks b page page 0)
  pub entries : entries_of b ≡ entry ∷ []
  pub last : next_in b ≡ 0

-- its two tables, the catalog and KV, have one data page each
abbrev pub NewHavePointers : Type 0
NewHavePointers = (size : ℕ) (image : Image) → is_page_size size ≡ true → IsMade size image
    → PointsTo (page_at size image 3) 3 4 × PointsTo (page_at size image 5) 5 6
