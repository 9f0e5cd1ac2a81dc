-- A new database is sound, and holds the table KV, empty.
use Rattle.std.specs.Prelude.{◌≡◌, ℕ, true, length, Some}
use Rattle.mg_base.specs.Geometry.{is_page_size}
use Rattle.mg_base.specs.Image.{Image, page_at}
use Rattle.mg_base.specs.MemDisk.{mem_meaning}
use Rattle.mg_base.specs.declared.mem_disk.MemDisk.{MemDisk}
use Rattle.mg_format.specs.Format.{IsMade}
use Rattle.mg_image.specs.Form.{packed_form}
use Rattle.mg_image.specs.Opening.{IsNew, IsOpened, Opened}
use Rattle.mg_image.specs.Sound.{IsSound}
use Rattle.mg_new_database_laws.specs.NewDatabase.{Bodies, new_layout, new_reading}

-- Each page of an image has the page size. (Of the pages past the greatest page limit nothing else says it: they are
-- neither read nor written.)
abbrev pub HasWholePages : ℕ → Image → Type 0
HasWholePages size image = (n : ℕ) → length (page_at size image n) ≡ size

-- An image is sound as a new database: where the catalog and KV stand, with the catalog's three records.
pub record IsNewSound (size : ℕ) (image : Image) : Type 0 where
  pub bodies : Bodies
  pub sound : IsSound packed_form size (page_at size image) new_layout (new_reading bodies)

-- a new database is sound, whatever its page size
abbrev pub NewAreSound : Type 0
NewAreSound = (size : ℕ) (image : Image) → is_page_size size ≡ true → IsMade size image → HasWholePages size image
    → IsNewSound size image

-- and opening it gives what opening a blank image gives
abbrev pub NewAreOpened : Type 0
NewAreOpened = (size : ℕ) (image : Image) → is_page_size size ≡ true → IsMade size image → HasWholePages size image
    → (opened : Opened) × IsOpened packed_form size (page_at size image) opened × IsNew opened

-- the pages of a disk in memory are whole
abbrev pub MemDisksAreWhole : Type 0
MemDisksAreWhole = (disk : MemDisk) (image : Image) → mem_meaning.held disk ≡ Some image
    → HasWholePages disk.size image
