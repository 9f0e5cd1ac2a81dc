-- The inventory pages of a sound image are lawful, or blank.
use Rattle.std.proofs.Common.{◌≡◌, ◌∙◌, inl, inr, ℕ, length, sym, ap, arith}
use Rattle.mg_base.specs.Image.{blank}
use Rattle.mg_base.specs.declared.geometry.Geometry.{Geometry}
use Rattle.mg_image.specs.Form.{Pages}
use Rattle.mg_image.specs.Inventory.{inventory_page}
use Rattle.mg_image.specs.Sound.{HasInventory, HasRegion}
use Rattle.mg_space.specs.FreePages.{HasRegions}
use Rattle.mg_space.specs.Taking.{IsGeometry, IsLawfulRegion}

-- in a sound image each inventory page below the limit is lawful, or blank
abbrev pub SoundRegionsAreLawful : Type 0
SoundRegionsAreLawful = (g : Geometry) (pages : Pages) → IsGeometry g
    → ((n : ℕ) → length (pages n) ≡ g.size) → HasInventory g.size pages → HasRegions g pages

-- a region that an image has is lawful, where its page is whole
pub lawful_region : (size : ℕ) (pages : Pages) (at region : ℕ) → length (pages at) ≡ size
    → HasRegion size pages at region → IsLawfulRegion at region (pages at)
lawful_region size pages at region whole (inl empty) = inl (empty ∙ ap blank (sym whole))
lawful_region size pages at region whole (inr wanted) = inr wanted.fields

pub sound_regions : SoundRegionsAreLawful
sound_regions g pages lawful whole has region below =
    lawful_region g.size pages (inventory_page g.size region) region (whole (inventory_page g.size region))
    (has region (omega (arith, below)))
