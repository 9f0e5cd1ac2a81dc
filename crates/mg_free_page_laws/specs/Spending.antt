-- What a call of the engine takes of the free pages that its cache shows.
use Rattle.std.specs.Prelude.{◌≡◌, ℕ, true, Some}
use Rattle.mg_base.specs.Disk.{MayLeave, Meaning}
use Rattle.mg_base.specs.Image.{Image}
use Rattle.mg_pool.specs.Pool.{shown}
use Rattle.mg_pool.specs.declared.pool.Pool.{Pool}
use Rattle.mg_space.specs.Taking.{IsGeometry}
use Rattle.mg_space.specs.View.{Tells}
use Rattle.mg_space.specs.declared.fault.SpaceFault.{SpaceFault}
use Rattle.mg_space.specs.declared.links.FireLinks.{FireLinks}
use Rattle.mg_free_page_laws.specs.FreePages.{IsNotFull, TakesAtMost}

module _ {D : Type 0} (m : Meaning D) where
  -- Over whatever images the disk tells before a call and after it, at most so many free pages are taken.
  pub record SpendsAtMost (before after : Pool D FireLinks) (most : ℕ) : Type 0 where
    pub tells : m.tells before.disk ≡ true → m.tells after.disk ≡ true
    pub geometry : after.geometry ≡ before.geometry
    pub takes : IsGeometry before.geometry → (i j : Image) → Tells m before.disk i → m.held after.disk ≡ Some j
        → TakesAtMost before.geometry (shown before.dirty i) (shown after.dirty j) most

  -- a call is refused for want of pages nowhere, where so many are free
  abbrev pub IsNotShort : Pool D FireLinks → ℕ → SpaceFault → Type 0
  IsNotShort before most fault = IsGeometry before.geometry → (i : Image) → Tells m before.disk i
      → IsNotFull before.geometry (shown before.dirty i) most fault

  -- a disk that tells holds an image
  abbrev pub ToldAreHeld : Type 0
  ToldAreHeld = (disk : D) → m.tells disk ≡ true → (image : Image) × (m.held disk ≡ Some image) × MayLeave m disk image
