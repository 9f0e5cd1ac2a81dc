-- How many of the free pages a change of pages takes.
use Rattle.std.specs.Prelude.{◌≡◌, ◌+◌, ℕ}
use Rattle.mg_base.specs.declared.geometry.Geometry.{Geometry}
use Rattle.mg_space.specs.FreePages.{HasFree}
use Rattle.mg_image.specs.Form.{Pages}
use Rattle.mg_space.specs.declared.fault.SpaceFault.{SpaceFault}
use Rattle.mg_space.specs.declared.fault.SpaceFault.TheVariants as faults
use Rattle.mg_space.specs.FreePages.{HasRegions}

-- Pages have changed: the inventory pages are lawful as before, and of the free pages at most so many are taken.
pub record TakesAtMost (g : Geometry) (old new : Pages) (most : ℕ) : Type 0 where
  pub regions : HasRegions g old → HasRegions g new
  pub left : HasRegions g old → (count : ℕ) → HasFree g old (count + most) → HasFree g new count

-- a fault is not that no page is free, where so many are
abbrev pub IsNotFull : Geometry → Pages → ℕ → SpaceFault → Type 0
IsNotFull g pages most fault =
    HasRegions g pages → HasFree g pages most → (limit : ℕ) → fault ≡ faults.Full limit → ⊥
