-- A page is taken from lawful inventory pages.
use Rattle.mg_base.specs.declared.damage.Damaged.{Damaged}
use Rattle.mg_base.specs.declared.geometry.Geometry.{Geometry}
use Rattle.mg_image.specs.Form.{Pages}
use Rattle.mg_space.specs.FreePages.{HasRegions}
use Rattle.mg_space.specs.Taking.{RefusesTake}
use Rattle.mg_space.specs.declared.fault.SpaceFault.TheVariants as faults

-- where each inventory page below the limit is lawful or blank, a page is taken, or there is none
abbrev pub PagesAreTaken : Type 0
PagesAreTaken = (g : Geometry) (pages : Pages) → HasRegions g pages → (it : Damaged)
    → RefusesTake g pages (faults.Damaged it) → ⊥
