-- The tables of a layout are those that are walked.
use Rattle.std.specs.Prelude.{◌⊎◌, Bool, ℕ, List, [], Option, None, Some}
use Rattle.mg_base.specs.Disk.{Meaning}
use Rattle.mg_base.specs.Image.{Image}
use Rattle.mg_base.specs.declared.damage.Damaged.{Damaged}
use Rattle.mg_base.specs.declared.numbers.RecId.{RecId}
use Rattle.mg_image.specs.Form.{Pages}
use Rattle.mg_image.specs.Sound.{HasTablePages}
use Rattle.mg_image.specs.Tables.{Has, Stand}
use Rattle.mg_pool.specs.Pool.{shown}
use Rattle.mg_pool.specs.declared.batch.BatchPage.{BatchPage}
use Rattle.mg_pool.specs.declared.pool.Pool.{Pool}
use Rattle.mg_space.specs.View.{Tells}
use Rattle.mg_space.specs.declared.fault.SpaceFault.{SpaceFault}
use Rattle.mg_space.specs.declared.fault.SpaceFault.TheVariants as faults
use Rattle.mg_space.specs.declared.links.FireLinks.{FireLinks}
use Rattle.mg_heap.specs.Table.{IsTable}
use Rattle.mg_heap.specs.Walk.{RefusesNext, RefusesWalk}

-- where a table stands in a layout, its pointer pages and its data pages are those of the table that
-- begins with its first pointer page
abbrev pub TablesAreWalked : Type 0
TablesAreWalked = (in_primary : Bool) (size : ℕ) (pages : Pages) (stand : Stand)
    → HasTablePages in_primary size pages stand
    → IsTable pages stand.table.pointer.0 stand.pointers stand.data_pages

-- where a walk may go on: at the start, or behind a slot of one of these data pages
abbrev pub StandsIn : List ℕ → Option RecId → Type 0
StandsIn data_pages None = Unit {0}
StandsIn data_pages (Some x) = Has data_pages x.page.0

-- why a table is not walked, from a record to the next one or over all of its pages
abbrev pub RefusesWalking : {D L : Type 0} → Meaning D → Pool D L → List BatchPage → Pages → ℕ
    → Option RecId → SpaceFault → Type 0
RefusesWalking m store batch pages owner after fault =
    RefusesNext m store batch pages owner after fault ⊎ RefusesWalk m store batch pages owner fault

-- no damage is met on the walk of a table that stands in a layout
abbrev pub WalksMeetNoDamage : {D : Type 0} → Meaning D → Type 0
WalksMeetNoDamage {D} m = (store : Pool D FireLinks) (image : Image) (in_primary : Bool) (size : ℕ)
    (stand : Stand) (after : Option RecId) (damage : Damaged) → Tells m store.disk image
    → HasTablePages in_primary size (shown store.dirty image) stand
    → StandsIn stand.data_pages after
    → RefusesWalking m store [] (shown store.dirty image) stand.table.pointer.0 after
    (faults.Damaged damage) → ⊥
