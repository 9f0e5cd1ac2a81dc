-- The pages of one table that stands are read, by one who fills a batch.
use Rattle.std.specs.Prelude.{◌++◌, ◌∷◌, [], ℕ, List, false, length}
use Rattle.mg_base.specs.Disk.{Meaning}
use Rattle.mg_base.specs.Image.{Image}
use Rattle.mg_base.specs.declared.damage.Damaged.{Damaged}
use Rattle.mg_base.specs.declared.numbers.PageNo.{PageNo}
use Rattle.mg_heap.specs.Reach.{RefusesReach}
use Rattle.mg_heap.specs.Reading.{RefusesData}
use Rattle.mg_heap.specs.Table.{IsTable, RefusesPointerPage}
use Rattle.mg_heap.specs.Walk.{RefusesWalk}
use Rattle.mg_image.specs.Sound.{HasTablePages}
use Rattle.mg_image.specs.Tables.{Has, Stand}
use Rattle.mg_pool.specs.Batch.{Changed}
use Rattle.mg_pool.specs.declared.pool.Pool.{Pool}
use Rattle.mg_space.specs.View.{Tells, viewed}
use Rattle.mg_space.specs.declared.fault.SpaceFault.TheVariants as faults
use Rattle.mg_space.specs.declared.links.FireLinks.{FireLinks}

-- One who fills a batch over a cache sees a table stand, its pages as soundness wants them.
pub record SeesStand {D : Type 0} (m : Meaning D) (store : Pool D FireLinks) (image : Image)
    (batch : Changed) (size : ℕ) (stand : Stand) : Type 0 where
  pub tells : Tells m store.disk image
  pub has : HasTablePages false size (viewed store image batch) stand

-- each of its data pages is read
abbrev pub StandsAreThere : {D : Type 0} → Meaning D → Type 0
StandsAreThere {D} m = (store : Pool D FireLinks) (image : Image) (batch : Changed) (size : ℕ)
    (stand : Stand) → SeesStand m store image batch size stand → (n : PageNo) → Has stand.data_pages n.0
    → (it : Damaged)
    → RefusesData m store batch.pages n (viewed store image batch n.0) (faults.Damaged it) → ⊥

-- all of them are walked
abbrev pub StandsAreWalked : {D : Type 0} → Meaning D → Type 0
StandsAreWalked {D} m = (store : Pool D FireLinks) (image : Image) (batch : Changed) (size : ℕ)
    (stand : Stand) → SeesStand m store image batch size stand → (it : Damaged)
    → RefusesWalk m store batch.pages (viewed store image batch) stand.table.pointer.0 (faults.Damaged it)
    → ⊥

-- each of them is reached
abbrev pub StandsAreReached : {D : Type 0} → Meaning D → Type 0
StandsAreReached {D} m = (store : Pool D FireLinks) (image : Image) (batch : Changed) (size : ℕ)
    (stand : Stand) → SeesStand m store image batch size stand → (n : PageNo) → Has stand.data_pages n.0
    → (it : Damaged)
    → RefusesReach m store batch.pages (viewed store image batch) stand.table.pointer.0 n (faults.Damaged it)
    → ⊥

-- and its last pointer page is read
abbrev pub LastsAreThere : {D : Type 0} → Meaning D → Type 0
LastsAreThere {D} m = (store : Pool D FireLinks) (image : Image) (batch : Changed) (size : ℕ)
    (stand : Stand) → SeesStand m store image batch size stand → (front data_pages : List ℕ) (q : PageNo)
    → IsTable (viewed store image batch) stand.table.pointer.0 (front ++ q.0 ∷ []) data_pages
    → (it : Damaged)
    → RefusesPointerPage m store batch.pages (viewed store image batch q.0) stand.table.pointer.0
    (length front) q (faults.Damaged it) → ⊥
