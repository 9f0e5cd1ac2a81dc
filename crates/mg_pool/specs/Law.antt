-- The careful-write law, as the cache keeps it from a change on.
use Rattle.std.specs.Prelude.{◌≡◌, ℕ, ◌<◌, ◌≤◌, Bool, true, ◌||◌, List, [], length, Some}
use Rattle.mg_base.specs.Image.{Image, page_at}
use Rattle.mg_base.specs.Disk.{Meaning}
use Rattle.mg_careful.specs.declared.graph.Order.{Order}
use Rattle.mg_careful.specs.declared.links.Demand.{Demand}
use Rattle.mg_careful.specs.CarefulWrite.{PageSet, Demands, Meets, DemandSet, KeepsDemands, BearsDemands}
use Rattle.mg_careful.specs.CarefulWrite.{IsClosed, overlay, three_parts, IsSafeOverlay}
use Rattle.mg_careful.specs.CarefulSteps.{Contents, BatchBears, laid_demands}
use Rattle.mg_pool.specs.declared.pool.Pool.{Pool}
use Rattle.mg_pool.specs.declared.batch.BatchPage.{BatchPage}
use Rattle.mg_pool.specs.Batch.{dirty_with}
use Rattle.mg_pool.specs.Dirty.{is_dirty}
use Rattle.mg_pool.specs.Change.{Changes, ChangesPages, IsOpen}
use Rattle.mg_pool.specs.Pool.{cache_of, taken_out, IsPool, KeepsContent, LeavesOverlays}
use Rattle.mg_pool.specs.Run.{HasWritten}

-- a set, and the pages that were written since
abbrev pub since : {D L : Type 0} → Pool D L → Pool D L → PageSet → PageSet
since changed now set_ page = taken_out changed.dirty now.dirty page || set_ page

-- The overlay of a set now is that of the set with the pages written since, over the cache as it
-- was at the change, and there it is safe.
pub record IsSafeSince {D L : Type 0} (demands : Demands) (meets : Meets) (changed now : Pool D L)
    (i j : Image) (of_disk of_pool : DemandSet) (set_ : PageSet) : Type 0 where
  pub safe : IsSafeOverlay demands meets (cache_of changed.dirty changed.graph i)
      (since changed now set_) of_disk of_pool
  pub same : (page : ℕ) → overlay (cache_of now.dirty now.graph j) set_ page
      ≡ overlay (cache_of changed.dirty changed.graph i) (since changed now set_) page

-- The law: where a writer bears the demands at a change, the overlay of every set that is closed
-- then or after any later page writes is safe.
abbrev pub LeavesSafe : (D L : Type 0) → Meaning D → Demands → Meets → Type 0
LeavesSafe D L m demands meets = (changed now : Pool D L) (i j : Image)
    → IsPool m changed → HasWritten m changed now → m.tells changed.disk ≡ true
    → m.held changed.disk ≡ Some i → m.held now.disk ≡ Some j
    → (of_disk of_pool : DemandSet)
    → BearsDemands demands meets (cache_of changed.dirty changed.graph i) of_disk of_pool
    → (set_ : PageSet) → IsClosed (cache_of now.dirty now.graph j) set_
    → IsSafeSince demands meets changed now i j of_disk of_pool set_

-- The law of page writes: where a writer bears the demands, he bears them after any page writes. The
-- disk then keeps the set of three parts, by the pages that were written.
abbrev pub WritesStayCareful : (D L : Type 0) → Meaning D → Demands → Meets → Type 0
WritesStayCareful D L m demands meets = (old new : Pool D L) (i j : Image)
    → IsPool m old → HasWritten m old new → m.tells old.disk ≡ true
    → m.held old.disk ≡ Some i → m.held new.disk ≡ Some j
    → (of_disk of_pool : DemandSet)
    → BearsDemands demands meets (cache_of old.dirty old.graph i) of_disk of_pool
    → BearsDemands demands meets (cache_of new.dirty new.graph j)
    (three_parts (cache_of old.dirty old.graph i) (taken_out old.dirty new.dirty) of_disk of_pool)
    of_pool

-- The law of a batch: where a writer bears the demands, he bears them after the change of a batch, if
-- the batch bears its own. The page writes of the change are counted in.
abbrev pub ChangesStayCareful : (D L : Type 0) → Meaning D → Demands → Meets → Type 0
ChangesStayCareful D L m demands meets = (old new : Pool D L) (i j : Image) (gone : PageSet)
    (batch : Contents) (orders : List Order)
    → IsPool m old
    → ChangesPages old.dirty new.dirty old.graph new.graph i j gone batch orders
    → (of_disk of_pool stated : DemandSet) (dropped : Demand → Bool)
    → BearsDemands demands meets (cache_of old.dirty old.graph i) of_disk of_pool
    → BatchBears demands meets (cache_of old.dirty old.graph i) (cache_of new.dirty new.graph j) batch
    dropped
    (three_parts (cache_of old.dirty old.graph i) gone of_disk of_pool) of_pool stated
    → BearsDemands demands meets (cache_of new.dirty new.graph j)
    (three_parts (cache_of old.dirty old.graph i) gone of_disk of_pool)
    (laid_demands batch dropped of_pool stated)

-- where no page is dirty, a writer bears the demands of every set that the disk's image keeps
abbrev pub StartsCareful : (D L : Type 0) → Demands → Meets → Type 0
StartsCareful D L demands meets = (pool : Pool D L) (image : Image) (kept : DemandSet)
    → pool.dirty.pages ≡ [] → KeepsDemands demands meets (page_at pool.dirty.size image) kept
    → BearsDemands demands meets (cache_of pool.dirty pool.graph image) kept kept

-- A change writes pages for a cause alone: where its orders close no cycle with the pool's, and its
-- pages fit, no page is written out before they are put, and no page write is asked for.
abbrev pub WritesForCause : (D L : Type 0) → Meaning D → Type 0
WritesForCause D L m = (old new : Pool D L) (pages : List BatchPage) (orders : List Order)
    → IsPool m old → (changes : Changes m old new pages orders)
    → ((k : ℕ) → k < length orders → IsOpen old.graph orders k)
    → dirty_with old.dirty pages ≤ 512
    → ((page : ℕ) → is_dirty changes.ready.dirty page ≡ is_dirty old.dirty page)
    × (m.asked new.disk ≤ m.asked old.disk)

-- a call that writes no page leaves crashes no more than any call may
abbrev pub QuietLeaves : (D L : Type 0) → Meaning D → Type 0
QuietLeaves D L m =
    (old new : Pool D L) → KeepsContent m old.disk new.disk → LeavesOverlays m old new

-- page writes one after another are one run of them
abbrev pub JoinsRuns : (D L : Type 0) → Meaning D → Type 0
JoinsRuns D L m = (a b c : Pool D L) → HasWritten m a b → HasWritten m b c → HasWritten m a c
