-- What the page cache gives to the laws of overlays. The file `Ties` proves it.
use Rattle.std.proofs.Common.{◌≡◌, ℕ, true, false, List, Option, Some, ◌&&◌}
use Rattle.mg_base.specs.Disk.{Meaning}
use Rattle.mg_base.specs.Image.{Image}
use Rattle.mg_careful.specs.CarefulWrite.{PageSet}
use Rattle.mg_careful.specs.Graph.{PageGraph}
use Rattle.mg_careful.specs.declared.graph.Order.{Order}
use Rattle.mg_overlay_laws.specs.Overlays.{ChangesCache, KeepsNeeds, NeedsAllDirty, NeedsOrGone, WritesPages}
use Rattle.mg_pool.specs.Batch.{lists}
use Rattle.mg_pool.specs.Change.{ChangesPages}
use Rattle.mg_pool.specs.Dirty.{DirtyPages, is_dirty, is_marked}
use Rattle.mg_pool.specs.Pool.{cache_of, taken_out}
use Rattle.mg_pool.specs.Run.{HasWritten}
use Rattle.mg_pool.specs.declared.pool.Pool.{Pool}
use Rattle.mg_pool_overlay_laws.specs.Needs.{Asked, Sessions, needs_by}

-- a run of page writes is one of the family: of the pages that are dirty no longer
abbrev pub RunsAre : (D L : Type 0) → Meaning D → Type 0
RunsAre D L m = (old new : Pool D L) (i j : Image) → HasWritten m old new
    → m.tells old.disk ≡ true → m.held old.disk ≡ Some i → m.held new.disk ≡ Some j
    → WritesPages (cache_of old.dirty old.graph i) (cache_of new.dirty new.graph j)
    (taken_out old.dirty new.dirty)

-- a change of a batch is one of the family
abbrev pub ChangesAre : (D L : Type 0) → Type 0
ChangesAre D L = (old new : Pool D L) (i j : Image) (gone : PageSet)
    (batch : ℕ → Option (List ℕ)) (orders : List Order)
    → ChangesPages old.dirty new.dirty old.graph new.graph i j gone batch orders
    → ChangesCache (cache_of old.dirty old.graph i) (cache_of new.dirty new.graph j) gone batch
    (lists orders)

-- over page writes what a transaction needed was written, or it needs it still
abbrev pub RunsKeepNeeds : (D L : Type 0) → Meaning D → Type 0
RunsKeepNeeds D L m = (old new : Pool D L) (asked : Asked) (session : Sessions) → HasWritten m old new
    → NeedsOrGone (taken_out old.dirty new.dirty) (needs_by asked session old.dirty)
    (needs_by asked session new.dirty)

-- and over a change
abbrev pub ChangesKeepNeeds : (D L : Type 0) → Type 0
ChangesKeepNeeds D L = (old new : Pool D L) (i j : Image) (gone : PageSet)
    (batch : ℕ → Option (List ℕ)) (orders : List Order) (asked : Asked) (session : Sessions)
    → ChangesPages old.dirty new.dirty old.graph new.graph i j gone batch orders
    → KeepsNeeds (cache_of old.dirty old.graph i) gone (needs_by asked session old.dirty)
    (needs_by asked session new.dirty)

-- one that has not asked for its commit needs every dirty page
abbrev pub NotAskedNeedsAll : Type 0
NotAskedNeedsAll = (dirty : DirtyPages) (graph : PageGraph) (image : Image) (asked : Asked)
    (session : Sessions) (t : ℕ) → asked t ≡ false
    → NeedsAllDirty (cache_of dirty graph image) (needs_by asked session dirty) t

-- and one that has asked needs none, where no dirty page is marked for its session
abbrev pub NoneMarkedNone : Type 0
NoneMarkedNone = (dirty : DirtyPages) (asked : Asked) (session : Sessions) (t : ℕ)
    → asked t ≡ true → ((page : ℕ) → (is_dirty dirty page && is_marked dirty page (session t)) ≡ false)
    → (page : ℕ) → needs_by asked session dirty t page ≡ false
