-- Batches of the program and page writes, in any sequence: the steps of a cache that keep one invariant.
use Rattle.std.specs.Prelude.{◌≡◌, ◌≢◌, ◌++◌, ℕ, List, Some}
use Rattle.mg_base.specs.Disk.{Meaning}
use Rattle.mg_base.specs.Image.{Image}
use Rattle.mg_careful.specs.declared.links.Demand.{Demand}
use Rattle.mg_careful.specs.CarefulWrite.{DemandSet, Has, IsClosed, IsIn, IsLinked, PageSet, listed, overlay}
use Rattle.mg_demand_laws.specs.Runs.{Lasting}
use Rattle.mg_pool.specs.Batch.{Changed, IsLawful, content_in, lists}
use Rattle.mg_pool.specs.Change.{ChangesOverlays}
use Rattle.mg_pool.specs.Pool.{shown}
use Rattle.mg_pool.specs.declared.pool.Pool.{Pool}
use Rattle.mg_space.specs.Demands.{demands_of, meets_of}
use Rattle.mg_space.specs.View.{KeepsStore, Tells, viewed}
use Rattle.mg_space.specs.declared.links.TheConstants.{VERSION}
use Rattle.mg_demand_laws.specs.PoolTies.{cache_over}
use Rattle.mg_demand_laws.specs.Keeping.{BearsTables, KeepsTables, PaysNewly}
use Rattle.mg_demand_laws.specs.Unmaking.{PaysRows}
use Rattle.mg_demand_laws.specs.Writes.{WritesPages}

-- the law: page writes keep the invariant, with all that was wanted but versions
abbrev pub WritesKeepTables : (D L : Type 0) → Meaning D → Type 0
WritesKeepTables D L m = (size : ℕ) (old new : Pool D L) (i j : Image) (it now : Lasting) (of_disk of_pool : DemandSet)
    → WritesPages m old new i j it now → BearsTables size (cache_over old i) it of_disk of_pool
    → KeepsTables size (cache_over new j) now of_disk of_pool

-- none of these demands is of a version
abbrev pub NoneIsVersion : List Demand → Type 0
NoneIsVersion ds = (d : Demand) → Has ds d → d.what ≢ VERSION

-- What is known to be wanted: of the roots disk and pool have each, and of more things the pool has each.
pub record IsKnown (roots known : List Demand) (of_disk of_pool : DemandSet) : Type 0 where
  pub rooted : (d : Demand) → Has roots d → IsIn of_disk d × IsIn of_pool d
  pub wanted : (d : Demand) → Has known d → IsIn of_pool d

-- A cache has changed a batch, behind reads of pages.
pub record ChangesBatch {D L : Type 0} (m : Meaning D) (before after : Pool D L) (i j : Image) (batch : Changed)
    : Type 0 where
  pub ready : Pool D L
  pub keeps : KeepsStore m before ready
  pub frame : ChangesOverlays m (content_in batch.pages) batch.orders ready after
  pub geometry : after.geometry ≡ before.geometry
  pub tells : Tells m before.disk i
  pub held : m.held after.disk ≡ Some j
  pub lawful : IsLawful before.geometry.size batch.pages batch.orders

-- Whatever disk and pool want, of which what is known is a part: the batch pays, and these things are wanted then.
abbrev pub PaysByKnown : {D L : Type 0} → Pool D L → Image → Changed → Lasting → List Demand → List Demand → List Demand
    → Type 0
PaysByKnown before i batch it roots known news = (of_disk of_pool on_disk : DemandSet)
    → BearsTables before.geometry.size (cache_over before i) it of_disk of_pool → IsKnown roots known of_disk of_pool
    → ((d : Demand) → IsIn of_disk d → IsIn of_pool d → IsIn on_disk d)
    → PaysNewly before.geometry.size (shown before.dirty i) (viewed before i batch) (content_in batch.pages)
    (lists batch.orders) it on_disk of_pool (listed news)

-- the same of a batch that takes rows out
abbrev pub PaysRowsByKnown : {D L : Type 0} → Pool D L → Image → Changed → Changed → Lasting → List Demand → List Demand
    → Type 0
PaysRowsByKnown before i old batch it roots known = (of_disk of_pool : DemandSet)
    → BearsTables before.geometry.size (cache_over before i) it of_disk of_pool → IsKnown roots known of_disk of_pool
    → PaysRows before i old batch (content_in batch.pages) (lists batch.orders) it of_pool

-- One cache becomes another by page writes and batches, where some things are known to be wanted: what a batch newly
-- wants is known behind it.
pub data TablesGo {D L : Type 0} (m : Meaning D) (roots : List Demand)
    : Pool D L → Image → Lasting → List Demand → Pool D L → Image → Lasting → Type 0 where
  no_step : (last : Pool D L) (j : Image) (it : Lasting) (known : List Demand)
      → TablesGo m roots last j it known last j it
  page_writes : (old mid last : Pool D L) (i k j : Image) (it now end : Lasting) (known : List Demand)
      → WritesPages m old mid i k it now → TablesGo m roots mid k now known last j end
      → TablesGo m roots old i it known last j end
  a_batch : (old mid last : Pool D L) (i k j : Image) (it end : Lasting) (known news : List Demand) (batch : Changed)
      → ChangesBatch m old mid i k batch → PaysByKnown old i batch it roots known news → NoneIsVersion news
      → TablesGo m roots mid k it (news ++ known) last j end → TablesGo m roots old i it known last j end
  taken_rows : (old mid last : Pool D L) (i k j : Image) (it end : Lasting) (known : List Demand) (start batch : Changed)
      → ChangesBatch m old mid i k batch → viewed old i start ≡ shown old.dirty i
      → PaysRowsByKnown old i start batch it roots known
      → TablesGo m roots mid k it known last j end → TablesGo m roots old i it known last j end

-- A cache keeps the invariant, with these roots; and each image that a crash may leave is linked from them.
pub record StaysLinked {D L : Type 0} (last : Pool D L) (j : Image) (end : Lasting) (roots : List Demand) : Type 0 where
  pub of_disk : DemandSet
  pub of_pool : DemandSet
  pub its : BearsTables last.geometry.size (cache_over last j) end of_disk of_pool
  pub rooted : (d : Demand) → Has roots d → IsIn of_disk d × IsIn of_pool d
  pub linked : (set_ : PageSet) → IsClosed (cache_over last j) set_
      → IsLinked demands_of meets_of (overlay (cache_over last j) set_) (listed roots)

-- the law of runs
abbrev pub RunsStayLinked : (D L : Type 0) → Meaning D → Type 0
RunsStayLinked D L m = (roots known : List Demand) (first last : Pool D L) (i j : Image) (it end : Lasting)
    → NoneIsVersion roots → NoneIsVersion known → TablesGo m roots first i it known last j end
    → (of_disk of_pool : DemandSet)
    → BearsTables first.geometry.size (cache_over first i) it of_disk of_pool → IsKnown roots known of_disk of_pool
    → StaysLinked last j end roots
