-- What the steps of a search keep, from the first page of a level on.
use Rattle.std.specs.Prelude.{◌≡◌, ◌<◌, ◌+◌, ℕ, List, None}
use Rattle.mg_base.specs.Disk.{Meaning}
use Rattle.mg_base.specs.Image.{Image}
use Rattle.mg_base.specs.declared.geometry.TheConstants.{GREATEST_LIMIT}
use Rattle.mg_node.specs.declared.entry.Entry.{Entry}
use Rattle.mg_pool.specs.Fault.{MeetsNoFault}
use Rattle.mg_pool.specs.Batch.{Changed}
use Rattle.mg_pool.specs.declared.pool.Pool.{Pool}
use Rattle.mg_space.specs.View.{KeepsStore, Tells, viewed}
use Rattle.mg_btree.specs.Searching.{BeginsAt, IsShort}

-- After so many pages of a level: no fault was met, and in a tree the search goes on from the next
-- page, and as many steps are left as the level may have pages.
pub record IsOnWay {D L : Type 0} (m : Meaning D) (old new : Pool D L) (batch : Changed)
    (owner level : ℕ) (e : Entry) (page at count : ℕ) : Type 0 where
  pub keeps : KeepsStore m old new
  pub faults : MeetsNoFault m old new
  pub online : 0 < count → new.offline ≡ None
  pub begins : (image : Image) (root : ℕ) (levels : List (List ℕ)) → Tells m old.disk image
      → BeginsAt old.geometry.size (viewed old image batch) owner root levels e level page
      → BeginsAt old.geometry.size (viewed old image batch) owner root levels e level at
  pub short : (image : Image) (root : ℕ) (levels : List (List ℕ)) (left : ℕ) → Tells m old.disk image
      → BeginsAt old.geometry.size (viewed old image batch) owner root levels e level page
      → count + left ≡ GREATEST_LIMIT → IsShort (viewed old image batch) at left
