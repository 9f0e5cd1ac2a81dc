-- What the steps of a scan along the leaves keep.
use Rattle.std.specs.Prelude.{◌≡◌, ◌+◌, ℕ, List, Option, None}
use Rattle.mg_base.specs.Disk.{Meaning}
use Rattle.mg_base.specs.Image.{Image}
use Rattle.mg_base.specs.declared.geometry.TheConstants.{GREATEST_LIMIT}
use Rattle.mg_node.specs.declared.entry.Entry.{Entry}
use Rattle.mg_pool.specs.Fault.{MeetsNoFault}
use Rattle.mg_pool.specs.Batch.{Changed}
use Rattle.mg_pool.specs.declared.pool.Pool.{Pool}
use Rattle.mg_space.specs.View.{KeepsStore, Tells, viewed}
use Rattle.mg_btree.specs.declared.node.ReadNode.{ReadNode}
use Rattle.mg_btree.specs.Searching.{IsShort}
use Rattle.mg_btree.specs.Ranges.{ScansFrom, right_by}
use Rattle.mg_btree.specs.Changing.{IsLeaf}

-- After so many leaves: no fault was met, and in a tree the scan goes on from a leaf, and as many
-- steps are left as there may be leaves.
pub record IsScanning {D L : Type 0} (m : Meaning D) (old new : Pool D L) (batch : Changed)
    (first read : ReadNode) (low : List ℕ) (bound : Option Entry) (count : ℕ) : Type 0 where
  pub keeps : KeepsStore m old new
  pub faults : MeetsNoFault m old new
  pub online : new.offline ≡ None
  pub scans : (image : Image) (owner root : ℕ) (levels : List (List ℕ)) → Tells m old.disk image
      → ScansFrom old.geometry.size (viewed old image batch) owner root levels low bound first
      → ScansFrom old.geometry.size (viewed old image batch) owner root levels low bound read
  pub place : (image : Image) (owner root : ℕ) (levels : List (List ℕ)) → Tells m old.disk image
      → ScansFrom old.geometry.size (viewed old image batch) owner root levels low bound first
      → read.page.0 ≡ right_by (viewed old image batch) first.page.0 count
  pub leaf : IsLeaf old.geometry.size read
  pub short : (image : Image) (owner root : ℕ) (levels : List (List ℕ)) (left : ℕ)
      → Tells m old.disk image
      → ScansFrom old.geometry.size (viewed old image batch) owner root levels low bound first
      → count + left ≡ GREATEST_LIMIT → IsShort (viewed old image batch) read.page.0 left
