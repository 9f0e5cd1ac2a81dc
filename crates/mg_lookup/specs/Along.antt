-- A walk along the entries of a key.
use Rattle.std.specs.Prelude.{◌≡◌, ◌⊎◌, ◌<◌, ◌+◌, ◌*◌, ℕ, List, Option, None, Some, IfSome, Result}
use Rattle.mg_base.specs.Disk.{Meaning}
use Rattle.mg_base.specs.Image.{Image}
use Rattle.mg_base.specs.declared.numbers.RecId.{RecId}
use Rattle.mg_image.specs.Form.{Pages}
use Rattle.mg_image.specs.Indexes.{Finds}
use Rattle.mg_node.specs.declared.entry.Entry.{Entry}
use Rattle.mg_node.specs.NodePage.{IsBelow}
use Rattle.mg_pool.specs.Fault.{MeetsNoFault}
use Rattle.mg_pool.specs.declared.pool.Pool.{Pool}
use Rattle.mg_space.specs.View.{KeepsStore, Tells, viewed}
use Rattle.mg_space.specs.declared.fault.SpaceFault.{SpaceFault}
use Rattle.mg_seek.specs.TableRecords.{IsAmong}
use Rattle.mg_btree.specs.Changing.{IsLeaf}
use Rattle.mg_btree.specs.Ranges.{ScansFrom, StepsOn, no_pages}
use Rattle.mg_btree.specs.declared.range.Step.{Step}
use Rattle.mg_btree.specs.declared.range.Walk.{Walk}
use Rattle.mg_lookup.specs.Records.{HasItsEntry, entry_of}

-- the place of a record among all that there could be
abbrev pub rank_of : RecId → ℕ
rank_of rec = rec.page.0 * 65536 + rec.slot

-- the least rank that comes behind an entry
abbrev pub floor_of : Option Entry → ℕ
floor_of None = 0
floor_of (Some e) = rank_of e.rec + 1

-- an entry has these key bytes, and a slot of two bytes
pub record IsOfKey (key : List ℕ) (e : Entry) : Type 0 where
  pub key_is : e.key ≡ key
  pub slot : e.rec.slot < 65536

-- The entries of a key were met up to one of them, whose records these are.
pub record AreMet (view : Pages) (root : ℕ) (key : List ℕ) (found : List RecId) (last : Option Entry) : Type 0 where
  pub whole : (p : RecId) → Finds view (entry_of key p) root
      → IsAmong found p ⊎ IfSome last (λ e. IsBelow e (entry_of key p))
  pub alone : (p : RecId) → IsAmong found p → HasItsEntry view root key p

-- How the walk stands: no fault was met, and in a tree it goes on from the last entry that was met.
pub record IsAlong {D L : Type 0} (m : Meaning D) (old new : Pool D L) (first : Walk) (key : List ℕ) (found : List RecId)
    (last : Option Entry) (walk : Walk) (floor : ℕ) : Type 0 where
  pub keeps : KeepsStore m old new
  pub faults : MeetsNoFault m old new
  pub online : new.offline ≡ None
  pub leaf : IsLeaf old.geometry.size walk.leaf
  pub of_key : IfSome last (IsOfKey key)
  pub floor_is : floor ≡ floor_of last
  pub scans : (image : Image) (owner root : ℕ) (levels : List (List ℕ)) → Tells m old.disk image
      → ScansFrom old.geometry.size (viewed old image no_pages) owner root levels key None first.leaf
      → ScansFrom old.geometry.size (viewed old image no_pages) owner root levels key last walk.leaf
  pub met : (image : Image) (owner root : ℕ) (levels : List (List ℕ)) → Tells m old.disk image
      → ScansFrom old.geometry.size (viewed old image no_pages) owner root levels key None first.leaf
      → AreMet (viewed old image no_pages) root key found last

-- what a step of a walk tells of a tree
abbrev pub TellsSteps : {D L : Type 0} → Meaning D → Pool D L → List ℕ → Option Entry → Walk → Result Step SpaceFault → Type 0
TellsSteps m a key last walk result = (image : Image) (owner root : ℕ) (levels : List (List ℕ)) → Tells m a.disk image
    → ScansFrom a.geometry.size (viewed a image no_pages) owner root levels key last walk.leaf
    → StepsOn a.geometry.size (viewed a image no_pages) owner root levels key last walk.leaf result
