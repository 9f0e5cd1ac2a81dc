-- What a call that changes a tree does to the pages as viewed.
use Rattle.std.specs.Prelude.{◌≡◌, ◌⊎◌, ◌↔◌, ℕ, Bool, true, false, IsTrue, List, length, Result, Ok, Err}
use Rattle.mg_node.specs.declared.entry.Entry.{Entry}
use Rattle.mg_node.specs.NodePage.{IsNodePage, level_in}
use Rattle.mg_image.specs.Form.{Pages}
use Rattle.mg_image.specs.Indexes.{Finds}
use Rattle.mg_node_writing.specs.NodeChanges.{IsEntryOf, RemovesEntry}
use Rattle.mg_pool.specs.Batch.{Changed, PutsPage, content_in, lists}
use Rattle.mg_space.specs.declared.fault.SpaceFault.{SpaceFault}
use Rattle.mg_space.specs.declared.fault.SpaceFault.TheVariants.{Full, Pool as OfPool, Damaged as OfPage}
use Rattle.mg_tree_overlay_laws.specs.TreeSteps.{InTree}
use Rattle.mg_tree_overlay_laws.specs.TreeBatches.{ChangesTree, IsNoInventory, Remove}
use Rattle.mg_btree.specs.declared.node.ReadNode.{ReadNode}
use Rattle.mg_btree.specs.RowTakings.{RewritesLeaf}
use Rattle.mg_btree.specs.Searching.{IsReached}

-- a leaf that was read
pub record IsLeaf (size : ℕ) (read : ReadNode) : Type 0 where
  pub len : length read.bytes ≡ size
  pub lawful : IsNodePage read.bytes
  pub level : level_in read.bytes ≡ 0

-- in a tree the leaf that covers an entry was read, and no damage was met
abbrev pub ReadsLeaf : ℕ → Pages → ℕ → List (List ℕ) → Entry → Result ReadNode SpaceFault → Type 0
ReadsLeaf size pages owner levels e (Ok read) = IsReached size owner 0 e read
    × (read.bytes ≡ pages read.page.0) × InTree levels read.page.0
ReadsLeaf size pages owner levels e (Err (Full limit)) = ⊥
ReadsLeaf size pages owner levels e (Err (OfPage damage)) = ⊥
ReadsLeaf size pages owner levels e (Err (OfPool fault)) = Unit {0}

-- a batch gets a leaf without an entry that it had
pub record PutsWithout (old new : Changed) (read : ReadNode) (e : Entry) : Type 0 where
  pub was : IsEntryOf read.bytes e
  pub bytes : List ℕ
  pub removes : RemovesEntry read.bytes bytes e
  pub lawful : IsNodePage bytes
  pub len : length bytes ≡ length read.bytes
  pub puts : PutsPage old new read.page.0 bytes

-- or it stays, where the leaf has no such entry
abbrev pub PutsOrStays : Changed → Changed → ReadNode → Entry → Bool → Type 0
PutsOrStays old new read e true = PutsWithout old new read e
PutsOrStays old new read e false = (IsEntryOf read.bytes e → ⊥) × (new ≡ old)

-- no page of a tree is one of the page inventory, as it is in each sound image
abbrev pub HasNoInventory : ℕ → List (List ℕ) → Type 0
HasNoInventory size levels = (n : ℕ) → InTree levels n → IsNoInventory size n

-- An entry was taken out of a tree, by a row of steps, if it was there; it is found no more.
pub record TakesOut (size : ℕ) (old new : Pages) (batch : Changed) (owner root : ℕ)
    (levels : List (List ℕ)) (e : Entry) (was : Bool) : Type 0 where
  pub when : IsTrue was ↔ Finds old e root
  pub row : ChangesTree size owner root (content_in batch.pages) (lists batch.orders) (Remove e) old
      levels new levels
  pub gone : Finds new e root → ⊥
  -- no page changes but the tree's, of which one leaf does at most
  pub others : (n : ℕ) → (InTree levels n → ⊥) → new n ≡ old n
  pub alone : (new ≡ old) ⊎ RewritesLeaf size old new owner levels

-- in a tree the entry is taken out, or the cache refuses
abbrev pub Removes : ℕ → Pages → Pages → Changed → ℕ → ℕ → List (List ℕ) → Entry
    → Result Bool SpaceFault → Type 0
Removes size old new batch owner root levels e (Ok was) =
    TakesOut size old new batch owner root levels e was
Removes size old new batch owner root levels e (Err (Full limit)) = ⊥
Removes size old new batch owner root levels e (Err (OfPage damage)) = ⊥
Removes size old new batch owner root levels e (Err (OfPool fault)) = Unit {0}
