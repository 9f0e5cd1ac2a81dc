-- The laws of index trees in overlays. The files `..Laws` and `..Parts` prove them.
use Rattle.std.specs.Prelude.{◌≡◌, ◌↔◌, ℕ, suc, false, List, Option}
use Rattle.mg_careful.specs.Precedence.{Orders}
use Rattle.mg_careful.specs.CarefulWrite.{Cache, IsClosed, PageSet, overlay}
use Rattle.mg_overlay_laws.specs.Overlays.{ChangesCache, IsCleanAsDisk, LaysBatch, WritesPages, before, laid}
use Rattle.mg_node.specs.declared.entry.Entry.{Entry}
use Rattle.mg_node.specs.NodePage.{entries_of, level_in}
use Rattle.mg_image.specs.Form.{Pages}
use Rattle.mg_image.specs.Indexes.{Finds, HasEntry, IsTree}
use Rattle.mg_tree_overlay_laws.specs.TreeSteps.{InTree, Rewrites}
use Rattle.mg_tree_overlay_laws.specs.TreesBehind.{Covers, EveryTree, HasKeptTree, InLeaves, IsParent}
use Rattle.mg_tree_overlay_laws.specs.TreeBatches.{ChangesTree, EntryChange, HasChanged, IsLeft}

-- ---- every overlay

-- where nothing is dirty the pool's own tree is the one that there is
abbrev pub TreesStart : Type 0
TreesStart = (size owner root : ℕ) (cache : Cache) (levels : List (List ℕ))
    → ((p : ℕ) → cache.dirty p ≡ false) → IsCleanAsDisk cache
    → IsTree size cache.pool owner root levels → EveryTree size owner root cache levels

-- page writes keep it
abbrev pub WritesKeepTrees : Type 0
WritesKeepTrees = (size owner root : ℕ) (old new : Cache) (gone : PageSet) (levels : List (List ℕ))
    → WritesPages old new gone → EveryTree size owner root old levels
    → EveryTree size owner root new levels

-- An overlay finds each entry that was found in the overlay that it comes from, but for one that is
-- removed.
abbrev pub OverlaysFind : ℕ → EntryChange → Cache → Cache → PageSet → Type 0
OverlaysFind root change old new gone = (set_ : PageSet) → IsClosed new set_ → (f : Entry)
    → IsLeft change f → Finds (overlay old (before old gone set_)) f root
    → Finds (overlay new set_) f root

-- a batch that changes the tree in the order of its splits keeps it, whatever is dirty before
abbrev pub BatchesKeepTrees : Type 0
BatchesKeepTrees = (size owner root : ℕ) (old new : Cache) (gone : PageSet)
    (batch : ℕ → Option (List ℕ)) (orders : Orders) (change : EntryChange)
    (levels ends : List (List ℕ)) → ChangesCache old new gone batch orders
    → ChangesTree size owner root batch orders change old.pool levels new.pool ends
    → EveryTree size owner root old levels
    → EveryTree size owner root new ends × OverlaysFind root change old new gone

-- the same of one image, on which some pages of a batch are laid
abbrev pub LaidBatchesKeepTrees : Type 0
LaidBatchesKeepTrees = (size owner root : ℕ) (batch : ℕ → Option (List ℕ)) (orders : Orders)
    (change : EntryChange) (pool changed : Pages) (levels ends : List (List ℕ)) (set_ : PageSet)
    (image : Pages) → ChangesTree size owner root batch orders change pool levels changed ends
    → LaysBatch pool changed batch orders set_ image → IsTree size pool owner root levels
    → HasKeptTree size owner root pool image levels
    → HasKeptTree size owner root changed (laid batch set_ image) ends
    × ((f : Entry) → IsLeft change f → Finds image f root → Finds (laid batch set_ image) f root)

-- ---- the pool's own tree

-- after a batch it is a tree again, with the entries that are left and the one that is added
abbrev pub BatchesChangeTrees : Type 0
BatchesChangeTrees = (size owner root : ℕ) (batch : ℕ → Option (List ℕ)) (orders : Orders)
    (change : EntryChange) (pool changed : Pages) (levels ends : List (List ℕ))
    → ChangesTree size owner root batch orders change pool levels changed ends
    → IsTree size pool owner root levels → HasChanged size owner root change pool changed ends

-- an entry is found exactly where a leaf has it
abbrev pub FoundInLeaves : Type 0
FoundInLeaves = (size owner root : ℕ) (pages : Pages) (levels : List (List ℕ)) (e : Entry)
    → IsTree size pages owner root levels → Finds pages e root ↔ InLeaves pages levels e

-- so one that stands on a leaf is found
abbrev pub LeavesAreFound : Type 0
LeavesAreFound = (size owner root : ℕ) (pages : Pages) (levels : List (List ℕ)) (n : ℕ) (e : Entry)
    → IsTree size pages owner root levels → InTree levels n → level_in (pages n) ≡ 0
    → HasEntry (entries_of (pages n)) e → Finds pages e root

-- and one that a leaf has lost is found no more
abbrev pub RemovedIsGone : Type 0
RemovedIsGone = (size owner root : ℕ) (pool changed : Pages) (levels : List (List ℕ)) (n : ℕ)
    (e : Entry) → IsTree size pool owner root levels → InTree levels n → level_in (pool n) ≡ 0
    → HasEntry (entries_of (pool n)) e → Rewrites size pool changed owner n
    → (HasEntry (entries_of (changed n)) e → ⊥) → Finds changed e root → ⊥

-- ---- a search on its way down

-- A page is the one on which a split of another page is named, where it stands on the level above and
-- some entry lies between the fences of both.
abbrev pub CoversParent : Type 0
CoversParent = (size owner root : ℕ) (pages : Pages) (levels : List (List ℕ)) (e : Entry) (p n : ℕ)
    → IsTree size pages owner root levels → InTree levels p → InTree levels n
    → level_in (pages p) ≡ suc (level_in (pages n)) → Covers pages p e → Covers pages n e
    → IsParent pages levels p n

-- and what lies between the fences of the lower page lies between its fences
abbrev pub CoversBelow : Type 0
CoversBelow = (size owner root : ℕ) (pages : Pages) (levels : List (List ℕ)) (e f : Entry) (p n : ℕ)
    → IsTree size pages owner root levels → InTree levels p → InTree levels n
    → level_in (pages p) ≡ suc (level_in (pages n)) → Covers pages p e → Covers pages n e
    → Covers pages n f → Covers pages p f

-- the leaf between whose fences an entry lies has it, where the tree has it
abbrev pub LeafHasFound : Type 0
LeafHasFound = (size owner root : ℕ) (pages : Pages) (levels : List (List ℕ)) (n : ℕ) (e : Entry)
    → IsTree size pages owner root levels → InTree levels n → level_in (pages n) ≡ 0
    → Covers pages n e → Finds pages e root → HasEntry (entries_of (pages n)) e
