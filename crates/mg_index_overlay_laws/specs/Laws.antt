-- The laws of the indexes of tables in overlays. The other files prove them.
use Rattle.std.specs.Prelude.{◌≡◌, ℕ, Bool, false, List, ◌∷◌, ◌++◌, Option, map}
use Rattle.mg_base.specs.declared.numbers.RecId.{RecId}
use Rattle.mg_base.specs.declared.transaction.TxState.{TxState}
use Rattle.mg_careful.specs.CarefulWrite.{Cache, IsClosed, PageSet, overlay}
use Rattle.mg_careful.specs.Precedence.{Orders}
use Rattle.mg_model.specs.declared.table.Index.{Index}
use Rattle.mg_node.specs.declared.entry.Entry.{Entry}
use Rattle.mg_image.specs.Form.{Form, Pages, Row}
use Rattle.mg_image.specs.Indexes.{AreTrees, IsFoundIn}
use Rattle.mg_image.specs.Records.{Reading}
use Rattle.mg_image.specs.Sound.{IsSoundBy}
use Rattle.mg_image.specs.Tables.{Has, Layout, stands_of, tree_pages}
use Rattle.mg_overlay_laws.specs.Overlays.{ChangesCache, IsCleanAsDisk, WritesPages, before}
use Rattle.mg_pool.specs.Batch.{Changed, content_in, lists}
use Rattle.mg_tree_overlay_laws.specs.Laws.{OverlaysFind}
use Rattle.mg_tree_overlay_laws.specs.RowLaws.{GrowsBatch}
use Rattle.mg_tree_overlay_laws.specs.TreeSteps.{InTree, StaysUsed}
use Rattle.mg_tree_overlay_laws.specs.TreeBatches.{Add, EntryChange, Remove}
use Rattle.mg_btree.specs.Changing.{TakesOut}
use Rattle.mg_btree.specs.Inserting.{PutsIn}
use Rattle.mg_index_overlay_laws.specs.IndexTrees.{AreIndexes, Each, EveryIndex, IndexTree, trees_in, trees_of}
use Rattle.mg_index_overlay_laws.specs.IndexBatches.{AreFollowed, ChangesIndexes, LeaveRow, PutsChanges, TreeChange, joined_all, now_tree, one_changes, stays_as, was_tree}

-- ---- every overlay

-- in a sound image the trees of all indexes stand, and share no page
abbrev pub SoundHasIndexes : Form → Type 0
SoundHasIndexes form = (size : ℕ) (state : ℕ → TxState) (pages : Pages) (layout : Layout)
    (r : Reading) → IsSoundBy form size state pages layout r
    → AreIndexes size pages (trees_in (stands_of layout))

-- so, where nothing is dirty, each index has its tree in every overlay
abbrev pub IndexesStart : Form → Type 0
IndexesStart form = (size : ℕ) (state : ℕ → TxState) (cache : Cache) (layout : Layout) (r : Reading)
    → ((p : ℕ) → cache.dirty p ≡ false) → IsCleanAsDisk cache
    → IsSoundBy form size state cache.pool layout r
    → EveryIndex size cache (trees_in (stands_of layout))

-- page writes keep it
abbrev pub WritesKeepIndexes : Type 0
WritesKeepIndexes = (size : ℕ) (old new : Cache) (gone : PageSet) (trees : List IndexTree)
    → WritesPages old new gone → EveryIndex size old trees → EveryIndex size new trees

-- each index is found in every overlay as in the one that it comes from
abbrev pub OverlaysFindEach : List TreeChange → Cache → Cache → PageSet → Type 0
OverlaysFindEach changes old new gone = Each (λ c. OverlaysFind c.root c.change old new gone) changes

-- a batch keeps it that changes each index by a row of steps
abbrev pub BatchesKeepIndexes : Type 0
BatchesKeepIndexes = (size : ℕ) (old new : Cache) (gone : PageSet) (batch : ℕ → Option (List ℕ))
    (orders : Orders) (changes : List TreeChange) → ChangesCache old new gone batch orders
    → ChangesIndexes size batch orders old.pool new.pool changes
    → EveryIndex size old (map was_tree changes)
    → EveryIndex size new (map now_tree changes) × OverlaysFindEach changes old new gone

-- so a record's row is found in its table's indexes, in every overlay, where it was and its entries are
-- left
abbrev pub RowsStayFound : Type 0
RowsStayFound = (old new : Cache) (gone : PageSet) (changes : List TreeChange) (indexes : List Index)
    (p : RecId) (row : Row) → OverlaysFindEach changes old new gone → LeaveRow indexes p row changes
    → (set_ : PageSet) → IsClosed new set_
    → IsFoundIn (overlay old (before old gone set_)) indexes p row
    → IsFoundIn (overlay new set_) indexes p row

-- The trees of a table's indexes in an overlay: each page of them is one of the pool's.
pub record HasTreesWithin (size : ℕ) (image : Pages) (owner : ℕ) (indexes : List Index)
    (of_pool : List (List (List ℕ))) : Type 0 where
  pub of_image : List (List (List ℕ))
  pub are : AreTrees size image owner indexes of_image
  pub within : (n : ℕ) → Has (tree_pages of_image) n → Has (tree_pages of_pool) n

-- and an overlay has the trees that a layout of it wants
abbrev pub OverlaysHaveTrees : Type 0
OverlaysHaveTrees = (size : ℕ) (cache : Cache) (owner : ℕ) (indexes : List Index)
    (trees : List (List (List ℕ))) → AreTrees size cache.pool owner indexes trees
    → EveryIndex size cache (trees_of owner indexes trees)
    → (set_ : PageSet) → IsClosed cache set_
    → HasTreesWithin size (overlay cache set_) owner indexes trees

-- ---- batches

-- an insertion into one index, as mg_btree makes it, is a row of steps of each index
abbrev pub InsertionsChangeIndexes : Type 0
InsertionsChangeIndexes = (size : ℕ) (old new : Pages) (earlier batch : Changed)
    (front : List IndexTree) (t : IndexTree) (back : List IndexTree) (e : Entry)
    → AreIndexes size old (front ++ t ∷ back) → PutsChanges (content_in batch.pages) old new
    → (puts : PutsIn size old new earlier batch t.owner t.root t.levels e)
    → ChangesIndexes size (content_in batch.pages) (lists batch.orders) old new
    (one_changes (Add e) puts.ends front t back)
    × AreIndexes size new (map now_tree (one_changes (Add e) puts.ends front t back))

-- and so is a removal
abbrev pub RemovalsChangeIndexes : Type 0
RemovalsChangeIndexes = (size : ℕ) (old new : Pages) (batch : Changed) (front : List IndexTree)
    (t : IndexTree) (back : List IndexTree) (e : Entry) (was : Bool)
    → AreIndexes size old (front ++ t ∷ back) → PutsChanges (content_in batch.pages) old new
    → TakesOut size old new batch t.owner t.root t.levels e was
    → ChangesIndexes size (content_in batch.pages) (lists batch.orders) old new
    (one_changes (Remove e) t.levels front t back)
    × AreIndexes size new (map now_tree (one_changes (Remove e) t.levels front t back))

-- the indexes that a change of one is told of
abbrev pub ChangesAreOf : Type 0
ChangesAreOf = (change : EntryChange) (ends : List (List ℕ)) (front : List IndexTree) (t : IndexTree)
    (back : List IndexTree) → map was_tree (one_changes change ends front t back) ≡ front ++ t ∷ back

-- pages beside all indexes change
abbrev pub OthersChangeBeside : Type 0
OthersChangeBeside = (size : ℕ) (old new : Pages) (batch : Changed) (trees : List IndexTree)
    → AreIndexes size old trees → PutsChanges (content_in batch.pages) old new
    → StaysUsed size old new
    → Each (λ t. (n : ℕ) → InTree t.levels n → new n ≡ old n) trees
    → ChangesIndexes size (content_in batch.pages) (lists batch.orders) old new (map stays_as trees)
    × AreIndexes size new trees

-- one after another, in a batch that grows, they are one row of steps of each index
abbrev pub ChangesJoin : Type 0
ChangesJoin = (size : ℕ) (batch more : ℕ → Option (List ℕ)) (orders further : Orders)
    (old mid new : Pages) (cs ds : List TreeChange) → GrowsBatch batch more orders further
    → AreFollowed cs ds → ChangesIndexes size batch orders old mid cs
    → ChangesIndexes size more further mid new ds
    → ChangesIndexes size more further old new (joined_all cs ds)
