-- An entry is put into a tree.
use Rattle.std.specs.Prelude.{◌≡◌, ◌≢◌, ◌⊎◌, ◌++◌, ◌+◌, ◌*◌, ◌≤◌, ℕ, false, List, [], length, None, Result, Ok, Err}
use Rattle.mg_base.specs.declared.geometry.Geometry.{Geometry}
use Rattle.mg_node.specs.declared.entry.Entry.{Entry}
use Rattle.mg_node.specs.NodePage.{IsNodePage, level_in}
use Rattle.mg_image.specs.Form.{Pages}
use Rattle.mg_image.specs.Indexes.{Finds, IsTree}
use Rattle.mg_image.specs.Inventory.{is_used}
use Rattle.mg_node_writing.specs.NodeChanges.{InsertsEntry, IsEntryOf}
use Rattle.mg_pool.specs.Batch.{Changed, PutsPage, content_in, lists}
use Rattle.mg_space.specs.declared.fault.SpaceFault.{SpaceFault}
use Rattle.mg_space.specs.declared.fault.SpaceFault.TheVariants.{Full, Pool as OfPool, Damaged as OfPage}
use Rattle.mg_tree_overlay_laws.specs.TreePages.{all_of}
use Rattle.mg_tree_overlay_laws.specs.TreeSteps.{InTree}
use Rattle.mg_tree_overlay_laws.specs.TreesBehind.{Covers}
use Rattle.mg_tree_overlay_laws.specs.TreeBatches.{Add, ChangesTree, IsNoInventory}
use Rattle.mg_btree.specs.declared.halves.PageBytes.{PageBytes}
use Rattle.mg_btree.specs.declared.inserting.Leaf.{Leaf}
use Rattle.mg_btree.specs.Changing.{HasNoInventory}
use Rattle.mg_btree.specs.Halves.{HasRoom}
use Rattle.mg_btree.specs.Rooms.{RefusesRoom}
use Rattle.mg_btree.specs.Ordering.{EachOrder}
use Rattle.mg_btree.specs.RowOrders.{SplitsFull, row_orders}
use Rattle.mg_btree.specs.RowTakings.{TakesItsPages}

-- in a tree the leaf that covers an entry was read, with what the root says of its tree
abbrev pub FindsLeaf : Pages → ℕ → ℕ → List (List ℕ) → Result Leaf SpaceFault → Type 0
FindsLeaf pages owner root levels (Ok leaf) = (leaf.top.page.0 ≡ root) × (leaf.top.owner ≡ owner)
    × (leaf.top.level ≡ level_in (pages root)) × (leaf.read.bytes ≡ pages leaf.read.page.0)
    × InTree levels leaf.read.page.0
FindsLeaf pages owner root levels (Err (Full limit)) = ⊥
FindsLeaf pages owner root levels (Err (OfPage damage)) = ⊥
FindsLeaf pages owner root levels (Err (OfPool fault)) = Unit {0}

-- A batch gets a leaf with an entry more, unless the leaf had it.
pub record PutsWith (old new : Changed) (page : PageBytes) (e : Entry) : Type 0 where
  pub bytes : List ℕ
  pub inserts : (IsEntryOf page.bytes e → ⊥) → InsertsEntry page.bytes bytes e
  pub lawful : IsNodePage bytes
  pub len : length bytes ≡ length page.bytes
  pub puts : PutsPage old new page.page.0 bytes

-- An entry is in a tree that was not there, by a row of steps: it is found now, beside those that
-- were, and no other. The batch has the orders of the row more, one by one, and no others; and a page
-- splits only where the entry that it is to have does not fit. So where the leaf has room for the entry
-- it alone changes, without an order.
pub record PutsIn (size : ℕ) (old new : Pages) (before batch : Changed) (owner root : ℕ)
    (levels : List (List ℕ)) (e : Entry) : Type 0 where
  pub ends : List (List ℕ)
  pub row : ChangesTree size owner root (content_in batch.pages) (lists batch.orders) (Add e) old
      levels new ends
  pub adds : batch.orders ≡ before.orders ++ row_orders size owner root (content_in batch.pages)
      (lists batch.orders) (Add e) old new levels ends row
  -- the later page of each is in the batch
  pub held : EachOrder (λ a b. content_in batch.pages b ≢ None) (row_orders size owner root
      (content_in batch.pages) (lists batch.orders) (Add e) old new levels ends row)
  pub full : SplitsFull size owner root (content_in batch.pages) (lists batch.orders) (Add e) old new
      levels ends row e
  pub tree : IsTree size new owner root ends
  pub no_inventory : HasNoInventory size ends
  -- the tree keeps its pages, what comes to it was not used, and no page changes but the tree's and
  -- those of the page inventory
  pub wider : (n : ℕ) → InTree levels n → InTree ends n
  pub fresh : (n : ℕ) → InTree ends n → InTree levels n ⊎ (is_used size old n ≡ false)
  pub others : (n : ℕ) → (InTree ends n → ⊥) → IsNoInventory size n → new n ≡ old n
  -- the batch has at most four pages more for each level above the leaves, and six for the root and a
  -- leaf
  pub few : length batch.pages ≤ length before.pages + (4 * level_in (old root) + 6)
  -- and the tree at most one for each level below the root's, and two for the root
  pub more_pages : length (all_of ends) ≤ length (all_of levels) + (level_in (old root) + 2)
  pub has : Finds new e root
  pub keeps : (f : Entry) → Finds old f root → Finds new f root
  pub only : (f : Entry) → Finds new f root → Finds old f root ⊎ (f ≡ e)
  pub once : Finds old e root → batch ≡ before
  pub in_place : (n : ℕ) → InTree levels n → level_in (old n) ≡ 0 → Covers old n e
      → HasRoom (old n) e → ((m : ℕ) → m ≢ n → new m ≡ old m) × (batch.orders ≡ before.orders)

-- So an entry is in a tree, and each page that the tree has more was taken by a step of that row, before it got
-- its content, which the tree came to name last.
pub record PutsAndTakes (g : Geometry) (old new : Pages) (before batch : Changed) (owner root : ℕ)
    (levels : List (List ℕ)) (e : Entry) : Type 0 where
  pub puts : PutsIn g.size old new before batch owner root levels e
  pub takes : TakesItsPages g owner root (content_in batch.pages) (lists batch.orders) (Add e) old new levels
      puts.ends puts.row [] puts.ends

-- why an entry is not put into a tree: a page that is needed is not taken, which comes only where the
-- entry is not there and its leaf has no room; or the cache refuses
pub record RefusesInsert (g : Geometry) (old : Pages) (root : ℕ) (levels : List (List ℕ)) (e : Entry)
    (fault : SpaceFault) : Type 0 where
  pub refused : RefusesRoom g old root 0 fault
  pub absent : Finds old e root → ⊥
  pub no_room : (n : ℕ) → InTree levels n → level_in (old n) ≡ 0 → Covers old n e
      → HasRoom (old n) e → ⊥

abbrev pub Inserts : Geometry → Pages → Pages → Changed → Changed → ℕ → ℕ → List (List ℕ) → Entry
    → Result (Unit {0}) SpaceFault → Type 0
Inserts g old new before batch owner root levels e (Ok done_) =
    PutsAndTakes g old new before batch owner root levels e
Inserts g old new before batch owner root levels e (Err (Full limit)) =
    RefusesInsert g old root levels e (Full limit)
Inserts g old new before batch owner root levels e (Err (OfPage damage)) =
    RefusesInsert g old root levels e (OfPage damage)
Inserts g old new before batch owner root levels e (Err (OfPool fault)) = Unit {0}
