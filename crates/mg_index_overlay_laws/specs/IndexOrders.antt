-- Where the orders of a batch begin, as an index sees it.
use Rattle.std.specs.Prelude.{◌≡◌, ◌⊎◌, ℕ, true, List}
use Rattle.mg_careful.specs.declared.graph.Order.{Order}
use Rattle.mg_node.specs.declared.entry.Entry.{Entry}
use Rattle.mg_image.specs.Form.{Pages}
use Rattle.mg_image.specs.Inventory.{is_used}
use Rattle.mg_pool.specs.Batch.{Changed, lists}
use Rattle.mg_tree_overlay_laws.specs.TreeSteps.{InTree}
use Rattle.mg_btree.specs.Climbing.{HasNoCycle, IsInventory}
use Rattle.mg_btree.specs.Inserting.{PutsIn}
use Rattle.mg_btree.specs.Ordering.{EachOrder}
use Rattle.mg_index_overlay_laws.specs.IndexTrees.{IndexTree, IsIndexTree, SharesNone}

-- a page is one of the page inventory, or a used one that is none of an index
abbrev pub IsBesideIndex : ℕ → Pages → IndexTree → ℕ → Type 0
IsBesideIndex size pages u n =
    IsInventory size n ⊎ ((is_used size pages n ≡ true) × (InTree u.levels n → ⊥))

-- each order begins at such a page
abbrev pub BeginBeside : ℕ → Pages → IndexTree → List Order → Type 0
BeginBeside size pages u orders = EachOrder (λ a b. IsBesideIndex size pages u a) orders

-- an insertion into an index keeps that for each other one
abbrev pub InsertionsBeginBeside : Type 0
InsertionsBeginBeside = (size : ℕ) (old new : Pages) (earlier batch : Changed) (t u : IndexTree)
    (e : Entry) → IsIndexTree size old t → IsIndexTree size old u → SharesNone t u
    → PutsIn size old new earlier batch t.owner t.root t.levels e
    → BeginBeside size old u earlier.orders → BeginBeside size new u batch.orders

-- and where the orders before an insertion are so, and closed no cycle, they close none with those that
-- it adds: so the entries of all indexes of a table may be laid in one batch
abbrev pub InsertionsCloseNoCycle : Type 0
InsertionsCloseNoCycle = (size : ℕ) (old new : Pages) (earlier batch : Changed) (u : IndexTree)
    (e : Entry) → IsIndexTree size old u
    → PutsIn size old new earlier batch u.owner u.root u.levels e → HasNoCycle (lists earlier.orders)
    → BeginBeside size old u earlier.orders → HasNoCycle (lists batch.orders)
