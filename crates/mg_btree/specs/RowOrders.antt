-- What a row of steps adds to the orders of a batch, one by one, and why its pages split.
use Rattle.std.specs.Prelude.{ℕ, List, [], ◌++◌, Option}
use Rattle.mg_careful.specs.Precedence.{Orders}
use Rattle.mg_careful.specs.declared.graph.Order.{Order}
use Rattle.mg_node.specs.declared.entry.Entry.{Entry}
use Rattle.mg_image.specs.Form.{Pages}
use Rattle.mg_tree_overlay_laws.specs.TreeSteps.{grow_levels, split_levels}
use Rattle.mg_tree_overlay_laws.specs.TreeBatches.{ChangesTree, EntryChange, beside, done, grows, leaf, splits}
use Rattle.mg_btree.specs.Halves.{HasRoom, names_in}
use Rattle.mg_btree.specs.Ordering.{root_orders, split_orders}

-- the orders of a row of steps: those of each split, and of a root that splits, one after another; no
-- other step has any
abbrev pub row_orders : (size owner root : ℕ) (batch : ℕ → Option (List ℕ)) (orders : Orders)
    (change : EntryChange) (pool last : Pages) (levels ends : List (List ℕ))
    → ChangesTree size owner root batch orders change pool levels last ends → List Order
row_orders size owner root batch orders change pool last levels ends (done v ls) = []
row_orders size owner root batch orders change pool last levels ends
    (beside v next w ls es n others used some fresh more) =
    row_orders size owner root batch orders change next last levels ends more
row_orders size owner root batch orders change pool last levels ends
    (splits v split named w ls es l r p e is order no_l no_p below fresh more) =
    split_orders size (names_in (pool r)) l r p
    ++ row_orders size owner root batch orders change named last (split_levels l r levels) ends more
row_orders size owner root batch orders change pool last levels ends
    (grows v grown w ls es a b is order no_root more) =
    root_orders size (names_in (pool a)) (names_in (pool b)) root a b
    ++ row_orders size owner root batch orders change grown last (grow_levels root a b levels) ends more
row_orders size owner root batch orders change pool last levels ends
    (leaf v next w ls es n is low entries some no_inventory more) =
    row_orders size owner root batch orders change next last levels ends more

-- the entry that a page is to have next: the fence of the first split, else the one that is put in
abbrev pub row_next : (size owner root : ℕ) (batch : ℕ → Option (List ℕ)) (orders : Orders)
    (change : EntryChange) (pool last : Pages) (levels ends : List (List ℕ))
    → ChangesTree size owner root batch orders change pool levels last ends → Entry → Entry
row_next size owner root batch orders change pool last levels ends (done v ls) e = e
row_next size owner root batch orders change pool last levels ends
    (beside v next w ls es n others used some fresh more) e =
    row_next size owner root batch orders change next last levels ends more e
row_next size owner root batch orders change pool last levels ends
    (splits v split named w ls es l r p fence is order no_l no_p below fresh more) e = fence
row_next size owner root batch orders change pool last levels ends
    (grows v grown w ls es a b is order no_root more) e =
    row_next size owner root batch orders change grown last (grow_levels root a b levels) ends more e
row_next size owner root batch orders change pool last levels ends
    (leaf v next w ls es n is low entries some no_inventory more) e =
    row_next size owner root batch orders change next last levels ends more e

-- each page that splits has no room for the entry that a page is to have next
abbrev pub SplitsFull : (size owner root : ℕ) (batch : ℕ → Option (List ℕ)) (orders : Orders)
    (change : EntryChange) (pool last : Pages) (levels ends : List (List ℕ))
    → ChangesTree size owner root batch orders change pool levels last ends → Entry → Type 0
SplitsFull size owner root batch orders change pool last levels ends (done v ls) e = Unit {0}
SplitsFull size owner root batch orders change pool last levels ends
    (beside v next w ls es n others used some fresh more) e =
    SplitsFull size owner root batch orders change next last levels ends more e
SplitsFull size owner root batch orders change pool last levels ends
    (splits v split named w ls es l r p fence is order no_l no_p below fresh more) e =
    (HasRoom (pool l) (row_next size owner root batch orders change named last (split_levels l r levels)
    ends more e) → ⊥)
    × SplitsFull size owner root batch orders change named last (split_levels l r levels) ends more e
SplitsFull size owner root batch orders change pool last levels ends
    (grows v grown w ls es a b is order no_root more) e =
    (HasRoom (pool root) (row_next size owner root batch orders change grown last
    (grow_levels root a b levels) ends more e) → ⊥)
    × SplitsFull size owner root batch orders change grown last (grow_levels root a b levels) ends more e
SplitsFull size owner root batch orders change pool last levels ends
    (leaf v next w ls es n is low entries some no_inventory more) e =
    SplitsFull size owner root batch orders change next last levels ends more e
