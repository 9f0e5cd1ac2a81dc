-- The orders that a row of steps adds lead up a tree, or to the left, so they close no cycle.
use Rattle.std.specs.Prelude.{◌≡◌, ◌⊎◌, ℕ, List, [], ◌∷◌}
use Rattle.mg_careful.specs.Precedence.{Orders, Precedes}
use Rattle.mg_node.specs.declared.entry.Entry.{Entry}
use Rattle.mg_image.specs.Form.{Pages}
use Rattle.mg_image.specs.Indexes.{IsTree}
use Rattle.mg_image.specs.Tables.{Has}
use Rattle.mg_pool.specs.Batch.{Changed, lists}
use Rattle.mg_tree_overlay_laws.specs.TreeSteps.{InTree}
use Rattle.mg_tree_overlay_laws.specs.TreeBatches.{inventory_of}
use Rattle.mg_btree.specs.Inserting.{PutsIn}
use Rattle.mg_btree.specs.Ordering.{EachOrder}

-- one page stands to the left of another among these
abbrev pub IsLeftOf : List ℕ → ℕ → ℕ → Type 0
IsLeftOf [] a b = ⊥
IsLeftOf (n ∷ ns) a b = ((a ≡ n) × Has ns b) ⊎ IsLeftOf ns a b

-- one page of a tree stands on a level above that of another, or to its left on the same one
abbrev pub IsAhead : List (List ℕ) → ℕ → ℕ → Type 0
IsAhead [] a b = ⊥
IsAhead (level ∷ below) a b =
    (Has level a × InTree below b) ⊎ (IsLeftOf level a b ⊎ IsAhead below a b)

-- a page is one of the page inventory
abbrev pub IsInventory : ℕ → ℕ → Type 0
IsInventory size n = (m : ℕ) × (inventory_of size m ≡ n)

-- an order leads to a page of a tree, from a page of the inventory or from a page of the tree that the
-- later one is ahead of
abbrev pub Climbs : ℕ → List (List ℕ) → ℕ → ℕ → Type 0
Climbs size levels first later =
    InTree levels later × (IsInventory size first ⊎ IsAhead levels later first)

-- no page precedes itself
abbrev pub HasNoCycle : Orders → Type 0
HasNoCycle orders = (page : ℕ) → Precedes orders page page → ⊥

-- Where the orders of a batch closed no cycle, and none of them begins at a page of the tree as it
-- comes to be, they close none with those that an insertion adds.
abbrev pub ClosesNoCycle : Type 0
ClosesNoCycle = (size : ℕ) (old new : Pages) (before batch : Changed) (owner root : ℕ)
    (levels : List (List ℕ)) (e : Entry) → IsTree size old owner root levels
    → (puts : PutsIn size old new before batch owner root levels e) → HasNoCycle (lists before.orders)
    → EachOrder (λ a b. InTree puts.ends a → ⊥) before.orders → HasNoCycle (lists batch.orders)
