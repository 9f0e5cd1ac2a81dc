-- Laws of pages that are taken for a tree: the tree stays, and the page is none of it.
use Rattle.std.proofs.Common.{◌≡◌, ◌≢◌, refl, sym, ◌<◌, ◌/◌, ℕ, Bool, true, false, List, ◌∷◌, Option, None, arith}
use Rattle.mg_base.specs.declared.geometry.Geometry.{Geometry}
use Rattle.mg_base.specs.declared.geometry.TheConstants.{GREATEST_LIMIT}
use Rattle.mg_careful.specs.Precedence.{Orders}
use Rattle.mg_careful.specs.declared.graph.Order.{Order}
use Rattle.mg_node.specs.declared.entry.Entry.{Entry}
use Rattle.mg_image.specs.Form.{Pages}
use Rattle.mg_image.specs.Indexes.{IsTree}
use Rattle.mg_image.specs.Inventory.{is_used}
use Rattle.mg_pip.specs.PipPage.{bits}
use Rattle.mg_space.specs.Taking.{IsGeometry, TakesPage}
use Rattle.mg_space.specs.TakingLaws.{takes_bit, takes_keeps}
use Rattle.mg_tree_overlay_laws.specs.TreeSteps.{InTree, StaysUsed, grow_levels, split_levels}
use Rattle.mg_tree_overlay_laws.specs.TreeBatches.{ChangesTree, EntryChange, IsNoInventory, beside, done, grows, inventory_of, leaf, splits}
use Rattle.mg_tree_overlay_laws.specs.GrowParts.{unused_fresh}
use Rattle.mg_tree_overlay_laws.specs.PoolLaws.{beside_tree}
use Rattle.mg_btree.specs.Changing.{HasNoInventory}
use Rattle.mg_btree.specs.RowOrderLaws.{RoomRow, takes_room}

-- what a row of steps used is used still
pub row_used : (size owner root : ℕ) (batch : ℕ → Option (List ℕ)) (orders : Orders)
    (change : EntryChange) (pool last : Pages) (levels ends : List (List ℕ))
    → ChangesTree size owner root batch orders change pool levels last ends → StaysUsed size pool last
row_used size owner root batch orders change pool last levels ends (done v ls) = λ m used. used
row_used size owner root batch orders change pool last levels ends
    (beside v next w ls es n others used some fresh more) = λ m is.
    row_used size owner root batch orders change next last levels ends more m (used m is)
row_used size owner root batch orders change pool last levels ends
    (splits v split named w ls es l r p e is order no_l no_p below fresh more) = λ m used.
    row_used size owner root batch orders change named last (split_levels l r levels) ends more m
    (is.rewrites.used m (is.splits.used m used))
row_used size owner root batch orders change pool last levels ends
    (grows v grown w ls es a b is order no_root more) = λ m used.
    row_used size owner root batch orders change grown last (grow_levels root a b levels) ends more m
    (is.used m used)
row_used size owner root batch orders change pool last levels ends
    (leaf v next w ls es n is low entries some no_inventory more) = λ m used.
    row_used size owner root batch orders change next last levels ends more m (is.used m used)

pub no_true : (b : Bool) → b ≡ false → b ≡ true → ⊥
no_true b is other = absurd cc

-- what is not used was not used before
pub unused_before : (size : ℕ) (old new : Pages) (n : ℕ) → StaysUsed size old new
    → is_used size new n ≡ false → is_used size old n ≡ false
unused_before size old new n stays is = at (is_used size old n) refl
  where
    at : (b : Bool) → is_used size old n ≡ b → b ≡ false
    at false same = refl
    at true same = absurd (no_true (is_used size new n) is (stays n same))

module _ (g : Geometry) (lawful : IsGeometry g) (owner root : ℕ) (levels : List (List ℕ))
    (no_inventory : HasNoInventory g.size levels) (old new : Pages) (n : ℕ) (takes : TakesPage g old new n)
    (tree : IsTree g.size old owner root levels) where
  pub taken_used : StaysUsed g.size old new
  taken_used = takes_keeps g old new n lawful takes

  pub taken_here : is_used g.size new n ≡ true
  taken_here = takes_bit g old new n lawful takes

  pub taken_fresh : InTree levels n → ⊥
  taken_fresh = unused_fresh g.size old owner levels n tree.nodes
      (no_true (is_used g.size old n) takes.free.unused)

  -- the inventory page is none of the tree
  pub taken_beside : InTree levels (inventory_of g.size n) → ⊥
  taken_beside placed = no_inventory (inventory_of g.size n) placed n refl

  pub taken_same : (m : ℕ) → IsNoInventory g.size m → new m ≡ old m
  taken_same m none = takes.others m (λ same. none n (sym same))

  pub taken_tree : IsTree g.size new owner root levels
  taken_tree = beside_tree g.size old new owner root levels (inventory_of g.size n) takes.others taken_used
      taken_beside tree

  pub taken_none : IsNoInventory g.size n
  taken_none m = takes.free.no_inventory (m / bits g.size)

  pub taken_below : n < GREATEST_LIMIT
  taken_below = let below = takes.free.below in omega (arith, below)

  -- the step of its inventory page
  pub taken_room : (batch : ℕ → Option (List ℕ)) (orders : Orders) (change : EntryChange) (last : Pages)
      (ends : List (List ℕ)) (e first : Entry) (added : List Order) (taken : List ℕ) (at_end : List (List ℕ))
      → batch (inventory_of g.size n) ≢ None → InTree at_end n
      → RoomRow g owner root batch orders change new levels last ends e first added (n ∷ taken) at_end
      → RoomRow g owner root batch orders change old levels last ends e first added taken at_end
  taken_room batch orders change last ends e first added taken at_end some placed more = takes_room g owner root
      batch orders change old new last levels ends (inventory_of g.size n) e first added taken at_end
      takes.others taken_used some taken_beside
      (record { page = n; takes = takes; marks = refl; placed = placed }) more
