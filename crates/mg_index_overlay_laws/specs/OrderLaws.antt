-- Insertions into several indexes, one after another, close no cycle.
use Rattle.std.proofs.Common.{◌≡◌, ◌⊎◌, inl, inr, sym, subst, ℕ, true, false, List, [], ◌∷◌}
use Rattle.mg_careful.specs.declared.graph.Order.{Order}
use Rattle.mg_image.specs.Form.{Pages}
use Rattle.mg_image.specs.Indexes.{AreNodes, IsNode, first_level}
use Rattle.mg_image.specs.Inventory.{is_used}
use Rattle.mg_pool.specs.Batch.{content_in, lists}
use Rattle.mg_tree_overlay_laws.specs.GrowParts.{unused_fresh}
use Rattle.mg_tree_overlay_laws.specs.StepLaws.{each_has}
use Rattle.mg_tree_overlay_laws.specs.TreeSteps.{InTree}
use Rattle.mg_tree_overlay_laws.specs.TreeBatches.{Add}
use Rattle.mg_btree.specs.AheadLaws.{ahead_to}
use Rattle.mg_btree.specs.ClimbLaws.{closes_no_cycle, row_climbs}
use Rattle.mg_btree.specs.Climbing.{Climbs, IsAhead, IsInventory}
use Rattle.mg_btree.specs.EachOrderLaws.{each_append, each_more}
use Rattle.mg_btree.specs.Ordering.{EachOrder}
use Rattle.mg_btree.specs.RowOrders.{row_orders}
use Rattle.mg_btree.specs.TakeLaws.{no_true, row_used}
use Rattle.mg_index_overlay_laws.specs.IndexOrders.{InsertionsBeginBeside, InsertionsCloseNoCycle, IsBesideIndex}

-- a page of a tree is used
tree_used : (size : ℕ) (pages : Pages) (owner : ℕ) (levels : List (List ℕ)) (n : ℕ)
    → AreNodes size pages owner levels → InTree levels n → is_used size pages n ≡ true
tree_used size pages owner [] n nodes has = absurd has
tree_used size pages owner (level ∷ below) n nodes (inl here) =
    (each_has (IsNode size pages owner _ (first_level below)) level n here nodes.0).wanted.used
tree_used size pages owner (level ∷ below) n nodes (inr later) =
    tree_used size pages owner below n nodes.1 later

pub insertions_begin_beside : InsertionsBeginBeside
insertions_begin_beside size old new earlier batch t u e tree other apart puts begins =
    subst (EachOrder (λ a b. IsBesideIndex size new u a)) (sym puts.adds)
    (each_append (λ a b. IsBesideIndex size new u a) earlier.orders added
    (each_more (λ a b. IsBesideIndex size old u a) (λ a b. IsBesideIndex size new u a) earlier.orders
    (λ a b. earlier_still a) begins)
    (each_more (Climbs size puts.ends) (λ a b. IsBesideIndex size new u a) added
    (λ a b climbs. own a b climbs.1)
    (row_climbs size t.owner t.root (content_in batch.pages) (lists batch.orders) (Add e) old new
    t.levels puts.ends puts.row tree)))
  where
    added : List Order
    added = row_orders size t.owner t.root (content_in batch.pages) (lists batch.orders) (Add e) old new
        t.levels puts.ends puts.row

    earlier_still : (n : ℕ) → IsBesideIndex size old u n → IsBesideIndex size new u n
    earlier_still n (inl inventory) = inl inventory
    earlier_still n (inr (used, out)) = inr (
      row_used size t.owner t.root (content_in batch.pages) (lists batch.orders) (Add e) old new t.levels
          puts.ends puts.row n used,
      out,
    )

    outside : (n : ℕ) → InTree puts.ends n → InTree u.levels n → ⊥
    outside n here there = at (puts.fresh n here)
      where
        at : InTree t.levels n ⊎ (is_used size old n ≡ false) → ⊥
        at (inl placed) = apart n placed there
        at (inr free) = unused_fresh size old u.owner u.levels n other.nodes
            (no_true (is_used size old n) free) there

    own : (n later : ℕ) → IsInventory size n ⊎ IsAhead puts.ends later n → IsBesideIndex size new u n
    own n later (inl inventory) = inl inventory
    own n later (inr ahead) =
        let placed = ahead_to puts.ends later n ahead in
        inr (tree_used size new t.owner puts.ends n puts.tree.nodes placed, outside n placed)

pub insertions_close_no_cycle : InsertionsCloseNoCycle
insertions_close_no_cycle size old new earlier batch u e tree puts none begins =
    closes_no_cycle size old new earlier batch u.owner u.root u.levels e tree puts none
    (each_more (λ a b. IsBesideIndex size old u a) (λ a b. InTree puts.ends a → ⊥) earlier.orders
    (λ a b. off a) begins)
  where
    off : (n : ℕ) → IsBesideIndex size old u n → InTree puts.ends n → ⊥
    off n (inl (m, same)) placed = puts.no_inventory n placed m same
    off n (inr (used, out)) placed = at (puts.fresh n placed)
      where
        at : InTree u.levels n ⊎ (is_used size old n ≡ false) → ⊥
        at (inl there) = out there
        at (inr free) = no_true (is_used size old n) free used
