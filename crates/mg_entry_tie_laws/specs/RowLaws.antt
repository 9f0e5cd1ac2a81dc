-- What holds of pages across a row of steps of a tree, where it holds across each step: a page is taken for the tree, or
-- a page of the tree changes.
use Rattle.std.proofs.Common.{◌≡◌, ◌≢◌, ◌⊎◌, inl, inr, sym, subst, ◌/◌, ℕ, true, List, [], ◌∷◌, Option, length}
use Rattle.mg_base.specs.declared.geometry.Geometry.{Geometry}
use Rattle.mg_careful.specs.Precedence.{Orders}
use Rattle.mg_image.specs.Form.{Pages}
use Rattle.mg_image.specs.Indexes.{AreNodes, IsNode, first_level}
use Rattle.mg_image.specs.Inventory.{is_used}
use Rattle.mg_image.specs.Tables.{Has}
use Rattle.mg_pip.specs.PipPage.{bits}
use Rattle.mg_tree_overlay_laws.specs.SplitParts.{tree_back}
use Rattle.mg_tree_overlay_laws.specs.StepLaws.{each_has}
use Rattle.mg_tree_overlay_laws.specs.TreeBatches.{ChangesTree, EntryChange, IsNoInventory, beside, done, grows, leaf, splits}
use Rattle.mg_tree_overlay_laws.specs.TreeSteps.{InTree, StaysUsed, grow_levels, split_levels}
use Rattle.mg_btree.specs.GrowingLaws.{grown_back}
use Rattle.mg_btree.specs.RowTakings.{TakesForTree, TakesItsPages}

-- a page of a tree is used
pub node_used : (size : ℕ) (pages : Pages) (owner : ℕ) (levels : List (List ℕ)) (n : ℕ)
    → AreNodes size pages owner levels → InTree levels n → is_used size pages n ≡ true
node_used size pages owner [] n nodes has = absurd has
node_used size pages owner (level ∷ below) n nodes (inl here) =
    (each_has (IsNode size pages owner _ (first_level below)) level n here nodes.0).wanted.used
node_used size pages owner (level ∷ below) n nodes (inr later) =
    node_used size pages owner below n nodes.1 later

-- One page of a tree changes, which is none of the page inventory: its content is one page long.
pub record ChangesPage (size : ℕ) (old new : Pages) (at_end : List (List ℕ)) : Type 0 where
  pub page : ℕ
  pub others : (m : ℕ) → m ≢ page → new m ≡ old m
  pub used : StaysUsed size old new
  pub len : length (new page) ≡ size
  pub placed : InTree at_end page
  pub no_inventory : IsNoInventory size page

-- Of the page inventory one page changes, by which a page is taken for the tree.
pub record TakesOne (g : Geometry) (old new : Pages) (at_end : List (List ℕ)) : Type 0 where
  pub inventory : ℕ
  pub others : (m : ℕ) → m ≢ inventory → new m ≡ old m
  pub takes : TakesForTree g old new inventory at_end

module _ (g : Geometry) (at_end : List (List ℕ)) (R : Pages → Pages → Type 0) (none : (pages : Pages) → R pages pages)
    (then_ : (a b c : Pages) → R a b → R b c → R a c)
    (changes : (a b : Pages) → ChangesPage g.size a b at_end → R a b)
    (takes_one : (a b : Pages) → TakesOne g a b at_end → R a b) (owner root : ℕ) (batch : ℕ → Option (List ℕ))
    (orders : Orders) (change : EntryChange) (root_in : InTree at_end root) where
  -- a page that was taken is one of the tree's, and none of the page inventory
  abbrev IsTaken : List ℕ → Type 0
  IsTaken taken = (n : ℕ) → Has taken n → InTree at_end n × IsNoInventory g.size n

  one_more : (n : ℕ) (taken : List ℕ) → InTree at_end n → IsNoInventory g.size n → IsTaken taken → IsTaken (n ∷ taken)
  one_more n taken placed no_inventory are m (inl same) =
      (subst (InTree at_end) (sym same) placed, subst (IsNoInventory g.size) (sym same) no_inventory)
  one_more n taken placed no_inventory are m (inr later) = are m later

  pub across_row : (pool last : Pages) (levels ends : List (List ℕ))
      (row : ChangesTree g.size owner root batch orders change pool levels last ends) (taken : List ℕ)
      → TakesItsPages g owner root batch orders change pool last levels ends row taken at_end
      → ((n : ℕ) → InTree levels n → InTree at_end n) → IsTaken taken → R pool last
  across_row pool last levels ends (done v ls) taken its within are = none pool
  across_row pool last levels ends (beside v next w ls es n others used some fresh more) taken (inl (it, rest)) within are =
      then_ pool next last (takes_one pool next (record { inventory = n; others = others; takes = it }))
      (across_row next last levels ends more (it.page ∷ taken) rest within
      (one_more it.page taken it.placed (λ m. it.takes.free.no_inventory (m / bits g.size)) are))
  across_row pool last levels ends (beside v next w ls es n others used some fresh more) taken (inr (has, len, rest)) within are =
      then_ pool next last (changes pool next (record {
        page = n;
        others = others;
        used = used;
        len = len;
        placed = (are n has).0;
        no_inventory = (are n has).1;
      })) (across_row next last levels ends more taken rest within are)
  across_row pool last levels ends (splits v split named w ls es l r p e is order no_l no_p below fresh more) taken
      (has, left_len, above_len, rest) within are =
      then_ pool split last (changes pool split (record {
        page = l;
        others = is.splits.others;
        used = is.splits.used;
        len = left_len;
        placed = within l is.parent.child;
        no_inventory = no_l;
      })) (then_ split named last (changes split named (record {
        page = p;
        others = is.rewrites.others;
        used = is.rewrites.used;
        len = above_len;
        placed = within p is.parent.parent;
        no_inventory = no_p;
      })) (across_row named last (split_levels l r levels) ends more taken rest
      (λ n placed. back n (tree_back l r levels n placed)) are))
    where
      back : (n : ℕ) → (n ≡ r) ⊎ InTree levels n → InTree at_end n
      back n (inl same) = subst (InTree at_end) (sym same) (are r has).0
      back n (inr placed) = within n placed
  across_row pool last levels ends (grows v grown w ls es a b is order no_root more) taken (of_a, of_b, high, len, rest)
      within are =
      then_ pool grown last (changes pool grown (record {
        page = root;
        others = is.others;
        used = is.used;
        len = len;
        placed = root_in;
        no_inventory = no_root;
      })) (across_row grown last (grow_levels root a b levels) ends more taken rest
      (λ n placed. back n (grown_back root a b levels n placed)) are)
    where
      back : (n : ℕ) → (n ≡ root) ⊎ ((n ≡ a) ⊎ ((n ≡ b) ⊎ InTree levels n)) → InTree at_end n
      back n (inl same) = subst (InTree at_end) (sym same) root_in
      back n (inr (inl same)) = subst (InTree at_end) (sym same) (are a of_a.0).0
      back n (inr (inr (inl same))) = subst (InTree at_end) (sym same) (are b of_b.0).0
      back n (inr (inr (inr placed))) = within n placed
  across_row pool last levels ends (leaf v next w ls es n is low entries some no_inventory more) taken (placed, len, rest)
      within are =
      then_ pool next last (changes pool next (record {
        page = n;
        others = is.others;
        used = is.used;
        len = len;
        placed = within n placed;
        no_inventory = no_inventory;
      })) (across_row next last levels ends more taken rest within are)
