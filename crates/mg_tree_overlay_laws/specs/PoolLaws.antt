-- The same row of steps is one of the pool's own tree: which entries are found in it afterwards.
use Rattle.std.proofs.Common.{◌≡◌, ◌≢◌, ◌⊎◌, inl, inr, ap, refl, sym, subst, ℕ, List, [], ◌∷◌, Option, arith}
use Rattle.mg_careful.specs.Precedence.{Orders}
use Rattle.mg_node.specs.declared.entry.Entry.{Entry}
use Rattle.mg_node.specs.NodePage.{entries_of, level_in}
use Rattle.mg_image.specs.Form.{Pages}
use Rattle.mg_image.specs.Indexes.{AreNodes, Finds, HasEntry, IsNode, IsTree}
use Rattle.mg_image.specs.Tables.{Has}
use Rattle.mg_tree_overlay_laws.specs.TreeSteps.{Grows, InTree, Rewrites, StaysUsed, Under, grow_levels, split_levels}
use Rattle.mg_tree_overlay_laws.specs.TreesBehind.{InLeaves, IsTreeBehind, SplitsNamed, leaves}
use Rattle.mg_tree_overlay_laws.specs.TreeBatches.{ChangesEntries, ChangesTree, EntryChange, HasChanged, IsAdded, beside, done, grows, leaf, splits}
use Rattle.mg_tree_overlay_laws.specs.StepLaws.{each_has}
use Rattle.mg_tree_overlay_laws.specs.SplitLaws.{tree_split}
use Rattle.mg_tree_overlay_laws.specs.RewriteLaws.{leaf_keeps, names_keep, tree_rewritten}
use Rattle.mg_tree_overlay_laws.specs.GrowLaws.{tree_beside, tree_grown}
use Rattle.mg_tree_overlay_laws.specs.LeafLaws.{grown_back, grown_finds, leaves_in, pages_as, rewritten_back, rewritten_finds, split_back, split_finds}
use Rattle.mg_tree_overlay_laws.specs.FoundLaws.{found_in_leaves, leaves_found}
use Rattle.mg_tree_overlay_laws.specs.SplitParts.{under_left, under_split}
use Rattle.mg_tree_overlay_laws.specs.KeptLaws.{keeps_found}

-- the pages of the last level are leaves
pub leaf_level : (size : ℕ) (pages : Pages) (owner : ℕ) (levels : List (List ℕ)) (n : ℕ)
    → AreNodes size pages owner levels → Has (leaves levels) n → level_in (pages n) ≡ 0
leaf_level size pages owner [] n nodes has = absurd has
leaf_level size pages owner (level ∷ []) n nodes has =
    (each_has (IsNode size pages owner 0 []) level n has nodes.0).on_level
leaf_level size pages owner (level ∷ next ∷ below) n nodes has =
    leaf_level size pages owner (next ∷ below) n nodes.1 has

-- what is found was found, or is something else, as the leaves say
pub only_found : (A : Type 0) (size owner root : ℕ) (old new : Pages) (levels ends : List (List ℕ))
    (f : Entry) → IsTree size old owner root levels → IsTree size new owner root ends
    → (InLeaves new ends f → InLeaves old levels f ⊎ A) → Finds new f root → Finds old f root ⊎ A
only_found A size owner root old new levels ends f was is back found =
    at (back (found_in_leaves size new owner root ends f is found))
  where
    at : InLeaves old levels f ⊎ A → Finds old f root ⊎ A
    at (inl on) = inl (leaves_found size old owner root levels f was on)
    at (inr other) = inr other

or_none : (A B : Type 0) → A ⊎ ⊥ → A ⊎ B
or_none A B (inl is) = inl is
or_none A B (inr none) = absurd none

left_one : (A : Type 0) → A ⊎ ⊥ → A
left_one A (inl is) = is
left_one A (inr none) = absurd none

-- ---- each step

pub beside_tree : (size : ℕ) (pool next : Pages) (owner root : ℕ) (levels : List (List ℕ)) (n : ℕ)
    → ((m : ℕ) → m ≢ n → next m ≡ pool m) → StaysUsed size pool next → (InTree levels n → ⊥)
    → IsTree size pool owner root levels → IsTree size next owner root levels
beside_tree size pool next owner root levels n others used fresh tree =
    tree_beside size pool next owner root levels
    (λ m has. others m (λ is. fresh (subst (InTree levels) is has))) used tree

pub leaf_tree : (size : ℕ) (pool next : Pages) (owner root n : ℕ) (levels : List (List ℕ))
    → Rewrites size pool next owner n → level_in (pool n) ≡ 0 → IsTree size pool owner root levels
    → IsTree size next owner root levels
leaf_tree size pool next owner root n levels is low tree =
    tree_rewritten size pool next owner n root levels is (leaf_keeps pool next n levels low) tree

pub split_tree : (size : ℕ) (pool split named : Pages) (owner root : ℕ) (levels : List (List ℕ))
    (l r p : ℕ) (e : Entry) → SplitsNamed size pool split named owner levels l r p e → root ≢ l
    → (InTree levels r → ⊥) → IsTree size pool owner root levels
    → IsTree size named owner root (split_levels l r levels)
split_tree size pool split named owner root levels l r p e is other fresh tree =
    let under = under_split l r p levels is.apart.1
    (under_left size pool split named owner levels l r p e is pool levels tree.nodes itself refl refl) in
    tree_rewritten size split named owner p root (split_levels l r levels) is.rewrites
    (names_keep split named p e (split_levels l r levels) is.names
    (subst (λ (k : ℕ). Under (λ below. Has below k) (split_levels l r levels) p) (sym is.child) under))
    (tree_split size pool split owner l r root levels is.splits other fresh tree)
  where
    itself : IsTreeBehind pool pool levels levels
    itself = record { within = λ n has. has; unnamed = λ n has. inr has }

-- the parent is no leaf, so what a leaf has stays as the split left it
module _ (size : ℕ) (pool split named : Pages) (owner root : ℕ) (levels : List (List ℕ)) (l r p : ℕ)
    (e : Entry) (is : SplitsNamed size pool split named owner levels l r p e) (other : root ≢ l)
    (fresh : InTree levels r → ⊥) (tree : IsTree size pool owner root levels)
  where
    abbrev halved : List (List ℕ)
    halved = split_levels l r levels

    no_leaf : Has (leaves halved) p → ⊥
    no_leaf has =
        let mid = tree_split size pool split owner l r root levels is.splits other fresh tree in
        let zero_ = leaf_level size split owner halved p mid.nodes has in
        let same : level_in (split p) ≡ level_in (pool p) = ap level_in (is.splits.others p is.apart.0) in
        let up = is.parent.level in omega (arith, zero_, same, up)

    split_changed : (change : EntryChange) → HasChanged size owner root change pool named halved
    split_changed change =
        let now = split_tree size pool split named owner root levels l r p e is other fresh tree in
        record {
          tree = now;
          keeps = λ f left. keeps_found size owner root pool named levels halved tree now (λ g on.
              rewritten_finds size split named owner p halved g is.rewrites (λ has. absurd (no_leaf has))
              (split_finds size pool split owner l r levels g is.splits on)) f;
          only = λ f. only_found (IsAdded change f) size owner root pool named levels halved f tree now (λ on.
              inl (split_back size pool split owner l r levels f is.splits
              (left_one (InLeaves split halved f) (rewritten_back ⊥ size split named owner p halved f is.rewrites
              (λ has. absurd (no_leaf has)) on))));
        }

grow_changed : (size : ℕ) (pool grown : Pages) (owner root a b : ℕ) (levels : List (List ℕ))
    (change : EntryChange) → Grows size pool grown owner root a b → IsTree size pool owner root levels
    → HasChanged size owner root change pool grown (grow_levels root a b levels)
grow_changed size pool grown owner root a b levels change is tree =
    let now = tree_grown size pool grown owner root a b levels is tree in
    record {
      tree = now;
      keeps = λ f left. keeps_found size owner root pool grown levels (grow_levels root a b levels) tree now
          (λ g on. grown_finds size pool grown owner root a b levels g is tree on) f;
      only = λ f. only_found (IsAdded change f) size owner root pool grown levels (grow_levels root a b levels)
          f tree now (λ on. inl (grown_back size pool grown owner root a b levels f is tree on));
    }

leaf_changed : (size : ℕ) (pool next : Pages) (owner root n : ℕ) (levels : List (List ℕ))
    (change : EntryChange) → Rewrites size pool next owner n → level_in (pool n) ≡ 0
    → ChangesEntries change (entries_of (pool n)) (entries_of (next n))
    → IsTree size pool owner root levels → HasChanged size owner root change pool next levels
leaf_changed size pool next owner root n levels change is low entries tree =
    let now = leaf_tree size pool next owner root n levels is low tree in
    record {
      tree = now;
      keeps = λ f left found. leaves_found size next owner root levels f now
          (rewritten_finds size pool next owner n levels f is (λ has. entries.keeps f left)
          (found_in_leaves size pool owner root levels f tree found));
      only = λ f. only_found (IsAdded change f) size owner root pool next levels levels f tree now
          (rewritten_back (IsAdded change f) size pool next owner n levels f is (λ has. entries.only f));
    }

beside_changed : (size : ℕ) (pool next : Pages) (owner root : ℕ) (levels : List (List ℕ)) (n : ℕ)
    (change : EntryChange) → ((m : ℕ) → m ≢ n → next m ≡ pool m) → StaysUsed size pool next
    → (InTree levels n → ⊥) → IsTree size pool owner root levels
    → HasChanged size owner root change pool next levels
beside_changed size pool next owner root levels n change others used fresh tree =
    let now = beside_tree size pool next owner root levels n others used fresh tree in
    record {
      tree = now;
      keeps = λ f left. keeps_found size owner root pool next levels levels tree now (λ g on.
          pages_as pool next (leaves levels) g (λ m has there.
          subst (λ (page : List ℕ). HasEntry (entries_of page) g) (sym (same m has)) there) on) f;
      only = λ f. only_found (IsAdded change f) size owner root pool next levels levels f tree now (λ on.
          inl (pages_as next pool (leaves levels) f (λ m has there.
          subst (λ (page : List ℕ). HasEntry (entries_of page) f) (same m has) there) on));
    }
  where
    same : (m : ℕ) → Has (leaves levels) m → next m ≡ pool m
    same m has = others m (λ is. fresh (subst (InTree levels) is (leaves_in levels m has)))

-- ---- the row

one_more : (size owner root : ℕ) (change : EntryChange) (pool next last : Pages)
    (levels ends : List (List ℕ)) → HasChanged size owner root change pool next levels
    → HasChanged size owner root change next last ends → HasChanged size owner root change pool last ends
one_more size owner root change pool next last levels ends first rest = record {
  tree = rest.tree;
  keeps = λ f left found. rest.keeps f left (first.keeps f left found);
  only = λ f found. at f (rest.only f found);
}
  where
    at : (f : Entry) → Finds next f root ⊎ IsAdded change f → Finds pool f root ⊎ IsAdded change f
    at f (inl found) = first.only f found
    at f (inr added) = inr added

pub pool_changed : (size owner root : ℕ) (batch : ℕ → Option (List ℕ)) (orders : Orders)
    (change : EntryChange) (pool last : Pages) (levels ends : List (List ℕ))
    → ChangesTree size owner root batch orders change pool levels last ends
    → IsTree size pool owner root levels → HasChanged size owner root change pool last ends
pool_changed size owner root batch orders change pool last levels ends (done v ls) tree = record {
  tree = tree;
  keeps = λ f left found. found;
  only = λ f found. inl found;
}
pool_changed size owner root batch orders change pool last levels ends
    (beside v next w ls es n others used some fresh more) tree =
    let step = beside_changed size pool next owner root levels n change others used fresh tree in
    one_more size owner root change pool next last levels ends step
    (pool_changed size owner root batch orders change next last levels ends more step.tree)
pool_changed size owner root batch orders change pool last levels ends
    (splits v split named w ls es l r p e is order no_l no_p below fresh more) tree =
    let step = split_changed size pool split named owner root levels l r p e is below fresh tree change in
    one_more size owner root change pool named last (split_levels l r levels) ends step
    (pool_changed size owner root batch orders change named last (split_levels l r levels) ends more step.tree)
pool_changed size owner root batch orders change pool last levels ends
    (grows v grown w ls es a b is order no_root more) tree =
    let step = grow_changed size pool grown owner root a b levels change is tree in
    one_more size owner root change pool grown last (grow_levels root a b levels) ends step
    (pool_changed size owner root batch orders change grown last (grow_levels root a b levels) ends more step.tree)
pool_changed size owner root batch orders change pool last levels ends
    (leaf v next w ls es n is low entries some no_inventory more) tree =
    let step = leaf_changed size pool next owner root n levels change is low entries tree in
    one_more size owner root change pool next last levels ends step
    (pool_changed size owner root batch orders change next last levels ends more step.tree)
