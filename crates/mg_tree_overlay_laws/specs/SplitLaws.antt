-- A page of a tree splits: the right page is in place, and the left one comes to name it.
use Rattle.std.proofs.Common.{◌≡◌, ◌≢◌, ◌⊎◌, inl, inr, ◌∙◌, ap, refl, sym, subst, ◌<◌, ◌==◌, ℕ, suc, Bool, true, false, not, List, [], ◌∷◌, ◌++◌, Option, Some, None, length, arith, eq-eqb}
use Rattle.std.specs.Prelude.{if◌then◌else◌}
use Rattle.std.proofs.lemmas.Bool.{cases_eq, ne_eqb}
use Rattle.mg_node.specs.declared.entry.Entry.{Entry}
use Rattle.mg_node.specs.NodePage.{entries_of, entry_at, has_high, has_low, high_at, high_of, level_in, low_of, right_in}
use Rattle.mg_image.specs.Form.{Pages}
use Rattle.mg_image.specs.Indexes.{AreChildren, AreNodes, EachPage, HasChildren, IsNode, IsTree, LevelChain, Levels, above, as_fence, first_child, first_level, lowest}
use Rattle.mg_image.specs.Tables.{Has, ended, goes}
use Rattle.mg_tree_overlay_laws.specs.EntryLaws.{apart_of_some}
use Rattle.mg_tree_overlay_laws.specs.StepLaws.{children_stay, each_has, first_child_in, first_in, has_some, has_wider, node_stays, same_high}
use Rattle.mg_tree_overlay_laws.specs.TreeSteps.{InTree, Splits, after, split_levels}

-- ---- the chain

chain_split : (size : ℕ) (old new : Pages) (owner l r : ℕ) → Splits size old new owner l r
    → (first : ℕ) (ns : List ℕ) → (Has ns r → ⊥) → LevelChain old first ns
    → LevelChain new first (after l r ns)
chain_split size old new owner l r is first ns fresh ended = ended
chain_split size old new owner l r is first ns fresh (goes n ms some more) =
    at (cases_eq n l) (chain_split size old new owner l r is (right_in (old n)) ms (λ has. fresh (inr has)) more)
  where
    at : (n ≡ l) ⊎ (n ≢ l) → LevelChain new (right_in (old n)) (after l r ms)
        → LevelChain new n (if n == l then n ∷ r ∷ after l r ms else n ∷ after l r ms)
    at (inl same) later = rw (eq-eqb n l same) (goes n (r ∷ after l r ms) some
        (subst (λ (k : ℕ). LevelChain new k (r ∷ after l r ms))
        (sym (ap (λ (m : ℕ). right_in (new m)) same ∙ is.goes_to))
        (goes r (after l r ms) is.some (subst (λ (k : ℕ). LevelChain new k (after l r ms))
        (ap (λ (m : ℕ). right_in (old m)) same ∙ (sym is.goes_on ∙ ap right_in (sym (is.others r is.apart)))) later))))
    at (inr other) later = rw (ne_eqb n l other) (goes n (after l r ms) some
        (subst (λ (k : ℕ). LevelChain new k (after l r ms)) (ap right_in (sym (is.others n other))) later))

-- ---- its pages

pub children_left : (pages : Pages) (below : List ℕ) (low : Option Entry) (x : Entry) (xs bs : List Entry)
    → HasChildren pages below low (x ∷ xs ++ bs) → HasChildren pages below low (x ∷ xs)
children_left pages below low x xs bs is = (is.0, is.1, front xs is.2)
  where
    front : (xs : List Entry) → AreChildren pages below (xs ++ bs) → AreChildren pages below xs
    front [] is = tt
    front (e ∷ es) is = (is.0, is.1, front es is.2)

pub children_right : (pages : Pages) (below : List ℕ) (low : Option Entry) (x : Entry) (xs : List Entry)
    (y : Entry) (bs : List Entry) → HasChildren pages below low (x ∷ xs ++ y ∷ bs)
    → HasChildren pages below (Some (as_fence y)) (y ∷ bs)
children_right pages below low x xs y bs is = back xs is.2
  where
    back : (xs : List Entry) → AreChildren pages below (xs ++ y ∷ bs)
        → HasChildren pages below (Some (as_fence y)) (y ∷ bs)
    back [] is = is
    back (e ∷ es) is = back es is.2

module _ (size : ℕ) (old new : Pages) (owner l r : ℕ) (is : Splits size old new owner l r) where
  right_same : new r ≡ old r
  right_same = is.others r is.apart

  -- the low fence of a page that was there before
  low_same : (m : ℕ) → low_of (new m) ≡ low_of (old m)
  low_same m = at (cases_eq m l)
    where
      at : (m ≡ l) ⊎ (m ≢ l) → low_of (new m) ≡ low_of (old m)
      at (inl same) = rw same is.low
      at (inr other) = ap low_of (is.others m other)

  left_node : (level : ℕ) (below : List ℕ) → IsNode size old owner level below l
      → IsNode size new owner level (after l r below) l
  left_node level below node = record {
    wanted = record {
      below = node.wanted.below;
      used = is.used l node.wanted.used;
      fields = is.left_fields;
    };
    lawful = is.left_lawful;
    on_level = is.left_level ∙ node.on_level;
    two = λ inner. is.left_two (subst (λ (k : ℕ). 0 < k) (sym node.on_level) inner);
    children = λ inner. rw (is.left_is, is.low) (children_stay old new below (after l r below) (low_of (old l))
        (is.first ∷ is.kept) (λ m has. (has_wider l r below m has, low_same m))
        (children_left old below (low_of (old l)) is.first is.kept (is.given ∷ is.rest)
        (subst (HasChildren old below (low_of (old l))) is.was (node.children inner))));
    high = same_fence ∙ ap (λ (k : ℕ). not (k == 0)) (sym is.goes_to);
    fence = λ some. ap (λ (k : ℕ). low_of (new k)) is.goes_to ∙ (low_same r ∙ sym is.middle);
    apart = apart_of_some (low_of (new l)) (high_of (new l)) (entries_of (new l)) is.first is.kept
        is.left_is is.left_lawful.between;
  }
    where
      there : (page : List ℕ) (fence : Entry) → high_of page ≡ Some fence → has_high page ≡ true
      there page fence is = at (has_high page) is
        where
          at : (b : Bool) → (if b then Some (entry_at false page (high_at page)) else None) ≡ Some fence
              → b ≡ true
          at true is = refl
          at false is = absurd cc

      same_fence : has_high (new l) ≡ not (r == 0)
      same_fence = there (new l) (as_fence is.given) (is.middle ∙ is.fence) ∙ rw (ne_eqb r 0 is.some) refl

  right_node : (level : ℕ) (below : List ℕ) → IsNode size old owner level below l
      → IsNode size new owner level (after l r below) r
  right_node level below node = record {
    wanted = record {
      below = is.right_wanted.below;
      used = is.used r is.right_wanted.used;
      fields = rw right_same is.right_wanted.fields;
    };
    lawful = rw right_same is.right_lawful;
    on_level = ap level_in right_same ∙ (is.right_level ∙ node.on_level);
    two = λ inner. rw right_same (is.right_two (subst (λ (k : ℕ). 0 < k) (sym node.on_level) inner));
    children = λ inner. rw (right_same, is.right_is, is.fence) (children_stay old new below (after l r below)
        (Some (as_fence is.given)) (is.given ∷ is.rest) (λ m has. (has_wider l r below m has, low_same m))
        (children_right old below (low_of (old l)) is.first is.kept is.given is.rest
        (subst (HasChildren old below (low_of (old l))) is.was (node.children inner))));
    high = ap has_high right_same ∙ (same_high (old r) (old l) is.high ∙ (node.high
        ∙ ap (λ (k : ℕ). not (k == 0)) (sym (ap right_in right_same ∙ is.goes_on))));
    fence = λ some. low_same (right_in (new r)) ∙ (ap (λ (k : ℕ). low_of (old k)) (ap right_in right_same ∙ is.goes_on)
        ∙ (node.fence (λ zero_. some (ap right_in right_same ∙ (is.goes_on ∙ zero_)))
        ∙ (sym is.high ∙ ap high_of (sym right_same))));
    apart = rw right_same (apart_of_some (low_of (old r)) (high_of (old r)) (entries_of (old r)) is.given
        is.rest is.right_is is.right_lawful.between);
  }

  each_split : (level : ℕ) (below ns : List ℕ) → EachPage (IsNode size old owner level below) ns
      → EachPage (IsNode size new owner level (after l r below)) (after l r ns)
  each_split level below [] each = tt
  each_split level below (n ∷ ns) each = at (cases_eq n l) (each_split level below ns each.1)
    where
      at : (n ≡ l) ⊎ (n ≢ l) → EachPage (IsNode size new owner level (after l r below)) (after l r ns)
          → EachPage (IsNode size new owner level (after l r below))
          (if n == l then n ∷ r ∷ after l r ns else n ∷ after l r ns)
      at (inl same) later =
          let here : IsNode size old owner level below l = subst (IsNode size old owner level below) same each.0 in
          rw (eq-eqb n l same) (
            subst (IsNode size new owner level (after l r below)) (sym same)
                (left_node level below here),
            (right_node level below here, later),
          )
      at (inr other) later = rw (ne_eqb n l other) (
        node_stays size old new owner level below (after l r below) n
            (is.others n other) is.used (λ some. low_same (right_in (old n)))
            (λ m has. (has_wider l r below m has, low_same m)) each.0,
        later,
      )

  length_split : (levels : List (List ℕ)) → length (split_levels l r levels) ≡ length levels
  length_split [] = refl
  length_split (level ∷ levels) = ap suc (length_split levels)

  first_split : (levels : List (List ℕ)) → first_level (split_levels l r levels) ≡ after l r (first_level levels)
  first_split [] = refl
  first_split (level ∷ levels) = refl

  nodes_split : (levels : List (List ℕ)) → AreNodes size old owner levels
      → AreNodes size new owner (split_levels l r levels)
  nodes_split [] nodes = tt
  nodes_split (level ∷ below) nodes = (
    rw (length_split below, first_split below) (each_split (length below) (first_level below) level nodes.0),
    nodes_split below nodes.1,
  )

  child_same : (n : ℕ) → n ≢ r → first_child (entries_of (new n)) ≡ first_child (entries_of (old n))
  child_same n other = at (cases_eq n l)
    where
      at : (n ≡ l) ⊎ (n ≢ l) → first_child (entries_of (new n)) ≡ first_child (entries_of (old n))
      at (inl same) = rw same (rw (is.left_is, is.was) refl)
      at (inr ne) = ap (λ (page : List ℕ). first_child (entries_of page)) (is.others n ne)

  levels_split : (n : ℕ) (levels : List (List ℕ)) → n ≢ 0 → (InTree levels r → ⊥)
      → AreNodes size old owner levels → Levels old n levels → Levels new n (split_levels l r levels)
  levels_split n levels some fresh nodes (lowest m level chain) = lowest m (after l r level)
      (chain_split size old new owner l r is m level (λ has. fresh (inl has)) chain)
  levels_split n levels some fresh nodes (above m level next below chain more) =
      let here = each_has (IsNode size old owner (suc (length below)) next) level m
      (first_in (λ k. right_in (old k)) m level chain some) nodes.0 in
      let child = first_child_in size old owner (suc (length below)) next m (omega arith) here in
      above m (after l r level) (after l r next) (split_levels l r below)
      (chain_split size old new owner l r is m level (λ has. fresh (inl has)) chain)
      (subst (λ (k : ℕ). Levels new k (after l r next ∷ split_levels l r below))
      (sym (child_same m (λ same. fresh (inl (subst (Has level) same (first_in (λ k. right_in (old k)) m level chain some))))))
      (levels_split (first_child (entries_of (old m))) (next ∷ below) (child_some m next below child more)
      (λ has. fresh (inr has)) nodes.1 more))
    where
      child_some : (m : ℕ) (next : List ℕ) (below : List (List ℕ)) → Has next (first_child (entries_of (old m)))
          → Levels old (first_child (entries_of (old m))) (next ∷ below) → first_child (entries_of (old m)) ≢ 0
      child_some m next below has (lowest k level chain) = has_some (λ j. right_in (old j)) k level k chain has
      child_some m next below has (above k level following lower chain more) = has_some (λ j. right_in (old j)) k level k chain has

-- a page of a tree splits, or one that is in no tree: it is a tree again, in which the right page
-- follows the left one
pub tree_split : (size : ℕ) (old new : Pages) (owner l r root : ℕ) (levels : List (List ℕ))
    → Splits size old new owner l r → root ≢ l → (InTree levels r → ⊥)
    → IsTree size old owner root levels → IsTree size new owner root (split_levels l r levels)
tree_split size old new owner l r root levels is other fresh tree = record {
  rooted = tree.rooted;
  levels_from = levels_split size old new owner l r is root levels tree.rooted fresh tree.nodes tree.levels_from;
  nodes = nodes_split size old new owner l r is levels tree.nodes;
  root_low = ap has_low (is.others root other) ∙ tree.root_low;
  root_right = ap right_in (is.others root other) ∙ tree.root_right;
}
