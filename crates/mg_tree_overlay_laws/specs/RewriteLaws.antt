-- A page of a tree changes in place: its level, fences and right neighbour stay.
use Rattle.std.proofs.Common.{◌≡◌, ◌≢◌, ◌⊎◌, inl, inr, ◌∙◌, ap, refl, sym, subst, ◌<◌, ◌==◌, ℕ, suc, Bool, true, false, not, List, [], ◌∷◌, ◌++◌, Some, None, length, arith}
use Rattle.std.specs.Prelude.{if◌then◌else◌}
use Rattle.mg_node.specs.declared.entry.TheConstants.{CONTENT_AT}
use Rattle.std.proofs.lemmas.Bool.{cases_eq}
use Rattle.mg_node.specs.declared.entry.Entry.{Entry}
use Rattle.mg_node.specs.NodePage.{entries_of, entry_at, has_low, level_in, low_of, right_in}
use Rattle.mg_image.specs.Form.{Pages}
use Rattle.mg_image.specs.Indexes.{AreChildren, AreNodes, EachPage, HasChildren, IsNode, IsTree, LevelChain, Levels, above, first_child, first_level, lowest}
use Rattle.mg_image.specs.Tables.{Has, ended, goes}
use Rattle.mg_tree_overlay_laws.specs.StepLaws.{children_stay, each_has, first_child_in, first_in, has_some, node_stays, same_high}
use Rattle.mg_tree_overlay_laws.specs.TreeSteps.{KeepsChildren, Names, Rewrites, Under}

chain_same : (old new : Pages) (first : ℕ) (ns : List ℕ)
    → ((m : ℕ) → right_in (new m) ≡ right_in (old m)) → LevelChain old first ns → LevelChain new first ns
chain_same old new first ns same ended = ended
chain_same old new first ns same (goes n ms some more) = goes n ms some
    (subst (λ (k : ℕ). LevelChain new k ms) (sym (same n)) (chain_same old new (right_in (old n)) ms same more))

module _ (size : ℕ) (old new : Pages) (owner n : ℕ) (is : Rewrites size old new owner n) where
  low_same : (m : ℕ) → low_of (new m) ≡ low_of (old m)
  low_same m = at (cases_eq m n)
    where
      at : (m ≡ n) ⊎ (m ≢ n) → low_of (new m) ≡ low_of (old m)
      at (inl same) = rw same is.low
      at (inr other) = ap low_of (is.others m other)

  right_same : (m : ℕ) → right_in (new m) ≡ right_in (old m)
  right_same m = at (cases_eq m n)
    where
      at : (m ≡ n) ⊎ (m ≢ n) → right_in (new m) ≡ right_in (old m)
      at (inl same) = rw same is.right
      at (inr other) = ap right_in (is.others m other)

  node_rewritten : (level : ℕ) (below : List ℕ) → KeepsChildren old new n below
      → IsNode size old owner level below n → IsNode size new owner level below n
  node_rewritten level below keeps node = record {
    wanted = record {
      below = node.wanted.below;
      used = is.used n node.wanted.used;
      fields = is.fields;
    };
    lawful = is.lawful;
    on_level = is.level ∙ node.on_level;
    two = λ inner. is.two (subst (λ (k : ℕ). 0 < k) (sym node.on_level) inner);
    children = λ inner. rw is.low (children_stay old new below below (low_of (old n)) (entries_of (new n))
        (λ m has. (has, low_same m))
        (keeps (subst (λ (k : ℕ). 0 < k) (sym node.on_level) inner) (node.children inner)));
    high = same_high (new n) (old n) is.high ∙ (node.high ∙ ap (λ (k : ℕ). not (k == 0)) (sym is.right));
    fence = λ some. low_same (right_in (new n)) ∙ (ap (λ (k : ℕ). low_of (old k)) is.right
        ∙ (node.fence (λ zero_. some (is.right ∙ zero_)) ∙ sym is.high));
    apart = rw (is.low, is.high) node.apart;
  }

  each_rewritten : (level : ℕ) (below ns : List ℕ) → (Has ns n → KeepsChildren old new n below)
      → EachPage (IsNode size old owner level below) ns → EachPage (IsNode size new owner level below) ns
  each_rewritten level below [] keeps each = tt
  each_rewritten level below (m ∷ ms) keeps each =
      (at (cases_eq m n), each_rewritten level below ms (λ has. keeps (inr has)) each.1)
    where
      at : (m ≡ n) ⊎ (m ≢ n) → IsNode size new owner level below m
      at (inl same) = subst (IsNode size new owner level below) (sym same)
          (node_rewritten level below (keeps (inl (sym same)))
          (subst (IsNode size old owner level below) same each.0))
      at (inr other) = node_stays size old new owner level below below m (is.others m other) is.used
          (λ some. low_same (right_in (old m))) (λ k has. (has, low_same k)) each.0

  nodes_rewritten : (levels : List (List ℕ)) → Under (KeepsChildren old new n) levels n
      → AreNodes size old owner levels → AreNodes size new owner levels
  nodes_rewritten [] keeps nodes = tt
  nodes_rewritten (level ∷ below) keeps nodes = (
    each_rewritten (length below) (first_level below) level keeps.0 nodes.0,
    nodes_rewritten below keeps.1 nodes.1,
  )

  child_same : (m : ℕ) → 0 < level_in (old m) → first_child (entries_of (new m)) ≡ first_child (entries_of (old m))
  child_same m inner = at (cases_eq m n)
    where
      at : (m ≡ n) ⊎ (m ≢ n) → first_child (entries_of (new m)) ≡ first_child (entries_of (old m))
      at (inl same) = rw same (is.first (subst (λ (k : ℕ). 0 < level_in (old k)) same inner))
      at (inr other) = ap (λ (page : List ℕ). first_child (entries_of page)) (is.others m other)

  levels_rewritten : (first : ℕ) (levels : List (List ℕ)) → first ≢ 0
      → AreNodes size old owner levels → Levels old first levels → Levels new first levels
  levels_rewritten first levels some nodes (lowest m level chain) =
      lowest m level (chain_same old new m level right_same chain)
  levels_rewritten first levels some nodes (above m level next below chain more) =
      let here = each_has (IsNode size old owner (suc (length below)) next) level m
      (first_in (λ k. right_in (old k)) m level chain some) nodes.0 in
      let on_level = here.on_level in
      let child = first_child_in size old owner (suc (length below)) next m (omega arith) here in
      above m level next below (chain_same old new m level right_same chain)
      (subst (λ (k : ℕ). Levels new k (next ∷ below)) (sym (child_same m (omega arith)))
      (levels_rewritten (first_child (entries_of (old m))) (next ∷ below) (child_some m next below child more)
      nodes.1 more))
    where
      child_some : (m : ℕ) (next : List ℕ) (below : List (List ℕ)) → Has next (first_child (entries_of (old m)))
          → Levels old (first_child (entries_of (old m))) (next ∷ below) → first_child (entries_of (old m)) ≢ 0
      child_some m next below has (lowest k level chain) = has_some (λ j. right_in (old j)) k level k chain has
      child_some m next below has (above k level following lower chain more) =
          has_some (λ j. right_in (old j)) k level k chain has

-- a page changes in place, of a tree or of none: it is a tree with the same levels
pub tree_rewritten : (size : ℕ) (old new : Pages) (owner n root : ℕ) (levels : List (List ℕ))
    → Rewrites size old new owner n → Under (KeepsChildren old new n) levels n
    → IsTree size old owner root levels → IsTree size new owner root levels
tree_rewritten size old new owner n root levels is keeps tree = record {
  rooted = tree.rooted;
  levels_from = levels_rewritten size old new owner n is root levels tree.rooted tree.nodes tree.levels_from;
  nodes = nodes_rewritten size old new owner n is levels keeps tree.nodes;
  root_low = at (cases_eq root n);
  root_right = right_same size old new owner n is root ∙ tree.root_right;
}
  where
    without : (a b : List ℕ) → low_of a ≡ low_of b → has_low b ≡ false → has_low a ≡ false
    without a b same is =
        let none : low_of b ≡ None = rw is refl in one (has_low a) (same ∙ none)
      where
        one : (x : Bool) → (if x then Some (entry_at false a CONTENT_AT) else None) ≡ None → x ≡ false
        one false e = refl
        one true e = absurd cc

    at : (root ≡ n) ⊎ (root ≢ n) → has_low (new root) ≡ false
    at (inl same) = rw same (without (new n) (old n) is.low (subst (λ (k : ℕ). has_low (old k) ≡ false) same tree.root_low))
    at (inr other) = ap has_low (is.others root other) ∙ tree.root_low

-- ---- a leaf, and an inner page that gets a child

-- on a leaf nothing more is asked
pub leaf_keeps : (old new : Pages) (n : ℕ) (levels : List (List ℕ)) → level_in (old n) ≡ 0
    → Under (KeepsChildren old new n) levels n
leaf_keeps old new n [] leaf = tt
leaf_keeps old new n (level ∷ below) leaf =
    (λ has inner. absurd (omega (arith, leaf, inner)), leaf_keeps old new n below leaf)

pub names_keep : (old new : Pages) (n : ℕ) (e : Entry) (levels : List (List ℕ)) → Names old new n e
    → Under (λ below. Has below e.child.0) levels n → Under (KeepsChildren old new n) levels n
names_keep old new n e [] is under = tt
names_keep old new n e (level ∷ below) is under = (
  λ has inner children. rw is.is (more (first_level below) (under.0 has)
      (subst (HasChildren old (first_level below) (low_of (old n))) is.was children)),
  names_keep old new n e below is under.1,
)
  where
    put : (lower : List ℕ) → Has lower e.child.0 → (front : List Entry) → AreChildren old lower (front ++ is.back)
        → AreChildren old lower (front ++ e ∷ is.back)
    put lower has [] all = (has, is.fence, all)
    put lower has (f ∷ fs) all = (all.0, all.1, put lower has fs all.2)

    more : (lower : List ℕ) → Has lower e.child.0 → HasChildren old lower (low_of (old n)) (is.first ∷ is.front ++ is.back)
        → HasChildren old lower (low_of (old n)) (is.first ∷ is.front ++ e ∷ is.back)
    more lower has all = (all.0, all.1, put lower has is.front all.2)
