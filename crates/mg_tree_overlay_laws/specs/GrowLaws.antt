-- The root of a tree splits: its content stands on two pages that are in place, and the root comes
-- to name them. And what is beside a tree changes.
use Rattle.std.proofs.Common.{◌≡◌, ◌≢◌, ◌⊎◌, inl, inr, ◌∙◌, ap, refl, sym, subst, ◌<◌, ◌≤◌, ℕ, suc, false, List, [], ◌∷◌, Some, None, length, arith}
use Rattle.std.proofs.lemmas.Bool.{cases_eq, ne_eqb}
use Rattle.mg_node.specs.NodePage.{entries_of, has_high, has_low, high_of, level_in, low_of, right_in}
use Rattle.mg_image.specs.Form.{Pages}
use Rattle.mg_image.specs.Indexes.{AreNodes, EachPage, HasChildren, IsNode, IsTree, LevelChain, Levels, above, as_fence, first_child, first_level, lowest}
use Rattle.mg_image.specs.Tables.{Has, ended, goes}
use Rattle.mg_tree_overlay_laws.specs.EntryLaws.{apart_without_high, apart_without_low}
use Rattle.mg_tree_overlay_laws.specs.SplitLaws.{children_left, children_right}
use Rattle.mg_tree_overlay_laws.specs.StepLaws.{children_stay, each_has, first_child_in, first_in, has_some, node_stays}
use Rattle.mg_tree_overlay_laws.specs.TreeSteps.{Grows, InTree, StaysUsed, grow_levels}

-- ---- pages that are all as before

-- these levels stay where their pages do
pub levels_stay : (size : ℕ) (old new : Pages) (owner first : ℕ) (levels : List (List ℕ))
    → ((m : ℕ) → InTree levels m → new m ≡ old m) → first ≢ 0 → AreNodes size old owner levels
    → Levels old first levels → Levels new first levels
levels_stay size old new owner first levels same some nodes (lowest m level chain) =
    lowest m level (chain_stays m level (λ k has. same k (inl has)) chain)
  where
    chain_stays : (first : ℕ) (ns : List ℕ) → ((m : ℕ) → Has ns m → new m ≡ old m)
        → LevelChain old first ns → LevelChain new first ns
    chain_stays first ns same ended = ended
    chain_stays first ns same (goes n ms some more) = goes n ms some
        (subst (λ (k : ℕ). LevelChain new k ms) (sym (ap right_in (same n (inl refl))))
        (chain_stays (right_in (old n)) ms (λ m has. same m (inr has)) more))
levels_stay size old new owner first levels same some nodes (above m level next below chain more) =
    let here = first_in (λ k. right_in (old k)) m level chain some in
    let child = first_child_in size old owner (suc (length below)) next m (omega arith)
    (each_has (IsNode size old owner (suc (length below)) next) level m here nodes.0) in
    above m level next below (chain_stays m level (λ k has. same k (inl has)) chain)
    (subst (λ (k : ℕ). Levels new k (next ∷ below))
    (sym (ap (λ (page : List ℕ). first_child (entries_of page)) (same m (inl here))))
    (levels_stay size old new owner (first_child (entries_of (old m))) (next ∷ below)
    (λ k has. same k (inr has)) (child_some m next below child more) nodes.1 more))
  where
    chain_stays : (first : ℕ) (ns : List ℕ) → ((m : ℕ) → Has ns m → new m ≡ old m)
        → LevelChain old first ns → LevelChain new first ns
    chain_stays first ns same ended = ended
    chain_stays first ns same (goes n ms some more) = goes n ms some
        (subst (λ (k : ℕ). LevelChain new k ms) (sym (ap right_in (same n (inl refl))))
        (chain_stays (right_in (old n)) ms (λ m has. same m (inr has)) more))

    child_some : (m : ℕ) (next : List ℕ) (below : List (List ℕ)) → Has next (first_child (entries_of (old m)))
        → Levels old (first_child (entries_of (old m))) (next ∷ below) → first_child (entries_of (old m)) ≢ 0
    child_some m next below has (lowest k level chain) = has_some (λ j. right_in (old j)) k level k chain has
    child_some m next below has (above k level following lower chain more) =
        has_some (λ j. right_in (old j)) k level k chain has

-- each of these levels is a chain
abbrev pub AreChains : Pages → List (List ℕ) → Type 0
AreChains pages [] = Unit {0}
AreChains pages (level ∷ levels) = ((first : ℕ) × LevelChain pages first level) × AreChains pages levels

pub chains_of : (pages : Pages) (n : ℕ) (levels : List (List ℕ)) → Levels pages n levels
    → AreChains pages levels
chains_of pages n levels (lowest m level chain) = ((m, chain), tt)
chains_of pages n levels (above m level next below chain more) =
    ((m, chain), chains_of pages (first_child (entries_of (pages m))) (next ∷ below) more)

-- and so do what their pages say of others
pub nodes_stay : (size : ℕ) (old new : Pages) (owner : ℕ) (levels : List (List ℕ))
    → ((m : ℕ) → InTree levels m → new m ≡ old m) → StaysUsed size old new
    → AreChains old levels → AreNodes size old owner levels → AreNodes size new owner levels
nodes_stay size old new owner [] same used chains nodes = tt
nodes_stay size old new owner (level ∷ below) same used chains nodes = (
  each chains.0.0 level (λ m has. same m (inl has)) chains.0.1 nodes.0,
  nodes_stay size old new owner below (λ m has. same m (inr has)) used chains.1 nodes.1,
)
  where
    first_below : (levels : List (List ℕ)) (m : ℕ) → Has (first_level levels) m → InTree levels m
    first_below [] m has = absurd has
    first_below (next ∷ rest) m has = inl has

    each : (first : ℕ) (ns : List ℕ) → ((m : ℕ) → Has ns m → new m ≡ old m) → LevelChain old first ns
        → EachPage (IsNode size old owner (length below) (first_level below)) ns
        → EachPage (IsNode size new owner (length below) (first_level below)) ns
    each first ns here ended nodes = tt
    each first ns here (goes n ms some more) nodes = (
      node_stays size old new owner (length below) (first_level below) (first_level below) n
          (here n (inl refl)) used
          (λ right. ap low_of (here (right_in (old n))
          (inr (first_in (λ k. right_in (old k)) (right_in (old n)) ms more right))))
          (λ m has. (has, ap low_of (same m (inr (first_below below m has))))) nodes.0,
      each (right_in (old n)) ms (λ m has. here m (inr has)) more nodes.1,
    )

-- what changes beside a tree leaves it
pub tree_beside : (size : ℕ) (old new : Pages) (owner root : ℕ) (levels : List (List ℕ))
    → ((m : ℕ) → InTree levels m → new m ≡ old m) → StaysUsed size old new
    → IsTree size old owner root levels → IsTree size new owner root levels
tree_beside size old new owner root levels same used tree = record {
  rooted = tree.rooted;
  levels_from = levels_stay size old new owner root levels same tree.rooted tree.nodes tree.levels_from;
  nodes = nodes_stay size old new owner levels same used (chains_of old root levels tree.levels_from) tree.nodes;
  root_low = ap has_low (same root (root_in root levels tree.rooted tree.levels_from)) ∙ tree.root_low;
  root_right = ap right_in (same root (root_in root levels tree.rooted tree.levels_from)) ∙ tree.root_right;
}
  where
    root_in : (root : ℕ) (levels : List (List ℕ)) → root ≢ 0 → Levels old root levels → InTree levels root
    root_in root levels some (lowest m level chain) = inl (first_in (λ k. right_in (old k)) m level chain some)
    root_in root levels some (above m level next below chain more) =
        inl (first_in (λ k. right_in (old k)) m level chain some)

-- ---- the root splits

-- pages of lower levels are not the root
pub lower_apart : (size : ℕ) (pages : Pages) (owner root : ℕ) (levels : List (List ℕ))
    → AreNodes size pages owner levels → length levels ≤ level_in (pages root) → (m : ℕ)
    → InTree levels m → m ≢ root
lower_apart size pages owner root [] nodes low m has = absurd has
lower_apart size pages owner root (level ∷ below) nodes low m (inl has) =
    let node = each_has (IsNode size pages owner (length below) (first_level below)) level m has nodes.0 in
    let on_level = node.on_level in
    λ same. let as_one : level_in (pages m) ≡ level_in (pages root) = ap (λ (k : ℕ). level_in (pages k)) same in
    omega arith
lower_apart size pages owner root (level ∷ below) nodes low m (inr later) =
    lower_apart size pages owner root below nodes.1 (omega arith) m later

no_low : (page : List ℕ) → has_low page ≡ false → low_of page ≡ None
no_low page is = rw is refl

no_high : (page : List ℕ) → has_high page ≡ false → high_of page ≡ None
no_high page is = rw is refl

module _ (size : ℕ) (old new : Pages) (owner root a b : ℕ) (is : Grows size old new owner root a b) where
  a_same : new a ≡ old a
  a_same = is.others a is.apart.0

  b_same : new b ≡ old b
  b_same = is.others b is.apart.1

  low_same : has_low (old root) ≡ false → (m : ℕ) → low_of (new m) ≡ low_of (old m)
  low_same bare m = at (cases_eq m root)
    where
      at : (m ≡ root) ⊎ (m ≢ root) → low_of (new m) ≡ low_of (old m)
      at (inl same) = rw same (no_low (new root) is.root_low ∙ sym (no_low (old root) bare))
      at (inr other) = ap low_of (is.others m other)

  a_node : (level : ℕ) (below : List ℕ) → has_low (old root) ≡ false
      → IsNode size old owner level below root → IsNode size new owner level below a
  a_node level below bare node = record {
    wanted = record {
      below = is.a_wanted.below;
      used = is.used a is.a_wanted.used;
      fields = rw a_same is.a_wanted.fields;
    };
    lawful = rw a_same is.a_lawful;
    on_level = ap level_in a_same ∙ (is.a_level ∙ node.on_level);
    two = λ inner. rw a_same (is.a_two (subst (λ (k : ℕ). 0 < k) (sym node.on_level) inner));
    children = λ inner. rw (a_same, is.a_is) (children_stay old new below below (low_of (old a))
        (is.first ∷ is.kept) (λ m has. (has, low_same bare m))
        (children_left old below (low_of (old a)) is.first is.kept (is.given ∷ is.rest)
        (rw (no_low (old a) is.a_low) (rw (no_low (old root) bare, is.was) at (node.children inner)))));
    high = ap has_high a_same ∙ (is.a_high ∙ sym (rw (a_same, is.a_right, ne_eqb b 0 is.some.2) refl));
    fence = λ some. ap (λ (k : ℕ). low_of (new k)) (ap right_in a_same ∙ is.a_right)
        ∙ (low_same bare b ∙ (sym is.middle ∙ ap high_of (sym a_same)));
    apart = rw a_same (apart_without_low (low_of (old a)) (high_of (old a)) (no_low (old a) is.a_low));
  }

  b_node : (level : ℕ) (below : List ℕ) → has_low (old root) ≡ false
      → IsNode size old owner level below root → IsNode size new owner level below b
  b_node level below bare node = record {
    wanted = record {
      below = is.b_wanted.below;
      used = is.used b is.b_wanted.used;
      fields = rw b_same is.b_wanted.fields;
    };
    lawful = rw b_same is.b_lawful;
    on_level = ap level_in b_same ∙ (is.b_level ∙ node.on_level);
    two = λ inner. rw b_same (is.b_two (subst (λ (k : ℕ). 0 < k) (sym node.on_level) inner));
    children = λ inner. rw (b_same, is.b_is, is.fence) (children_stay old new below below
        (Some (as_fence is.given)) (is.given ∷ is.rest) (λ m has. (has, low_same bare m))
        (children_right old below (low_of (old root)) is.first is.kept is.given is.rest
        (subst (HasChildren old below (low_of (old root))) is.was (node.children inner))));
    high = ap has_high b_same ∙ (is.b_high ∙ sym (rw (b_same, is.b_right) refl));
    fence = λ some. absurd (some (ap right_in b_same ∙ is.b_right));
    apart = rw b_same (apart_without_high (low_of (old b)) (high_of (old b)) (no_high (old b) is.b_high));
  }

  root_node : (level : ℕ) (below : List ℕ) → has_low (old root) ≡ false
      → IsNode size old owner level below root → IsNode size new owner (suc level) (a ∷ b ∷ []) root
  root_node level below bare node = record {
    wanted = record {
      below = node.wanted.below;
      used = is.used root node.wanted.used;
      fields = is.root_fields;
    };
    lawful = is.root_lawful;
    on_level = is.root_level ∙ ap suc node.on_level;
    two = λ inner. is.root_two;
    children = λ inner. rw (is.root_is, no_low (new root) is.root_low) (
      inl is.a_child,
      ap (λ (k : ℕ). low_of (new k)) is.a_child ∙ (ap low_of a_same ∙ no_low (old a) is.a_low),
      (
        inr (inl is.b_child),
        ap (λ (k : ℕ). low_of (new k)) is.b_child ∙ (ap low_of b_same ∙ (is.fence ∙ ap Some (sym is.b_fence))),
        tt,
      ),
    );
    high = is.root_high ∙ sym (rw is.root_right refl);
    fence = λ some. absurd (some is.root_right);
    apart = apart_without_low (low_of (new root)) (high_of (new root)) (no_low (new root) is.root_low);
  }

  child_a : first_child (entries_of (new root)) ≡ a
  child_a = rw is.root_is is.a_child

  chain_ab : LevelChain new a (a ∷ b ∷ [])
  chain_ab = goes a (b ∷ []) is.some.1 (subst (λ (k : ℕ). LevelChain new k (b ∷ []))
      (sym (ap right_in a_same ∙ is.a_right)) (goes b [] is.some.2
      (subst (λ (k : ℕ). LevelChain new k []) (sym (ap right_in b_same ∙ is.b_right)) ended)))

  chain_root : LevelChain new root (root ∷ [])
  chain_root = goes root [] is.some.0 (subst (λ (k : ℕ). LevelChain new k []) (sym is.root_right) ended)

  levels_grow : (n : ℕ) (levels : List (List ℕ)) → n ≡ root → AreNodes size old owner levels
      → Levels old n levels → Levels new root (grow_levels root a b levels)
  levels_grow n levels same nodes (lowest m level chain) = above root (root ∷ []) (a ∷ b ∷ []) [] chain_root
      (subst (λ (k : ℕ). Levels new k ((a ∷ b ∷ []) ∷ [])) (sym child_a) (lowest a (a ∷ b ∷ []) chain_ab))
  levels_grow n levels same nodes (above m level next below chain more) =
      let some : m ≢ 0 = λ zero_. is.some.0 (sym same ∙ zero_) in
      let here = each_has (IsNode size old owner (suc (length below)) next) level m
      (first_in (λ k. right_in (old k)) m level chain some) nodes.0 in
      let on_level = here.on_level in
      let child = first_child_in size old owner (suc (length below)) next m (omega arith) here in
      let lower : Levels new (first_child (entries_of (old m))) (next ∷ below) =
      levels_stay size old new owner (first_child (entries_of (old m))) (next ∷ below)
      (λ k has. is.others k (lower_apart size old owner root (next ∷ below) nodes.1
      (subst (λ (k : ℕ). suc (length below) ≤ level_in (old k)) same (omega arith)) k has))
      (child_some m next below child more) nodes.1 more in
      above root (root ∷ []) (a ∷ b ∷ []) (next ∷ below) chain_root
      (subst (λ (k : ℕ). Levels new k ((a ∷ b ∷ []) ∷ next ∷ below)) (sym child_a)
      (above a (a ∷ b ∷ []) next below chain_ab
      (subst (λ (k : ℕ). Levels new k (next ∷ below)) (child_is m same) lower)))
    where
      child_some : (m : ℕ) (next : List ℕ) (below : List (List ℕ)) → Has next (first_child (entries_of (old m)))
          → Levels old (first_child (entries_of (old m))) (next ∷ below) → first_child (entries_of (old m)) ≢ 0
      child_some m next below has (lowest k level chain) = has_some (λ j. right_in (old j)) k level k chain has
      child_some m next below has (above k level following lower chain more) =
          has_some (λ j. right_in (old j)) k level k chain has

      child_is : (m : ℕ) → m ≡ root → first_child (entries_of (old m)) ≡ first_child (entries_of (new a))
      child_is m same = rw (same, is.was, a_same, is.a_is) refl

-- the root of a tree splits: it is a tree with one level more
pub tree_grown : (size : ℕ) (old new : Pages) (owner root a b : ℕ) (levels : List (List ℕ))
    → Grows size old new owner root a b → IsTree size old owner root levels
    → IsTree size new owner root (grow_levels root a b levels)
tree_grown size old new owner root a b [] is tree = absurd (none root [] tree.levels_from refl)
  where
    none : (n : ℕ) (levels : List (List ℕ)) → Levels old n levels → levels ≡ [] → ⊥
    none n levels (lowest m level chain) empty = cc
    none n levels (above m level next below chain more) empty = cc
tree_grown size old new owner root a b (top ∷ below) is tree = record {
  rooted = tree.rooted;
  levels_from = levels_grow size old new owner root a b is root (top ∷ below) refl tree.nodes tree.levels_from;
  nodes = (
    (root_node size old new owner root a b is (length below) (first_level below) tree.root_low here, tt),
    (
      (
        a_node size old new owner root a b is (length below) (first_level below) tree.root_low here,
        (b_node size old new owner root a b is (length below) (first_level below) tree.root_low here, tt),
      ),
      nodes_stay size old new owner below
          (λ m has. is.others m (lower_apart size old owner root below tree.nodes.1 level m has))
          is.used (chains_of old root (top ∷ below) tree.levels_from).1 tree.nodes.1,
    ),
  );
  root_low = is.root_low;
  root_right = is.root_right;
}
  where
    here : IsNode size old owner (length below) (first_level below) root
    here = each_has (IsNode size old owner (length below) (first_level below)) top root
        (top_has root (top ∷ below) is.some.0 tree.levels_from) tree.nodes.0
      where
        top_has : (n : ℕ) (levels : List (List ℕ)) → n ≢ 0 → Levels old n levels → Has (first_level levels) n
        top_has n levels some (lowest m level chain) = first_in (λ k. right_in (old k)) m level chain some
        top_has n levels some (above m level next lower chain more) =
            first_in (λ k. right_in (old k)) m level chain some

    level : length below ≤ level_in (old root)
    level = let on_level = here.on_level in omega arith
