-- Each page of an index stays, so its tree and what is found by it stay.
use Rattle.mg_base.specs.Checks.{common_checks}
use Rattle.mg_base.specs.Fields.{byte}
use Rattle.mg_base.specs.declared.numbers.RecId.{RecId}
use Rattle.mg_image.specs.Form.{Form, Pages, Row}
use Rattle.mg_image.specs.Indexes.{AreChildren, AreNodes, AreTrees, EachPage, Finds, HasChildren, HasEntry, IsFoundIn, IsLastUpTo, IsNode, IsTree, LevelChain, Levels, above, first_child, first_level, index_entry, lowest}
use Rattle.mg_image.specs.Inventory.{is_used}
use Rattle.mg_image.specs.KeptPageLaws.{link_chain_kept}
use Rattle.mg_image.specs.Reached.{tips_of}
use Rattle.mg_image.specs.Sound.{HasTablePages}
use Rattle.mg_image.specs.Tables.{EachStand, Has, LinkChain, Stand, ended, goes, has, pages_of, stands_of, table_at, tree_pages}
use Rattle.mg_image_overlay_laws.specs.pages.DataPages.{all_passes, kind_of, used_kept}
use Rattle.mg_image_overlay_laws.specs.pages.Growth.{has_back, has_either, has_front, wanted_still}
use Rattle.mg_image_overlay_laws.specs.pages.Kinds.{HasNoSequences}
use Rattle.mg_image_overlay_laws.specs.kept.Rest.{LeavesRests, TreesStay}
use Rattle.mg_model.specs.declared.table.Index.{Index}
use Rattle.mg_model.specs.declared.table.Table.{Table}
use Rattle.mg_node.specs.NodePage.{count_in, entries_of, first_entries, has_high, high_of, level_in, low_of, node_checks, right_in}
use Rattle.mg_node.specs.declared.entry.Entry.{Entry}
use Rattle.std.proofs.Common.{Bool, List, None, Option, Some, [], ap, arith, false, inl, inr, length, not, refl, subst, suc, sym, true, zero, ℕ, ◌++◌, ◌<◌, ◌∙◌, ◌∷◌, ◌≡◌, ◌≢◌, ◌≤◌, ◌⊎◌}
use Rattle.std.proofs.lemmas.Bool.{eq-eqb}
use Rattle.std.specs.List.{flat_map}
use Rattle.std.specs.Prelude.{if◌then◌else◌}
use Rattle.mg_tree_overlay_laws.specs.TreePages.{all_of}
use Rattle.mg_image.specs.Indexes as trees

chain_first : (next : ℕ → ℕ) (k : ℕ) (ns : List ℕ) → LinkChain next k ns → (k ≡ 0) ⊎ Has ns k
chain_first next k ns ended = inl refl
chain_first next k ns (goes m ms some more) = inr (inl refl)

chain_next : (next : ℕ → ℕ) (k : ℕ) (ns : List ℕ) → LinkChain next k ns → (n : ℕ) → Has ns n
    → (next n ≡ 0) ⊎ Has ns (next n)
chain_next next k ns ended n is = absurd is
chain_next next k ns (goes m ms some more) n (inl e) =
    subst (λ (j : ℕ). (next j ≡ 0) ⊎ Has (m ∷ ms) (next j)) (sym e) (at (chain_first next (next m) ms more))
  where
    at : (next m ≡ 0) ⊎ Has ms (next m) → (next m ≡ 0) ⊎ Has (m ∷ ms) (next m)
    at (inl none) = inl none
    at (inr is) = inr (inr is)
chain_next next k ns (goes m ms some more) n (inr is) = at (chain_next next (next m) ms more n is)
  where
    at : (next n ≡ 0) ⊎ Has ms (next n) → (next n ≡ 0) ⊎ Has (m ∷ ms) (next n)
    at (inl none) = inl none
    at (inr is) = inr (inr is)

-- the chain of the first level
level_chain : (pages : Pages) (n : ℕ) (level : List ℕ) (below : List (List ℕ))
    → Levels pages n (level ∷ below) → LevelChain pages n level
level_chain pages n level below (lowest k l chain) = chain
level_chain pages n level below (above k l next ls chain more) = chain

-- a page with entries has a first one
no_last : (es : List Entry) (e : Entry) → es ++ (e ∷ []) ≡ [] → ⊥
no_last [] e is = cc
no_last (f ∷ es) e is = cc

some_entry : (page : List ℕ) → 2 ≤ count_in page → entries_of page ≡ [] → ⊥
unfolding entries_of
some_entry page most is = at (count_in page) most is
  where
    at : (n : ℕ) → 2 ≤ n → first_entries page n ≡ [] → ⊥
    at zero least none = omega (arith, least)
    at (suc n) least none = no_last (first_entries page n) _ none

module _ (size : ℕ) (old new : Pages) (owner : ℕ)
    (used : (m : ℕ) → is_used size old m ≡ true → is_used size new m ≡ true) where
  -- the chains of the levels
  abbrev pub Chains : List (List ℕ) → Type 0
  Chains [] = Unit {0}
  Chains (level ∷ levels) = ((first : ℕ) × LevelChain old first level) × Chains levels

  chains_of : (n : ℕ) (levels : List (List ℕ)) → Levels old n levels → Chains levels
  chains_of n levels (lowest k level chain) = ((k, chain), tt)
  chains_of n levels (above k level next below chain more) =
      ((k, chain), chains_of (first_child (entries_of (old k))) (next ∷ below) more)

  right_in_levels : (levels : List (List ℕ)) → Chains levels → (n : ℕ) → Has (all_of levels) n
      → (right_in (old n) ≡ 0) ⊎ Has (all_of levels) (right_in (old n))
  right_in_levels [] chains n is = absurd is
  right_in_levels (level ∷ levels) ((first, chain), chains) n is =
      at (has_either level (all_of levels) n is) (right_in_levels levels chains n)
    where
      here : (right_in (old n) ≡ 0) ⊎ Has level (right_in (old n))
          → (right_in (old n) ≡ 0) ⊎ Has (all_of (level ∷ levels)) (right_in (old n))
      here (inl none) = inl none
      here (inr is) = inr (has_front level (all_of levels) (right_in (old n)) is)

      there : (right_in (old n) ≡ 0) ⊎ Has (all_of levels) (right_in (old n))
          → (right_in (old n) ≡ 0) ⊎ Has (all_of (level ∷ levels)) (right_in (old n))
      there (inl none) = inl none
      there (inr is) = inr (has_back level (all_of levels) (right_in (old n)) is)

      at : Has level n ⊎ Has (all_of levels) n
          → (Has (all_of levels) n → (right_in (old n) ≡ 0) ⊎ Has (all_of levels) (right_in (old n)))
          → (right_in (old n) ≡ 0) ⊎ Has (all_of (level ∷ levels)) (right_in (old n))
      at (inl is) others = here (chain_next (λ k. right_in (old k)) first level chain n is)
      at (inr is) others = there (others is)

  node_at : (height : ℕ) (below level : List ℕ) → EachPage (IsNode size old owner height below) level
      → (n : ℕ) → Has level n → IsNode size old owner height below n
  node_at height below [] each n is = absurd is
  node_at height below (m ∷ ms) each n (inl e) = subst (IsNode size old owner height below) (sym e) each.0
  node_at height below (m ∷ ms) each n (inr more) = node_at height below ms each.1 n more

  -- what a node of the levels has
  pub record IsNodeIn (levels : List (List ℕ)) (n : ℕ) : Type 0 where
    pub height : ℕ
    pub below : List ℕ
    pub node : IsNode size old owner height below n
    pub within : (m : ℕ) → Has below m → Has (all_of levels) m

  node_in : (levels : List (List ℕ)) → AreNodes size old owner levels → (n : ℕ) → Has (all_of levels) n
      → IsNodeIn levels n
  node_in [] nodes n is = absurd is
  node_in (level ∷ levels) nodes n is = at (has_either level (all_of levels) n is)
      (node_in levels nodes.1 n)
    where
      first_in : (ls : List (List ℕ)) (m : ℕ) → Has (first_level ls) m → Has (all_of ls) m
      first_in [] m is = absurd is
      first_in (l ∷ ls) m is = has_front l (all_of ls) m is

      at : Has level n ⊎ Has (all_of levels) n → (Has (all_of levels) n → IsNodeIn levels n)
          → IsNodeIn (level ∷ levels) n
      at (inl here) others = record {
        height = length levels;
        below = first_level levels;
        node = node_at (length levels) (first_level levels) level nodes.0 n here;
        within = λ m is. has_back level (all_of levels) m (first_in levels m is);
      }
      at (inr there) others =
          let it : IsNodeIn levels n = others there in record {
            height = it.height;
            below = it.below;
            node = it.node;
            within = λ m is. has_back level (all_of levels) m (it.within m is);
          }

  pub seven : (levels : List (List ℕ)) → AreNodes size old owner levels → (n : ℕ)
      → Has (all_of levels) n → byte (old n) 0 ≡ 7
  seven levels nodes n is =
      let it : IsNodeIn levels n = node_in levels nodes n is in
      kind_of (old n) n 7 owner 0 [] (all_passes (common_checks (old n) n 7 owner 0) it.node.wanted.fields)

  child_there : (level : List ℕ) (es : List Entry) → AreChildren old level es → (e : Entry)
      → HasEntry es e → Has level e.child.0
  child_there level [] are e is = absurd is
  child_there level (f ∷ es) are e (inl same) = subst (λ (g : Entry). Has level g.child.0) (sym same) are.0
  child_there level (f ∷ es) are e (inr more) = child_there level es are.2 e more

  child_has : (level : List ℕ) (low : Option Entry) (es : List Entry) → HasChildren old level low es
      → (e : Entry) → HasEntry es e → Has level e.child.0
  child_has level low [] has_ e is = absurd is
  child_has level low (f ∷ es) has_ e (inl same) =
      subst (λ (g : Entry). Has level g.child.0) (sym same) has_.0
  child_has level low (f ∷ es) has_ e (inr more) = child_there level es has_.2 e more

  -- ---- where the pages of the levels stay

  module _ (levels : List (List ℕ)) (chains : Chains levels) (nodes : AreNodes size old owner levels)
      (same : (m : ℕ) → Has (all_of levels) m → new m ≡ old m) where
    right_there : (n : ℕ) → Has (all_of levels) n → right_in (old n) ≢ 0
        → Has (all_of levels) (right_in (old n))
    right_there n is some = at (right_in_levels levels chains n is)
      where
        at : (right_in (old n) ≡ 0) ⊎ Has (all_of levels) (right_in (old n))
            → Has (all_of levels) (right_in (old n))
        at (inl none) = absurd (some none)
        at (inr is) = is

    fenced : (n : ℕ) → Has (all_of levels) n → (fence : Entry) → high_of (old n) ≡ Some fence
        → right_in (old n) ≢ 0
    fenced n is fence high none =
        let it : IsNodeIn levels n = node_in levels nodes n is in
        let off : has_high (old n) ≡ false = it.node.high ∙ ap not (eq-eqb (right_in (old n)) 0 none) in
        at (has_high (old n)) off high
      where
        at : (c : Bool) → has_high (old n) ≡ false → high_of (old n) ≡ Some fence → ⊥
        at c off high = let both : None ≡ Some fence = sym (rw off refl) ∙ high in absurd (none_some both)
          where
            none_some : None ≡ Some fence → ⊥
            none_some is = cc

    pub finds_still : (e : Entry) (n : ℕ) → Has (all_of levels) n → Finds old e n → Finds new e n
    finds_still e n is (trees.here k level entry) = trees.here k (rw (same k is) level) (rw (same k is) entry)
    finds_still e n is (trees.right k fence high least more) =
        trees.right k fence (rw (same k is) high) least
        (subst (λ (page : List ℕ). Finds new e (right_in page)) (sym (same k is))
        (finds_still e (right_in (old k)) (right_there k is (fenced k is fence high)) more))
    finds_still e n is (trees.down k last level under up_to more) =
        trees.down k last (rw (same k is) level) (rw (same k is) under) (rw (same k is) up_to)
        (finds_still e last.child.0 (child_of k last is level up_to) more)
      where
        in_parts : (es fs : List Entry) (f : Entry) → HasEntry (es ++ (f ∷ fs)) f
        in_parts [] fs f = inl refl
        in_parts (g ∷ es) fs f = inr (in_parts es fs f)

        child_of : (k : ℕ) (last : Entry) → Has (all_of levels) k → level_in (old k) ≢ 0
            → IsLastUpTo (entries_of (old k)) e last → Has (all_of levels) last.child.0
        child_of k last is level up_to =
            let it : IsNodeIn levels k = node_in levels nodes k is in
            let on : level_in (old k) ≡ it.height = it.node.on_level in
            it.within last.child.0 (child_has it.below (low_of (old k)) (entries_of (old k))
            (it.node.children (positive it.height (λ none. level (on ∙ none)))) last
            (subst (λ (es : List Entry). HasEntry es last) (sym up_to.parts)
            (in_parts up_to.before up_to.after last)))
          where
            positive : (h : ℕ) → h ≢ 0 → 0 < h
            positive h some = omega (arith, some)

    children_are : (below : List ℕ) → ((m : ℕ) → Has below m → new m ≡ old m) → (es : List Entry)
        → AreChildren old below es → AreChildren new below es
    children_are below as_ [] are = tt
    children_are below as_ (f ∷ es) are = (
      are.0,
      ap low_of (as_ f.child.0 are.0) ∙ are.1,
      children_are below as_ es are.2,
    )

    children_still : (below : List ℕ) → ((m : ℕ) → Has below m → new m ≡ old m) → (low : Option Entry)
        (es : List Entry) → HasChildren old below low es → HasChildren new below low es
    children_still below as_ low [] has_ = tt
    children_still below as_ low (f ∷ es) has_ = (
      has_.0,
      ap low_of (as_ f.child.0 has_.0) ∙ has_.1,
      children_are below as_ es has_.2,
    )

    node_still : (height : ℕ) (below : List ℕ) → ((m : ℕ) → Has below m → new m ≡ old m) → (n : ℕ)
        → Has (all_of levels) n → IsNode size old owner height below n
        → IsNode size new owner height below n
    node_still height below as_ n is node = record {
      wanted = wanted_still size old new n (node_checks (old n) n owner) (node_checks (new n) n owner)
          (used n) (ap (λ (page : List ℕ). node_checks page n owner) (same n is)) node.wanted;
      lawful = rw (same n is) node.lawful;
      on_level = rw (same n is) node.on_level;
      two = λ some. rw (same n is) (node.two some);
      children = λ some. subst (λ (page : List ℕ). HasChildren new below (low_of page) (entries_of page))
          (sym (same n is)) (children_still below as_ (low_of (old n)) (entries_of (old n))
          (node.children some));
      apart = rw (same n is) node.apart;
      high = rw (same n is) node.high;
      fence = λ some.
          let was : right_in (old n) ≢ 0 = subst (λ (page : List ℕ). right_in page ≢ 0) (same n is) some in
          ap (λ (page : List ℕ). low_of (new (right_in page))) (same n is)
          ∙ (ap low_of (same (right_in (old n)) (right_there n is was))
          ∙ (node.fence was ∙ ap high_of (sym (same n is))));
    }

    page_still : (height : ℕ) (below : List ℕ) → ((m : ℕ) → Has below m → new m ≡ old m)
        → (level : List ℕ) → ((m : ℕ) → Has level m → Has (all_of levels) m)
        → EachPage (IsNode size old owner height below) level
        → EachPage (IsNode size new owner height below) level
    page_still height below as_ [] within each = tt
    page_still height below as_ (n ∷ ns) within each = (
      node_still height below as_ n (within n (inl refl)) each.0,
      page_still height below as_ ns (λ m is. within m (inr is)) each.1,
    )

    nodes_still : (some : List (List ℕ)) → ((m : ℕ) → Has (all_of some) m → Has (all_of levels) m)
        → AreNodes size old owner some → AreNodes size new owner some
    nodes_still [] within are = tt
    nodes_still (level ∷ below) within are = (
      page_still (length below) (first_level below) (as_below below
          (λ m is. within m (has_back level (all_of below) m is))) level
          (λ m is. within m (has_front level (all_of below) m is)) are.0,
      nodes_still below (λ m is. within m (has_back level (all_of below) m is)) are.1,
    )
      where
        as_below : (ls : List (List ℕ)) → ((m : ℕ) → Has (all_of ls) m → Has (all_of levels) m) → (m : ℕ)
            → Has (first_level ls) m → new m ≡ old m
        as_below [] in_all m is = absurd is
        as_below (l ∷ ls) in_all m is = same m (in_all m (has_front l (all_of ls) m is))

    -- each level is met from a page that it has
    levels_still : (n : ℕ) (some : List (List ℕ)) → n ≢ 0
        → ((m : ℕ) → Has (all_of some) m → Has (all_of levels) m) → AreNodes size old owner some
        → Levels old n some → Levels new n some
    levels_still n some ne within are (lowest k level chain) = lowest k level
        (link_chain_kept (λ m. right_in (old m)) (λ m. right_in (new m)) k level
        (λ m is. ap right_in (same m (within m (has_front level [] m is)))) chain)
    levels_still n some ne within are (above k level next below chain more) = above k level next below
        (link_chain_kept (λ m. right_in (old m)) (λ m. right_in (new m)) k level
        (λ m is. ap right_in (same m (within m (has_front level (all_of (next ∷ below)) m is)))) chain)
        (subst (λ (page : List ℕ). Levels new (first_child (entries_of page)) (next ∷ below))
        (sym (same k (within k (has_front level (all_of (next ∷ below)) k there))))
        (levels_still (first_child (entries_of (old k))) (next ∷ below) child
        (λ m is. within m (has_back level (all_of (next ∷ below)) m is)) are.1 more))
      where
        there : Has level k
        there = at (chain_first (λ m. right_in (old m)) k level chain)
          where
            at : (k ≡ 0) ⊎ Has level k → Has level k
            at (inl none) = absurd (ne none)
            at (inr is) = is

        node : IsNode size old owner (length (next ∷ below)) next k
        node = node_at (length (next ∷ below)) next level are.0 k there

        child : first_child (entries_of (old k)) ≢ 0
        child none = at (entries_of (old k)) refl none
            (node.children (omega arith))
            (level_chain old (first_child (entries_of (old k))) next below more)
          where
            empty_chain : (ns : List ℕ) (j : ℕ) → j ≡ 0 → LevelChain old j ns → (m : ℕ) → Has ns m → ⊥
            empty_chain ns j zero_ ended m is = is
            empty_chain ns j zero_ (goes i is_ some rest) m is = some zero_

            at : (es : List Entry) → entries_of (old k) ≡ es → first_child (entries_of (old k)) ≡ 0
                → HasChildren old next (low_of (old k)) (entries_of (old k))
                → LevelChain old (first_child (entries_of (old k))) next → ⊥
            at [] is zero_ children chain_ = some_entry (old k) (node.two (omega arith)) is
            at (e ∷ es) is zero_ children chain_ = empty_chain next (first_child (entries_of (old k))) zero_
                chain_ e.child.0 (child_has next (low_of (old k)) (entries_of (old k)) children e
                (subst (λ (fs : List Entry). HasEntry fs e) (sym is) (inl refl)))

-- ---- a tree, and all of them

-- no index has page 0 as its root
abbrev pub HasRoots : List Index → Type 0
HasRoots [] = Unit {0}
HasRoots (index ∷ indexes) = (index.root.0 ≢ 0) × HasRoots indexes

module _ (size : ℕ) (old new : Pages) (owner : ℕ)
    (used : (m : ℕ) → is_used size old m ≡ true → is_used size new m ≡ true) where
  root_there : (root : ℕ) (levels : List (List ℕ)) → root ≢ 0 → Levels old root levels
      → Has (all_of levels) root
  root_there root levels ne (lowest k level chain) = at (chain_first (λ m. right_in (old m)) k level chain)
    where
      at : (k ≡ 0) ⊎ Has level k → Has (all_of (level ∷ [])) k
      at (inl none) = absurd (ne none)
      at (inr is) = has_front level [] k is
  root_there root levels ne (above k level next below chain more) =
      at (chain_first (λ m. right_in (old m)) k level chain)
    where
      at : (k ≡ 0) ⊎ Has level k → Has (all_of (level ∷ next ∷ below)) k
      at (inl none) = absurd (ne none)
      at (inr is) = has_front level (all_of (next ∷ below)) k is

  tree_still : (root : ℕ) (levels : List (List ℕ)) → root ≢ 0
      → ((m : ℕ) → Has (all_of levels) m → new m ≡ old m) → IsTree size old owner root levels
      → IsTree size new owner root levels
  tree_still root levels ne same tree =
      let root_same : new root ≡ old root = same root (root_there root levels ne tree.levels_from) in
      record {
        rooted = ne;
        levels_from = levels_still size old new owner used levels
            (chains_of size old new owner used root levels tree.levels_from) tree.nodes same root levels
            ne (λ m is. is) tree.nodes tree.levels_from;
        nodes = nodes_still size old new owner used levels
            (chains_of size old new owner used root levels tree.levels_from) tree.nodes same levels
            (λ m is. is) tree.nodes;
        root_low = rw root_same tree.root_low;
        root_right = rw root_same tree.root_right;
      }

  pub trees_still : (indexes : List Index) (ts : List (List (List ℕ))) → HasRoots indexes
      → ((m : ℕ) → Has (tree_pages ts) m → new m ≡ old m) → AreTrees size old owner indexes ts
      → AreTrees size new owner indexes ts
  trees_still [] [] roots same are = tt
  trees_still [] (levels ∷ ts) roots same are = are
  trees_still (index ∷ indexes) [] roots same are = are
  trees_still (index ∷ indexes) (levels ∷ ts) roots same are = (
    tree_still index.root.0 levels roots.0
        (λ m is. same m (has_front (all_of levels) (tree_pages ts) m is)) are.0,
    trees_still indexes ts roots.1 (λ m is. same m (has_back (all_of levels) (tree_pages ts) m is)) are.1,
  )

  pub found_still : (indexes : List Index) (ts : List (List (List ℕ))) → HasRoots indexes
      → ((m : ℕ) → Has (tree_pages ts) m → new m ≡ old m) → AreTrees size old owner indexes ts
      → (p : RecId) (row : Row) → IsFoundIn old indexes p row → IsFoundIn new indexes p row
  found_still [] ts roots same are p row found = tt
  found_still (index ∷ indexes) [] roots same are p row found = absurd are
  found_still (index ∷ indexes) (levels ∷ ts) roots same are p row found = (
    finds_still size old new owner used levels
        (chains_of size old new owner used index.root.0 levels are.0.levels_from) are.0.nodes
        (λ m is. same m (has_front (all_of levels) (tree_pages ts) m is)) (index_entry index p row)
        index.root.0 (root_there index.root.0 levels roots.0 are.0.levels_from) found.0,
    found_still indexes ts roots.1 (λ m is. same m (has_back (all_of levels) (tree_pages ts) m is)) are.1
        p row found.1,
  )

  pub trees_seven : (indexes : List Index) (ts : List (List (List ℕ))) → AreTrees size old owner indexes ts
      → (m : ℕ) → Has (tree_pages ts) m → byte (old m) 0 ≡ 7
  trees_seven [] [] are m is = absurd is
  trees_seven [] (levels ∷ ts) are m is = absurd are
  trees_seven (index ∷ indexes) [] are m is = absurd are
  trees_seven (index ∷ indexes) (levels ∷ ts) are m is =
      at (has_either (all_of levels) (tree_pages ts) m is) (trees_seven indexes ts are.1 m)
    where
      at : Has (all_of levels) m ⊎ Has (tree_pages ts) m → (Has (tree_pages ts) m → byte (old m) 0 ≡ 7)
          → byte (old m) 0 ≡ 7
      at (inl here) others = seven size old new owner used levels are.0.nodes m here
      at (inr there) others = others there

-- the same of the stands of an image
abbrev pub HaveRoots : List Stand → Type 0
HaveRoots [] = Unit {0}
HaveRoots (stand ∷ stands) = HasRoots stand.table.indexes × HaveRoots stands

module _ (in_primary : Bool) (size : ℕ) (old new : Pages)
    (used : (m : ℕ) → is_used size old m ≡ true → is_used size new m ≡ true) where
  stand_trees : (stands : List Stand) → HaveRoots stands
      → EachStand (HasTablePages in_primary size old) stands
      → ((m : ℕ) → Has (flat_map pages_of stands) m → byte (old m) 0 ≡ 7 → new m ≡ old m)
      → EachStand (λ s. AreTrees size new s.table.pointer.0 s.table.indexes s.trees) stands
  stand_trees [] roots has_ same = tt
  stand_trees (s ∷ stands) roots has_ same = (
    trees_still size old new s.table.pointer.0 used s.table.indexes s.trees roots.0
        (λ m is. same m (has_front (pages_of s) (flat_map pages_of stands) m
        (has_back (s.pointers ++ s.data_pages) (tree_pages s.trees) m is))
        (trees_seven size old new s.table.pointer.0 used s.table.indexes s.trees has_.0.trees m is))
        has_.0.trees,
    stand_trees stands roots.1 has_.1
        (λ m is. same m (has_back (pages_of s) (flat_map pages_of stands) m is)),
  )

  stand_found : (stands : List Stand) → HaveRoots stands
      → EachStand (HasTablePages in_primary size old) stands
      → ((m : ℕ) → Has (flat_map pages_of stands) m → byte (old m) 0 ≡ 7 → new m ≡ old m)
      → (k : ℕ) (table : Table) (p : RecId) (row : Row) → table_at stands k ≡ Some table
      → IsFoundIn old table.indexes p row → IsFoundIn new table.indexes p row
  stand_found [] roots has_ same k table p row of found = absurd cc
  stand_found (s ∷ stands) roots has_ same k table p row of found =
      at (has s.data_pages k) of (λ more. stand_found stands roots.1 has_.1
      (λ m is. same m (has_back (pages_of s) (flat_map pages_of stands) m is)) k table p row more found)
    where
      here : IsFoundIn old s.table.indexes p row → IsFoundIn new s.table.indexes p row
      here = found_still size old new s.table.pointer.0 used s.table.indexes s.trees roots.0
          (λ m is. same m (has_front (pages_of s) (flat_map pages_of stands) m
          (has_back (s.pointers ++ s.data_pages) (tree_pages s.trees) m is))
          (trees_seven size old new s.table.pointer.0 used s.table.indexes s.trees has_.0.trees m is))
          has_.0.trees p row

      at : (c : Bool) → (if c then Some s.table else table_at stands k) ≡ Some table
          → (table_at stands k ≡ Some table → IsFoundIn new table.indexes p row)
          → IsFoundIn new table.indexes p row
      at true is more =
          let same_table : s.table ≡ table = cc in
          subst (λ (t : Table). IsFoundIn new t.indexes p row) same_table
          (here (subst (λ (t : Table). IsFoundIn old t.indexes p row) (sym same_table) found))
      at false is more = more is

tree_roots : (size : ℕ) (pages : Pages) (owner : ℕ) (indexes : List Index)
    (trees : List (List (List ℕ))) → AreTrees size pages owner indexes trees → HasRoots indexes
tree_roots size pages owner [] trees are = tt
tree_roots size pages owner (i ∷ is) [] are = absurd are
tree_roots size pages owner (i ∷ is) (levels ∷ trees) are =
    (are.0.rooted, tree_roots size pages owner is trees are.1)

stand_roots : (in_primary : Bool) (size : ℕ) (pages : Pages) (stands : List Stand)
    → EachStand (HasTablePages in_primary size pages) stands → HaveRoots stands
stand_roots in_primary size pages [] has_ = tt
stand_roots in_primary size pages (s ∷ ss) has_ = (
  tree_roots size pages s.table.pointer.0 s.table.indexes s.trees has_.0.trees,
  stand_roots in_primary size pages ss has_.1,
)

pub trees_stay : (form : Form) (size : ℕ) → TreesStay form size
trees_stay form size state old new layout r sound used same = record {
  trees = stand_trees form.in_primary size old new used (stands_of layout) roots sound.tables kept;
  found = λ table p row of. stand_found form.in_primary size old new used (stands_of layout) roots
      sound.tables kept p.page.0 table p row of;
}
  where
    roots : HaveRoots (stands_of layout)
    roots = stand_roots form.in_primary size old (stands_of layout) sound.tables

    kept : (m : ℕ) → Has (flat_map pages_of (stands_of layout)) m → byte (old m) 0 ≡ 7 → new m ≡ old m
    kept m is = same m (has_front (tips_of size old ++ flat_map pages_of (stands_of layout))
        layout.sequences m (has_back (tips_of size old) (flat_map pages_of (stands_of layout)) m is))

-- a changed data page leaves all of it
pub data_leaves : (form : Form) (size b : ℕ) → HasNoSequences form → TreesStay form size
    → LeavesRests form size b
data_leaves form size b none stay state old new layout r sound change = record {
  trees = stay state old new layout r sound
      (λ m is. used_kept form.in_primary size old new b change sound.header sound.inventory
      sound.transactions m ∙ is)
      (λ m is seven_. change.others m (λ e.
      let five : byte (old m) 0 ≡ 5 = ap (λ (k : ℕ). byte (old k) 0) e ∙ change.kind in
      omega (arith, seven_, five)));
  sequences = no_sequences layout.sequences sound.sequences;
}
  where
    no_sequences : (ns : List ℕ) → EachPage (λ m. form.sequence_page (old m) m) ns
        → EachPage (λ m. form.sequence_page (new m) m) ns
    no_sequences [] each = tt
    no_sequences (m ∷ ms) each = absurd (none (old m) m each.0)
