-- Each page of an index stays, and is used still: its tree stays, and what is found by it. Other pages
-- may be used no more.
use Rattle.mg_base.specs.declared.numbers.RecId.{RecId}
use Rattle.mg_image.specs.Form.{Pages, Row}
use Rattle.mg_image.specs.Indexes.{AreChildren, AreNodes, AreTrees, EachPage, Finds, HasChildren, HasEntry, IsFoundIn, IsLastUpTo, IsNode, IsTree, LevelChain, Levels, above, first_child, first_level, index_entry, lowest}
use Rattle.mg_image.specs.Inventory.{is_used}
use Rattle.mg_image.specs.KeptPageLaws.{link_chain_kept}
use Rattle.mg_image.specs.Tables.{Has, LinkChain, ended, goes, tree_pages}
use Rattle.mg_image_overlay_laws.specs.pages.Growth.{has_back, has_either, has_front, wanted_still}
use Rattle.mg_model.specs.declared.table.Index.{Index}
use Rattle.mg_node.specs.NodePage.{count_in, entries_of, first_entries, has_high, high_of, level_in, low_of, node_checks, right_in}
use Rattle.mg_node.specs.declared.entry.Entry.{Entry}
use Rattle.std.proofs.Common.{Bool, List, None, Option, Some, [], ap, arith, false, inl, inr, length, not, refl, subst, suc, sym, true, zero, ℕ, ◌++◌, ◌<◌, ◌∙◌, ◌∷◌, ◌≡◌, ◌≢◌, ◌≤◌, ◌⊎◌}
use Rattle.std.proofs.lemmas.Bool.{eq-eqb}
use Rattle.mg_tree_overlay_laws.specs.TreePages.{all_of}
use Rattle.mg_image.specs.Indexes as trees

chain_first : (next : ℕ → ℕ) (k : ℕ) (ns : List ℕ) → LinkChain next k ns → (k ≡ 0) ⊎ Has ns k
chain_first next k ns ended = inl refl
chain_first next k ns (goes m ms some more) = inr (inl refl)

chain_next : (next : ℕ → ℕ) (k : ℕ) (ns : List ℕ) → LinkChain next k ns → (n : ℕ) → Has ns n
    → (next n ≡ 0) ⊎ Has ns (next n)
chain_next next k ns ended n is = absurd is
chain_next next k ns (goes m ms some more) n (inl e) =
    subst (λ (j : ℕ). (next j ≡ 0) ⊎ Has (m ∷ ms) (next j)) (sym e) (at (chain_first next (next m) ms more))
  where
    at : (next m ≡ 0) ⊎ Has ms (next m) → (next m ≡ 0) ⊎ Has (m ∷ ms) (next m)
    at (inl none) = inl none
    at (inr is) = inr (inr is)
chain_next next k ns (goes m ms some more) n (inr is) = at (chain_next next (next m) ms more n is)
  where
    at : (next n ≡ 0) ⊎ Has ms (next n) → (next n ≡ 0) ⊎ Has (m ∷ ms) (next n)
    at (inl none) = inl none
    at (inr is) = inr (inr is)

-- the chain of the first level
level_chain : (pages : Pages) (n : ℕ) (level : List ℕ) (below : List (List ℕ))
    → Levels pages n (level ∷ below) → LevelChain pages n level
level_chain pages n level below (lowest k l chain) = chain
level_chain pages n level below (above k l next ls chain more) = chain

-- a page with entries has a first one
no_last : (es : List Entry) (e : Entry) → es ++ (e ∷ []) ≡ [] → ⊥
no_last [] e is = cc
no_last (f ∷ es) e is = cc

some_entry : (page : List ℕ) → 2 ≤ count_in page → entries_of page ≡ [] → ⊥
unfolding entries_of
some_entry page most is = at (count_in page) most is
  where
    at : (n : ℕ) → 2 ≤ n → first_entries page n ≡ [] → ⊥
    at zero least none = omega (arith, least)
    at (suc n) least none = no_last (first_entries page n) _ none

module _ (size : ℕ) (old new : Pages) (owner : ℕ) where
  -- the chains of the levels
  abbrev pub Chains : List (List ℕ) → Type 0
  Chains [] = Unit {0}
  Chains (level ∷ levels) = ((first : ℕ) × LevelChain old first level) × Chains levels

  chains_of : (n : ℕ) (levels : List (List ℕ)) → Levels old n levels → Chains levels
  chains_of n levels (lowest k level chain) = ((k, chain), tt)
  chains_of n levels (above k level next below chain more) =
      ((k, chain), chains_of (first_child (entries_of (old k))) (next ∷ below) more)

  right_in_levels : (levels : List (List ℕ)) → Chains levels → (n : ℕ) → Has (all_of levels) n
      → (right_in (old n) ≡ 0) ⊎ Has (all_of levels) (right_in (old n))
  right_in_levels [] chains n is = absurd is
  right_in_levels (level ∷ levels) ((first, chain), chains) n is =
      at (has_either level (all_of levels) n is) (right_in_levels levels chains n)
    where
      here : (right_in (old n) ≡ 0) ⊎ Has level (right_in (old n))
          → (right_in (old n) ≡ 0) ⊎ Has (all_of (level ∷ levels)) (right_in (old n))
      here (inl none) = inl none
      here (inr is) = inr (has_front level (all_of levels) (right_in (old n)) is)

      there : (right_in (old n) ≡ 0) ⊎ Has (all_of levels) (right_in (old n))
          → (right_in (old n) ≡ 0) ⊎ Has (all_of (level ∷ levels)) (right_in (old n))
      there (inl none) = inl none
      there (inr is) = inr (has_back level (all_of levels) (right_in (old n)) is)

      at : Has level n ⊎ Has (all_of levels) n
          → (Has (all_of levels) n → (right_in (old n) ≡ 0) ⊎ Has (all_of levels) (right_in (old n)))
          → (right_in (old n) ≡ 0) ⊎ Has (all_of (level ∷ levels)) (right_in (old n))
      at (inl is) others = here (chain_next (λ k. right_in (old k)) first level chain n is)
      at (inr is) others = there (others is)

  node_at : (height : ℕ) (below level : List ℕ) → EachPage (IsNode size old owner height below) level
      → (n : ℕ) → Has level n → IsNode size old owner height below n
  node_at height below [] each n is = absurd is
  node_at height below (m ∷ ms) each n (inl e) = subst (IsNode size old owner height below) (sym e) each.0
  node_at height below (m ∷ ms) each n (inr more) = node_at height below ms each.1 n more

  -- what a node of the levels has
  pub record IsNodeIn (levels : List (List ℕ)) (n : ℕ) : Type 0 where
    pub height : ℕ
    pub below : List ℕ
    pub node : IsNode size old owner height below n
    pub within : (m : ℕ) → Has below m → Has (all_of levels) m

  node_in : (levels : List (List ℕ)) → AreNodes size old owner levels → (n : ℕ) → Has (all_of levels) n
      → IsNodeIn levels n
  node_in [] nodes n is = absurd is
  node_in (level ∷ levels) nodes n is = at (has_either level (all_of levels) n is)
      (node_in levels nodes.1 n)
    where
      first_in : (ls : List (List ℕ)) (m : ℕ) → Has (first_level ls) m → Has (all_of ls) m
      first_in [] m is = absurd is
      first_in (l ∷ ls) m is = has_front l (all_of ls) m is

      at : Has level n ⊎ Has (all_of levels) n → (Has (all_of levels) n → IsNodeIn levels n)
          → IsNodeIn (level ∷ levels) n
      at (inl here) others = record {
        height = length levels;
        below = first_level levels;
        node = node_at (length levels) (first_level levels) level nodes.0 n here;
        within = λ m is. has_back level (all_of levels) m (first_in levels m is);
      }
      at (inr there) others =
          let it : IsNodeIn levels n = others there in record {
            height = it.height;
            below = it.below;
            node = it.node;
            within = λ m is. has_back level (all_of levels) m (it.within m is);
          }

  child_there : (level : List ℕ) (es : List Entry) → AreChildren old level es → (e : Entry)
      → HasEntry es e → Has level e.child.0
  child_there level [] are e is = absurd is
  child_there level (f ∷ es) are e (inl same) = subst (λ (g : Entry). Has level g.child.0) (sym same) are.0
  child_there level (f ∷ es) are e (inr more) = child_there level es are.2 e more

  child_has : (level : List ℕ) (low : Option Entry) (es : List Entry) → HasChildren old level low es
      → (e : Entry) → HasEntry es e → Has level e.child.0
  child_has level low [] has_ e is = absurd is
  child_has level low (f ∷ es) has_ e (inl same) =
      subst (λ (g : Entry). Has level g.child.0) (sym same) has_.0
  child_has level low (f ∷ es) has_ e (inr more) = child_there level es has_.2 e more

  -- ---- where the pages of the levels stay

  module _ (levels : List (List ℕ)) (chains : Chains levels) (nodes : AreNodes size old owner levels)
      (same : (m : ℕ) → Has (all_of levels) m → new m ≡ old m)
      (used : (m : ℕ) → Has (all_of levels) m → is_used size old m ≡ true → is_used size new m ≡ true) where
    right_there : (n : ℕ) → Has (all_of levels) n → right_in (old n) ≢ 0
        → Has (all_of levels) (right_in (old n))
    right_there n is some = at (right_in_levels levels chains n is)
      where
        at : (right_in (old n) ≡ 0) ⊎ Has (all_of levels) (right_in (old n))
            → Has (all_of levels) (right_in (old n))
        at (inl none) = absurd (some none)
        at (inr is) = is

    fenced : (n : ℕ) → Has (all_of levels) n → (fence : Entry) → high_of (old n) ≡ Some fence
        → right_in (old n) ≢ 0
    fenced n is fence high none =
        let it : IsNodeIn levels n = node_in levels nodes n is in
        let off : has_high (old n) ≡ false = it.node.high ∙ ap not (eq-eqb (right_in (old n)) 0 none) in
        at (has_high (old n)) off high
      where
        at : (c : Bool) → has_high (old n) ≡ false → high_of (old n) ≡ Some fence → ⊥
        at c off high = let both : None ≡ Some fence = sym (rw off refl) ∙ high in absurd (none_some both)
          where
            none_some : None ≡ Some fence → ⊥
            none_some is = cc

    pub finds_still : (e : Entry) (n : ℕ) → Has (all_of levels) n → Finds old e n → Finds new e n
    finds_still e n is (trees.here k level entry) = trees.here k (rw (same k is) level) (rw (same k is) entry)
    finds_still e n is (trees.right k fence high least more) =
        trees.right k fence (rw (same k is) high) least
        (subst (λ (page : List ℕ). Finds new e (right_in page)) (sym (same k is))
        (finds_still e (right_in (old k)) (right_there k is (fenced k is fence high)) more))
    finds_still e n is (trees.down k last level under up_to more) =
        trees.down k last (rw (same k is) level) (rw (same k is) under) (rw (same k is) up_to)
        (finds_still e last.child.0 (child_of k last is level up_to) more)
      where
        in_parts : (es fs : List Entry) (f : Entry) → HasEntry (es ++ (f ∷ fs)) f
        in_parts [] fs f = inl refl
        in_parts (g ∷ es) fs f = inr (in_parts es fs f)

        child_of : (k : ℕ) (last : Entry) → Has (all_of levels) k → level_in (old k) ≢ 0
            → IsLastUpTo (entries_of (old k)) e last → Has (all_of levels) last.child.0
        child_of k last is level up_to =
            let it : IsNodeIn levels k = node_in levels nodes k is in
            let on : level_in (old k) ≡ it.height = it.node.on_level in
            it.within last.child.0 (child_has it.below (low_of (old k)) (entries_of (old k))
            (it.node.children (positive it.height (λ none. level (on ∙ none)))) last
            (subst (λ (es : List Entry). HasEntry es last) (sym up_to.parts)
            (in_parts up_to.before up_to.after last)))
          where
            positive : (h : ℕ) → h ≢ 0 → 0 < h
            positive h some = omega (arith, some)

    children_are : (below : List ℕ) → ((m : ℕ) → Has below m → new m ≡ old m) → (es : List Entry)
        → AreChildren old below es → AreChildren new below es
    children_are below as_ [] are = tt
    children_are below as_ (f ∷ es) are = (
      are.0,
      ap low_of (as_ f.child.0 are.0) ∙ are.1,
      children_are below as_ es are.2,
    )

    children_still : (below : List ℕ) → ((m : ℕ) → Has below m → new m ≡ old m) → (low : Option Entry)
        (es : List Entry) → HasChildren old below low es → HasChildren new below low es
    children_still below as_ low [] has_ = tt
    children_still below as_ low (f ∷ es) has_ = (
      has_.0,
      ap low_of (as_ f.child.0 has_.0) ∙ has_.1,
      children_are below as_ es has_.2,
    )

    node_still : (height : ℕ) (below : List ℕ) → ((m : ℕ) → Has below m → new m ≡ old m) → (n : ℕ)
        → Has (all_of levels) n → IsNode size old owner height below n
        → IsNode size new owner height below n
    node_still height below as_ n is node = record {
      wanted = wanted_still size old new n (node_checks (old n) n owner) (node_checks (new n) n owner)
          (used n is) (ap (λ (page : List ℕ). node_checks page n owner) (same n is)) node.wanted;
      lawful = rw (same n is) node.lawful;
      on_level = rw (same n is) node.on_level;
      two = λ some. rw (same n is) (node.two some);
      children = λ some. subst (λ (page : List ℕ). HasChildren new below (low_of page) (entries_of page))
          (sym (same n is)) (children_still below as_ (low_of (old n)) (entries_of (old n))
          (node.children some));
      apart = rw (same n is) node.apart;
      high = rw (same n is) node.high;
      fence = λ some.
          let was : right_in (old n) ≢ 0 = subst (λ (page : List ℕ). right_in page ≢ 0) (same n is) some in
          ap (λ (page : List ℕ). low_of (new (right_in page))) (same n is)
          ∙ (ap low_of (same (right_in (old n)) (right_there n is was))
          ∙ (node.fence was ∙ ap high_of (sym (same n is))));
    }

    page_still : (height : ℕ) (below : List ℕ) → ((m : ℕ) → Has below m → new m ≡ old m)
        → (level : List ℕ) → ((m : ℕ) → Has level m → Has (all_of levels) m)
        → EachPage (IsNode size old owner height below) level
        → EachPage (IsNode size new owner height below) level
    page_still height below as_ [] within each = tt
    page_still height below as_ (n ∷ ns) within each = (
      node_still height below as_ n (within n (inl refl)) each.0,
      page_still height below as_ ns (λ m is. within m (inr is)) each.1,
    )

    nodes_still : (some : List (List ℕ)) → ((m : ℕ) → Has (all_of some) m → Has (all_of levels) m)
        → AreNodes size old owner some → AreNodes size new owner some
    nodes_still [] within are = tt
    nodes_still (level ∷ below) within are = (
      page_still (length below) (first_level below) (as_below below
          (λ m is. within m (has_back level (all_of below) m is))) level
          (λ m is. within m (has_front level (all_of below) m is)) are.0,
      nodes_still below (λ m is. within m (has_back level (all_of below) m is)) are.1,
    )
      where
        as_below : (ls : List (List ℕ)) → ((m : ℕ) → Has (all_of ls) m → Has (all_of levels) m) → (m : ℕ)
            → Has (first_level ls) m → new m ≡ old m
        as_below [] in_all m is = absurd is
        as_below (l ∷ ls) in_all m is = same m (in_all m (has_front l (all_of ls) m is))

    -- each level is met from a page that it has
    levels_still : (n : ℕ) (some : List (List ℕ)) → n ≢ 0
        → ((m : ℕ) → Has (all_of some) m → Has (all_of levels) m) → AreNodes size old owner some
        → Levels old n some → Levels new n some
    levels_still n some ne within are (lowest k level chain) = lowest k level
        (link_chain_kept (λ m. right_in (old m)) (λ m. right_in (new m)) k level
        (λ m is. ap right_in (same m (within m (has_front level [] m is)))) chain)
    levels_still n some ne within are (above k level next below chain more) = above k level next below
        (link_chain_kept (λ m. right_in (old m)) (λ m. right_in (new m)) k level
        (λ m is. ap right_in (same m (within m (has_front level (all_of (next ∷ below)) m is)))) chain)
        (subst (λ (page : List ℕ). Levels new (first_child (entries_of page)) (next ∷ below))
        (sym (same k (within k (has_front level (all_of (next ∷ below)) k there))))
        (levels_still (first_child (entries_of (old k))) (next ∷ below) child
        (λ m is. within m (has_back level (all_of (next ∷ below)) m is)) are.1 more))
      where
        there : Has level k
        there = at (chain_first (λ m. right_in (old m)) k level chain)
          where
            at : (k ≡ 0) ⊎ Has level k → Has level k
            at (inl none) = absurd (ne none)
            at (inr is) = is

        node : IsNode size old owner (length (next ∷ below)) next k
        node = node_at (length (next ∷ below)) next level are.0 k there

        child : first_child (entries_of (old k)) ≢ 0
        child none = at (entries_of (old k)) refl none
            (node.children (omega arith))
            (level_chain old (first_child (entries_of (old k))) next below more)
          where
            empty_chain : (ns : List ℕ) (j : ℕ) → j ≡ 0 → LevelChain old j ns → (m : ℕ) → Has ns m → ⊥
            empty_chain ns j zero_ ended m is = is
            empty_chain ns j zero_ (goes i is_ some rest) m is = some zero_

            at : (es : List Entry) → entries_of (old k) ≡ es → first_child (entries_of (old k)) ≡ 0
                → HasChildren old next (low_of (old k)) (entries_of (old k))
                → LevelChain old (first_child (entries_of (old k))) next → ⊥
            at [] is zero_ children chain_ = some_entry (old k) (node.two (omega arith)) is
            at (e ∷ es) is zero_ children chain_ = empty_chain next (first_child (entries_of (old k))) zero_
                chain_ e.child.0 (child_has next (low_of (old k)) (entries_of (old k)) children e
                (subst (λ (fs : List Entry). HasEntry fs e) (sym is) (inl refl)))

-- ---- a tree, and all of them

module _ (size : ℕ) (old new : Pages) (owner : ℕ) where
  root_there : (root : ℕ) (levels : List (List ℕ)) → root ≢ 0 → Levels old root levels
      → Has (all_of levels) root
  root_there root levels ne (lowest k level chain) = at (chain_first (λ m. right_in (old m)) k level chain)
    where
      at : (k ≡ 0) ⊎ Has level k → Has (all_of (level ∷ [])) k
      at (inl none) = absurd (ne none)
      at (inr is) = has_front level [] k is
  root_there root levels ne (above k level next below chain more) =
      at (chain_first (λ m. right_in (old m)) k level chain)
    where
      at : (k ≡ 0) ⊎ Has level k → Has (all_of (level ∷ next ∷ below)) k
      at (inl none) = absurd (ne none)
      at (inr is) = has_front level (all_of (next ∷ below)) k is

  tree_still : (root : ℕ) (levels : List (List ℕ)) → root ≢ 0
      → ((m : ℕ) → Has (all_of levels) m → new m ≡ old m)
      → ((m : ℕ) → Has (all_of levels) m → is_used size old m ≡ true → is_used size new m ≡ true)
      → IsTree size old owner root levels → IsTree size new owner root levels
  tree_still root levels ne same used tree =
      let root_same : new root ≡ old root = same root (root_there root levels ne tree.levels_from) in
      record {
        rooted = ne;
        levels_from = levels_still size old new owner levels
            (chains_of size old new owner root levels tree.levels_from) tree.nodes same used root levels
            ne (λ m is. is) tree.nodes tree.levels_from;
        nodes = nodes_still size old new owner levels
            (chains_of size old new owner root levels tree.levels_from) tree.nodes same used levels
            (λ m is. is) tree.nodes;
        root_low = rw root_same tree.root_low;
        root_right = rw root_same tree.root_right;
      }

  pub trees_still : (indexes : List Index) (ts : List (List (List ℕ)))
      → ((m : ℕ) → Has (tree_pages ts) m → new m ≡ old m)
      → ((m : ℕ) → Has (tree_pages ts) m → is_used size old m ≡ true → is_used size new m ≡ true)
      → AreTrees size old owner indexes ts → AreTrees size new owner indexes ts
  trees_still [] [] same used are = tt
  trees_still [] (levels ∷ ts) same used are = are
  trees_still (index ∷ indexes) [] same used are = are
  trees_still (index ∷ indexes) (levels ∷ ts) same used are = (
    tree_still index.root.0 levels are.0.rooted
        (λ m is. same m (has_front (all_of levels) (tree_pages ts) m is))
        (λ m is. used m (has_front (all_of levels) (tree_pages ts) m is)) are.0,
    trees_still indexes ts (λ m is. same m (has_back (all_of levels) (tree_pages ts) m is))
        (λ m is. used m (has_back (all_of levels) (tree_pages ts) m is)) are.1,
  )

  pub found_still : (indexes : List Index) (ts : List (List (List ℕ)))
      → ((m : ℕ) → Has (tree_pages ts) m → new m ≡ old m)
      → ((m : ℕ) → Has (tree_pages ts) m → is_used size old m ≡ true → is_used size new m ≡ true)
      → AreTrees size old owner indexes ts → (p : RecId) (row : Row) → IsFoundIn old indexes p row
      → IsFoundIn new indexes p row
  found_still [] ts same used are p row found = tt
  found_still (index ∷ indexes) [] same used are p row found = absurd are
  found_still (index ∷ indexes) (levels ∷ ts) same used are p row found = (
    finds_still size old new owner levels
        (chains_of size old new owner index.root.0 levels are.0.levels_from) are.0.nodes
        (λ m is. same m (has_front (all_of levels) (tree_pages ts) m is))
        (λ m is. used m (has_front (all_of levels) (tree_pages ts) m is)) (index_entry index p row)
        index.root.0 (root_there index.root.0 levels are.0.rooted are.0.levels_from) found.0,
    found_still indexes ts (λ m is. same m (has_back (all_of levels) (tree_pages ts) m is))
        (λ m is. used m (has_back (all_of levels) (tree_pages ts) m is)) are.1 p row found.1,
  )
