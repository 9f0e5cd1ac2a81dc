-- Laws of the orders of a row of steps: each leads up the tree or to the left.
use Rattle.std.proofs.Common.{◌≡◌, ◌≢◌, ◌⊎◌, inl, inr, ◌∙◌, ap, refl, sym, subst, ◌<◌, ◌==◌, ℕ, Bool, true, false, List, [], ◌∷◌, ◌++◌, Option, length, arith, eq-eqb}
use Rattle.std.specs.Prelude.{if◌then◌else◌, map}
use Rattle.std.proofs.lemmas.Bool.{ltb-true}
use Rattle.mg_careful.specs.Precedence.{Orders, Precedes, directly, through}
use Rattle.mg_careful.specs.declared.graph.Order.{Order}
use Rattle.mg_node.specs.declared.entry.Entry.{Entry}
use Rattle.mg_node.specs.NodePage.{entries_of, is_inner, level_in, low_of, right_in}
use Rattle.mg_image.specs.Form.{Pages}
use Rattle.mg_image.specs.Indexes.{IsNode, IsTree, Levels, above, first_level, lowest}
use Rattle.mg_image.specs.Tables.{LinkChain, ended, goes}
use Rattle.mg_pool.specs.Batch.{content_in, lists}
use Rattle.mg_tree_overlay_laws.specs.TreeSteps.{Grows, InTree, grow_levels, split_levels}
use Rattle.mg_tree_overlay_laws.specs.TreesBehind.{HasChild, SplitsNamed}
use Rattle.mg_tree_overlay_laws.specs.TreeBatches.{Add, ChangesTree, EntryChange, beside, done, grows, leaf, splits}
use Rattle.mg_tree_overlay_laws.specs.StepLaws.{each_has, first_in}
use Rattle.mg_tree_overlay_laws.specs.SplitParts.{tree_right, tree_wider}
use Rattle.mg_tree_overlay_laws.specs.GrowLaws.{chains_of, tree_grown}
use Rattle.mg_tree_overlay_laws.specs.GrowParts.{grow_wider, root_in}
use Rattle.mg_tree_overlay_laws.specs.PoolLaws.{beside_tree, leaf_tree, split_tree}
use Rattle.mg_btree.specs.AheadLaws.{ahead_also, ahead_from, ahead_higher, ahead_itself, ahead_new, ahead_of_child, ahead_of_new, ahead_of_right, ahead_on, ahead_split, child_on, first_there}
use Rattle.mg_btree.specs.Changing.{HasNoInventory}
use Rattle.mg_btree.specs.EachOrderLaws.{HasName, each_append, each_more, each_none, each_root, each_split}
use Rattle.mg_btree.specs.Climbing.{Climbs, ClosesNoCycle, HasNoCycle, IsAhead}
use Rattle.mg_btree.specs.Halves.{names_in}
use Rattle.mg_btree.specs.Ordering.{EachOrder, root_orders, split_orders}
use Rattle.mg_btree.specs.RowOrders.{row_orders}

-- ---- what a page names

children_named : (es : List Entry) (n : ℕ) → HasName (map (λ e. e.child) es) n → HasChild es n
children_named [] n has = absurd has
children_named (e ∷ es) n (inl same) = inl (sym same)
children_named (e ∷ es) n (inr has) = inr (children_named es n has)

-- a page names its right neighbour, and its children
in_names : (page : List ℕ) (n : ℕ) → HasName (names_in page) n
    → ((n ≡ right_in page) × (right_in page ≢ 0)) ⊎ ((is_inner page ≡ true) × HasChild (entries_of page) n)
in_names page n has = at (right_in page == 0) (is_inner page) refl refl has
  where
    some : (right_in page == 0) ≡ false → right_in page ≢ 0
    some no_zero zero_ = let yes_ : (right_in page == 0) ≡ true = eq-eqb (right_in page) 0 zero_ in
        let both : true ≡ false = sym yes_ ∙ no_zero in cc

    at : (b c : Bool) → (right_in page == 0) ≡ b → is_inner page ≡ c
        → HasName ((if b then [] else (record { 0 = right_in page } ∷ []))
        ++ (if c then map (λ e. e.child) (entries_of page) else [])) n
        → ((n ≡ right_in page) × (right_in page ≢ 0)) ⊎ ((is_inner page ≡ true) × HasChild (entries_of page) n)
    at true true zero_ inner has = inr (inner, children_named (entries_of page) n has)
    at true false zero_ inner has = absurd has
    at false true no_zero inner (inl same) = inl (same, some no_zero)
    at false true no_zero inner (inr has) = inr (inner, children_named (entries_of page) n has)
    at false false no_zero inner (inl same) = inl (same, some no_zero)
    at false false no_zero inner (inr has) = absurd has

child_behind : (xs ys : List Entry) (n : ℕ) → HasChild ys n → HasChild (xs ++ ys) n
child_behind [] ys n has = has
child_behind (x ∷ xs) ys n has = inr (child_behind xs ys n has)

child_before : (xs ys : List Entry) (n : ℕ) → HasChild xs n → HasChild (xs ++ ys) n
child_before [] ys n has = absurd has
child_before (x ∷ xs) ys n (inl same) = inl same
child_before (x ∷ xs) ys n (inr has) = inr (child_before xs ys n has)

-- ---- each step

-- the orders of a split climb
split_climbs : (size : ℕ) (pool split named : Pages) (owner root : ℕ) (levels : List (List ℕ))
    (l r p : ℕ) (e : Entry) → SplitsNamed size pool split named owner levels l r p e
    → IsTree size pool owner root levels
    → EachOrder (Climbs size (split_levels l r levels)) (split_orders size (names_in (pool r)) l r p)
split_climbs size pool split named owner root levels l r p e is tree =
    each_split (Climbs size (split_levels l r levels)) size (names_in (pool r)) l r p
    (λ m. (in_r, inl (m, refl)))
    (λ n has. (in_r, inr (named_behind n (in_names (pool r) n has))))
    (in_l, inl (r, refl)) (in_l, inr (ahead_new l r levels is.parent.child))
    (in_p, inl (r, refl)) (in_p, inr (ahead_also l r levels p p_over_l))
    (in_p, inr (ahead_split l r levels p l p_over_l))
  where
    in_l : InTree (split_levels l r levels) l
    in_l = tree_wider l r levels l is.parent.child

    in_p : InTree (split_levels l r levels) p
    in_p = tree_wider l r levels p is.parent.parent

    in_r : InTree (split_levels l r levels) r
    in_r = tree_right l r levels is.parent.child

    p_over_l : IsAhead levels p l
    p_over_l = let up = is.parent.level in
        ahead_higher size pool owner levels p l tree.nodes is.parent.parent is.parent.child (omega (arith, up))

    named_behind : (n : ℕ) → ((n ≡ right_in (pool r)) × (right_in (pool r) ≢ 0))
        ⊎ ((is_inner (pool r) ≡ true) × HasChild (entries_of (pool r)) n)
        → IsAhead (split_levels l r levels) r n
    named_behind n (inl right) = ahead_of_new l r levels n
        (subst (λ (k : ℕ). IsAhead levels l k) (sym (right.0 ∙ is.splits.goes_on))
        (ahead_of_right size pool owner levels l (chains_of pool root levels tree.levels_from)
        is.parent.child (subst (λ (k : ℕ). k ≢ 0) is.splits.goes_on right.1)))
    named_behind n (inr child) = ahead_of_new l r levels n
        (ahead_of_child size pool owner levels l n tree.nodes is.parent.child
        (let same = is.splits.right_level in
        let some = ltb-true 0 (level_in (pool r)) child.0 in omega (arith, same, some))
        (subst (λ (es : List Entry). HasChild es n) (sym is.splits.was)
        (child_behind (is.splits.first ∷ is.splits.kept) (is.splits.given ∷ is.splits.rest) n
        (subst (λ (es : List Entry). HasChild es n) is.splits.right_is child.1))))

-- where the root splits, what was ahead is so still
top_alone : (pages : Pages) (root : ℕ) (top : List ℕ) → LinkChain (λ k. right_in (pages k)) root top
    → right_in (pages root) ≡ 0 → root ≢ 0 → top ≡ root ∷ []
top_alone pages root top ended no_right some = absurd (some refl)
top_alone pages root top (goes k ks apart more) no_right some =
    ap (λ (ns : List ℕ). k ∷ ns) (none (right_in (pages k)) ks more no_right)
  where
    none : (n : ℕ) (ns : List ℕ) → LinkChain (λ k. right_in (pages k)) n ns → n ≡ 0 → ns ≡ []
    none n ns ended zero_ = refl
    none n ns (goes j js apart rest) zero_ = absurd (apart zero_)

root_level : (pages : Pages) (n : ℕ) (top : List ℕ) (below : List (List ℕ)) → Levels pages n (top ∷ below)
    → LinkChain (λ k. right_in (pages k)) n top
root_level pages n top below (lowest m level chain) = chain
root_level pages n top below (above m level next rest chain more) = chain

ahead_grown : (size : ℕ) (pages : Pages) (owner root a b : ℕ) (levels : List (List ℕ)) (x y : ℕ)
    → IsTree size pages owner root levels → IsAhead levels x y → IsAhead (grow_levels root a b levels) x y
ahead_grown size pages owner root a b [] x y tree ahead = absurd ahead
ahead_grown size pages owner root a b (top ∷ below) x y tree ahead =
    at (subst (λ (level : List ℕ). IsAhead (level ∷ below) x y) alone ahead)
  where
    alone : top ≡ root ∷ []
    alone = top_alone pages root top (root_level pages root top below tree.levels_from) tree.root_right
        tree.rooted

    at : IsAhead ((root ∷ []) ∷ below) x y → IsAhead ((root ∷ []) ∷ (a ∷ b ∷ []) ∷ below) x y
    at (inl here) = inl (here.0, inr here.1)
    at (inr (inl (inl here))) = absurd here.1
    at (inr (inl (inr none))) = absurd none
    at (inr (inr ahead)) = inr (inr (inr (inr ahead)))

-- the orders of a root that splits climb
grow_climbs : (size : ℕ) (pool grown : Pages) (owner root : ℕ) (levels : List (List ℕ)) (a b : ℕ)
    → Grows size pool grown owner root a b → IsTree size pool owner root levels
    → EachOrder (Climbs size (grow_levels root a b levels))
    (root_orders size (names_in (pool a)) (names_in (pool b)) root a b)
grow_climbs size pool grown owner root [] a b is tree =
    absurd (root_in size pool owner root [] tree.rooted tree)
grow_climbs size pool grown owner root (top ∷ below) a b is tree =
    each_root (Climbs size ((root ∷ []) ∷ (a ∷ b ∷ []) ∷ below)) size (names_in (pool a))
    (names_in (pool b)) root a b
    (λ m. (in_b, inl (m, refl))) (λ n has. (in_b, inr (behind_b n (in_names (pool b) n has))))
    (λ m. (in_a, inl (m, refl))) (λ n has. (in_a, inr (behind_a n (in_names (pool a) n has))))
    (λ m. (inl (inl refl), inl (m, refl))) (inl (inl refl), inr (inl (inl refl, inl (inl refl))))
    (inl (inl refl), inr (inl (inl refl, inl (inr (inl refl)))))
  where
    in_a : InTree ((root ∷ []) ∷ (a ∷ b ∷ []) ∷ below) a
    in_a = inr (inl (inl refl))

    in_b : InTree ((root ∷ []) ∷ (a ∷ b ∷ []) ∷ below) b
    in_b = inr (inl (inr (inl refl)))

    -- a child of the root stands on the level below
    below_root : (n : ℕ) → 0 < level_in (pool root) → HasChild (entries_of (pool root)) n → InTree below n
    below_root n inner has =
        let chain = root_level pool root top below tree.levels_from in
        let node = each_has (IsNode size pool owner (length below) (first_level below)) top root
        (first_in (λ k. right_in (pool k)) root top chain tree.rooted) tree.nodes.0 in
        let on = node.on_level in
        first_there size pool owner below n (child_on size pool owner (first_level below)
        (low_of (pool root)) (entries_of (pool root)) n (node.children (omega (arith, on, inner))) has)

    behind_b : (n : ℕ) → ((n ≡ right_in (pool b)) × (right_in (pool b) ≢ 0))
        ⊎ ((is_inner (pool b) ≡ true) × HasChild (entries_of (pool b)) n)
        → IsAhead ((root ∷ []) ∷ (a ∷ b ∷ []) ∷ below) b n
    behind_b n (inl right) = absurd (right.1 is.b_right)
    behind_b n (inr child) = inr (inr (inl (
      inr (inl refl),
      below_root n
          (let same = is.b_level in
          let some = ltb-true 0 (level_in (pool b)) child.0 in omega (arith, same, some))
          (subst (λ (es : List Entry). HasChild es n) (sym is.was)
          (child_behind (is.first ∷ is.kept) (is.given ∷ is.rest) n
          (subst (λ (es : List Entry). HasChild es n) is.b_is child.1))),
    )))

    behind_a : (n : ℕ) → ((n ≡ right_in (pool a)) × (right_in (pool a) ≢ 0))
        ⊎ ((is_inner (pool a) ≡ true) × HasChild (entries_of (pool a)) n)
        → IsAhead ((root ∷ []) ∷ (a ∷ b ∷ []) ∷ below) a n
    behind_a n (inl right) = inr (inr (inr (inl (inl (refl, inl (right.0 ∙ is.a_right))))))
    behind_a n (inr child) = inr (inr (inl (
      inl refl,
      below_root n
          (let same = is.a_level in
          let some = ltb-true 0 (level_in (pool a)) child.0 in omega (arith, same, some))
          (subst (λ (es : List Entry). HasChild es n) (sym is.was)
          (child_before (is.first ∷ is.kept) (is.given ∷ is.rest) n
          (subst (λ (es : List Entry). HasChild es n) is.a_is child.1))),
    )))

-- ---- a row of steps

climbs_split : (size l r : ℕ) (levels : List (List ℕ)) (x y : ℕ) → Climbs size levels x y
    → Climbs size (split_levels l r levels) x y
climbs_split size l r levels x y (placed, inl bit) = (tree_wider l r levels y placed, inl bit)
climbs_split size l r levels x y (placed, inr ahead) =
    (tree_wider l r levels y placed, inr (ahead_split l r levels y x ahead))

climbs_grown : (size : ℕ) (pages : Pages) (owner root a b : ℕ) (levels : List (List ℕ)) (x y : ℕ)
    → IsTree size pages owner root levels → Climbs size levels x y
    → Climbs size (grow_levels root a b levels) x y
climbs_grown size pages owner root a b levels x y tree (placed, inl bit) =
    (grow_wider size pages owner root a b levels y tree placed, inl bit)
climbs_grown size pages owner root a b levels x y tree (placed, inr ahead) = (
  grow_wider size pages owner root a b levels y tree placed,
  inr (ahead_grown size pages owner root a b levels y x tree ahead),
)

climbs_on : (size owner root : ℕ) (batch : ℕ → Option (List ℕ)) (orders : Orders) (change : EntryChange)
    (pool last : Pages) (levels ends : List (List ℕ))
    → ChangesTree size owner root batch orders change pool levels last ends
    → IsTree size pool owner root levels → (x y : ℕ) → Climbs size levels x y → Climbs size ends x y
climbs_on size owner root batch orders change pool last levels ends (done v ls) tree x y climbs = climbs
climbs_on size owner root batch orders change pool last levels ends
    (beside v next w ls es n others used some fresh more) tree x y climbs =
    climbs_on size owner root batch orders change next last levels ends more
    (beside_tree size pool next owner root levels n others used fresh tree) x y climbs
climbs_on size owner root batch orders change pool last levels ends
    (splits v split named w ls es l r p e is order no_l no_p apart fresh more) tree x y climbs =
    climbs_on size owner root batch orders change named last (split_levels l r levels) ends more
    (split_tree size pool split named owner root levels l r p e is apart fresh tree) x y
    (climbs_split size l r levels x y climbs)
climbs_on size owner root batch orders change pool last levels ends
    (grows v grown w ls es a b is order no_root more) tree x y climbs =
    climbs_on size owner root batch orders change grown last (grow_levels root a b levels) ends more
    (tree_grown size pool grown owner root a b levels is tree) x y
    (climbs_grown size pool owner root a b levels x y tree climbs)
climbs_on size owner root batch orders change pool last levels ends
    (leaf v next w ls es n is low entries some no_inventory more) tree x y climbs =
    climbs_on size owner root batch orders change next last levels ends more
    (leaf_tree size pool next owner root n levels is low tree) x y climbs

-- each order of a row climbs in the tree that comes to be
pub row_climbs : (size owner root : ℕ) (batch : ℕ → Option (List ℕ)) (orders : Orders)
    (change : EntryChange) (pool last : Pages) (levels ends : List (List ℕ))
    (row : ChangesTree size owner root batch orders change pool levels last ends)
    → IsTree size pool owner root levels
    → EachOrder (Climbs size ends) (row_orders size owner root batch orders change pool last levels ends row)
row_climbs size owner root batch orders change pool last levels ends (done v ls) tree =
    each_none (Climbs size ends)
row_climbs size owner root batch orders change pool last levels ends
    (beside v next w ls es n others used some fresh more) tree =
    row_climbs size owner root batch orders change next last levels ends more
    (beside_tree size pool next owner root levels n others used fresh tree)
row_climbs size owner root batch orders change pool last levels ends
    (splits v split named w ls es l r p e is order no_l no_p apart fresh more) tree =
    let there = split_tree size pool split named owner root levels l r p e is apart fresh tree in
    each_append (Climbs size ends) (split_orders size (names_in (pool r)) l r p)
    (row_orders size owner root batch orders change named last (split_levels l r levels) ends more)
    (each_more (Climbs size (split_levels l r levels)) (Climbs size ends)
    (split_orders size (names_in (pool r)) l r p)
    (climbs_on size owner root batch orders change named last (split_levels l r levels) ends more there)
    (split_climbs size pool split named owner root levels l r p e is tree))
    (row_climbs size owner root batch orders change named last (split_levels l r levels) ends more there)
row_climbs size owner root batch orders change pool last levels ends
    (grows v grown w ls es a b is order no_root more) tree =
    let there = tree_grown size pool grown owner root a b levels is tree in
    each_append (Climbs size ends) (root_orders size (names_in (pool a)) (names_in (pool b)) root a b)
    (row_orders size owner root batch orders change grown last (grow_levels root a b levels) ends more)
    (each_more (Climbs size (grow_levels root a b levels)) (Climbs size ends)
    (root_orders size (names_in (pool a)) (names_in (pool b)) root a b)
    (climbs_on size owner root batch orders change grown last (grow_levels root a b levels) ends more there)
    (grow_climbs size pool grown owner root levels a b is tree))
    (row_climbs size owner root batch orders change grown last (grow_levels root a b levels) ends more there)
row_climbs size owner root batch orders change pool last levels ends
    (leaf v next w ls es n is low entries some no_inventory more) tree =
    row_climbs size owner root batch orders change next last levels ends more
    (leaf_tree size pool next owner root n levels is low tree)

-- ---- no cycle

module _ (size : ℕ) (pages : Pages) (owner root : ℕ) (ends : List (List ℕ))
    (tree : IsTree size pages owner root ends) (no_inventory : HasNoInventory size ends)
    (olds added : List Order)
    (climb : EachOrder (Climbs size ends) added)
    (begins : EachOrder (λ a b. InTree ends a → ⊥) olds) (none : HasNoCycle (lists olds)) where
  each_of : (x y : ℕ) → lists (olds ++ added) x y ≡ true → (lists olds x y ≡ true) ⊎ Climbs size ends x y
  each_of x y is = each_append (λ a b. (lists olds a b ≡ true) ⊎ Climbs size ends a b) olds added
      (λ a b there. inl there) (λ a b there. inr (climb a b there)) x y is

  -- from a page of the tree on the orders lead to pages ahead of it
  leads_ahead : (x y : ℕ) → Precedes (lists (olds ++ added)) x y → InTree ends x → IsAhead ends y x
  leads_ahead x y (directly {a} {b} is) placed = at (each_of x y is)
    where
      at : (lists olds x y ≡ true) ⊎ Climbs size ends x y → IsAhead ends y x
      at (inl there) = absurd (begins x y there placed)
      at (inr (there, inl (m, bit))) = absurd (no_inventory x placed m bit)
      at (inr (there, inr ahead)) = ahead
  leads_ahead x y (through {a} {b} {c} first second) placed =
      let to_b = leads_ahead x b first placed in
      ahead_on size pages owner ends y b x tree.nodes (chains_of pages root ends tree.levels_from)
      (leads_ahead b y second (ahead_from ends b x to_b)) to_b

  leads_in : (x y : ℕ) → Precedes (lists (olds ++ added)) x y → Precedes (lists olds) x y ⊎ InTree ends y
  leads_in x y (directly {a} {b} is) = at (each_of x y is)
    where
      at : (lists olds x y ≡ true) ⊎ Climbs size ends x y → Precedes (lists olds) x y ⊎ InTree ends y
      at (inl there) = inl (directly there)
      at (inr climbs) = inr climbs.0
  leads_in x y (through {a} {b} {c} first second) = at (leads_in x b first) (leads_in b y second)
    where
      at : Precedes (lists olds) x b ⊎ InTree ends b → Precedes (lists olds) b y ⊎ InTree ends y
          → Precedes (lists olds) x y ⊎ InTree ends y
      at (inl before_b) (inl behind_b) = inl (through before_b behind_b)
      at (inr placed) which = inr (ahead_from ends y b (leads_ahead b y second placed))
      at (inl before_b) (inr placed) = inr placed

  pub no_cycle : HasNoCycle (lists (olds ++ added))
  no_cycle x is = at (leads_in x x is)
    where
      at : Precedes (lists olds) x x ⊎ InTree ends x → ⊥
      at (inl there) = none x there
      at (inr placed) = ahead_itself size pages owner ends x tree.nodes
          (chains_of pages root ends tree.levels_from) (leads_ahead x x is placed)

pub closes_no_cycle : ClosesNoCycle
closes_no_cycle size old new first batch owner root levels e tree puts none begins =
    subst (λ (os : List Order). HasNoCycle (lists os)) (sym puts.adds)
    (no_cycle size new owner root puts.ends puts.tree puts.no_inventory first.orders
    (row_orders size owner root (content_in batch.pages) (lists batch.orders) (Add e) old new levels
    puts.ends puts.row)
    (row_climbs size owner root (content_in batch.pages) (lists batch.orders) (Add e) old new levels
    puts.ends puts.row tree) begins none)
