-- A fence between the entries of a page lies between the fences of its parent.
use Rattle.std.proofs.Common.{◌≡◌, ◌≢◌, ◌⊎◌, inl, inr, ◌∙◌, ap, refl, sym, subst, ◌<◌, ℕ, suc, List, [], ◌∷◌, Option, Some, None, length, arith}
use Rattle.std.specs.Prelude.{IfSome}
use Rattle.std.specs.declared.cmp.Ordering.TheVariants.{Less}
use Rattle.mg_node.specs.declared.entry.Entry.{Entry}
use Rattle.mg_node.specs.NodePage.{IsAtLeast, IsBelow, entries_of, entry_cmp, high_of, level_in, low_of, right_in}
use Rattle.mg_image.specs.Form.{Pages}
use Rattle.mg_image.specs.Indexes.{AreNodes, EachPage, HasChildren, HasEntry, IsLastUpTo, IsNode, IsTree, LevelChain, as_fence, first_child, first_level}
use Rattle.mg_image.specs.Tables.{Has}
use Rattle.mg_node.specs.EntryOrderLaws.{entry_cmp_total}
use Rattle.mg_tree_overlay_laws.specs.DescentLaws.{IsRight, last_has, not_below_itself, one_page, right_facts}
use Rattle.mg_tree_overlay_laws.specs.EntryLaws.{at_least_below, below_at_least, child_among, is_less}
use Rattle.mg_tree_overlay_laws.specs.FoundLaws.{from_between, high_left, neighbour, right_on}
use Rattle.mg_tree_overlay_laws.specs.GrowLaws.{AreChains, chains_of}
use Rattle.mg_tree_overlay_laws.specs.TreeSteps.{InTree}
use Rattle.mg_tree_overlay_laws.specs.StepLaws.{each_has, entries_some}
use Rattle.mg_tree_overlay_laws.specs.TreesBehind.{Covers, GoesRight, IsFrom}

module _ (size : ℕ) (pages : Pages) (owner : ℕ) where
  first_below : (level : ℕ) (below : List ℕ) (n : ℕ) → IsNode size pages owner (suc level) below n
      → Has below (first_child (entries_of (pages n)))
      × (low_of (pages (first_child (entries_of (pages n)))) ≡ low_of (pages n))
  first_below level below n node = at (entries_of (pages n)) (entries_some size pages owner (suc level) below n (omega arith) node)
      (node.children (omega arith))
    where
      at : (es : List Entry) → 0 < length es → HasChildren pages below (low_of (pages n)) es
          → Has below (first_child es) × (low_of (pages (first_child es)) ≡ low_of (pages n))
      at [] some is = absurd (omega (arith, some))
      at (e ∷ es) some is = (is.0, is.1)

  -- a page p, the page l below it at which a search from p comes, and a fence within l
  pub fence_on_parent : (e f : Entry) (level : ℕ) (next lower : List ℕ) (first second : ℕ) (ns : List ℕ) (p l : ℕ) (last : Entry)
      → LevelChain pages first ns → EachPage (IsNode size pages owner (suc level) next) ns → Has ns p
      → LevelChain pages second next → EachPage (IsNode size pages owner level lower) next
      → Covers pages p e → IsLastUpTo (entries_of (pages p)) e last → GoesRight pages e last.child.0 l
      → Covers pages l f → Covers pages p f
  fence_on_parent e f level next lower first second ns p l last chain nodes has chain_next nodes_next covers up way of_l =
      (low_part (low_of (pages p)) last_from child.1, high_part (high_of (pages p)) refl covers.1)
    where
      of_p : IsNode size pages owner (suc level) next p
      of_p = each_has (IsNode size pages owner (suc level) next) ns p has nodes

      child : Has next last.child.0 × ((low_of (pages last.child.0) ≡ Some (as_fence last)) ⊎ (low_of (pages last.child.0) ≡ low_of (pages p)))
      child = child_among pages next (low_of (pages p)) up.before up.after last
          (subst (HasChildren pages next (low_of (pages p))) up.parts (of_p.children (omega arith)))

      last_from : IfSome (low_of (pages p)) (λ fence. IsAtLeast last fence)
      last_from = from_between (low_of (pages p)) (high_of (pages p)) (entries_of (pages p)) last of_p.lawful.between
          (subst (λ (es : List Entry). HasEntry es last) (sym up.parts) (last_has up.before up.after last))

      facts : Has next l × ((l ≡ last.child.0) ⊎ IsRight pages e last.child.0 l)
      facts = right_facts size pages owner e level lower second next last.child.0 l chain_next nodes_next child.0 way

      -- what lies from l's low fence on lies behind the child's
      past_child : (a : Entry) → low_of (pages last.child.0) ≡ Some a → ((l ≡ last.child.0) ⊎ IsRight pages e last.child.0 l) → IsAtLeast f a
      past_child a is (inl same) = subst (λ (x : Option Entry). IfSome x (λ b. IsAtLeast f b))
          (ap (λ (k : ℕ). low_of (pages k)) same ∙ is) of_l.0
      past_child a is (inr right) = λ less. (subst (λ (x : Option Entry). IfSome x (λ b. IsAtLeast f b)) right.low of_l.0)
          (entry_cmp_total.trans f a right.fence less
          (subst (λ (x : Option Entry). IfSome x (λ b. IsBelow b right.fence)) is right.behind))

      low_part : (low : Option Entry) → IfSome low (λ a. IsAtLeast last a)
          → ((low_of (pages last.child.0) ≡ Some (as_fence last)) ⊎ (low_of (pages last.child.0) ≡ low))
          → IfSome low (λ a. IsAtLeast f a)
      low_part None from which = tt
      low_part (Some a) from (inl is) = λ less. past_child (as_fence last) is facts.1 (below_at_least f a last less from)
      low_part (Some a) from (inr is) = past_child a is facts.1

      e_from : IsFrom pages e l
      e_from = at facts.1 child.1
        where
          at : ((l ≡ last.child.0) ⊎ IsRight pages e last.child.0 l)
              → ((low_of (pages last.child.0) ≡ Some (as_fence last)) ⊎ (low_of (pages last.child.0) ≡ low_of (pages p)))
              → IsFrom pages e l
          at (inr right) which = subst (λ (x : Option Entry). IfSome x (λ b. IsAtLeast e b)) (sym right.low) right.reached
          at (inl same) (inl is) = subst (λ (x : Option Entry). IfSome x (λ b. IsAtLeast e b))
              (sym (ap (λ (k : ℕ). low_of (pages k)) same ∙ is)) up.up_to
          at (inl same) (inr is) = subst (λ (x : Option Entry). IfSome x (λ b. IsAtLeast e b))
              (sym (ap (λ (k : ℕ). low_of (pages k)) same ∙ is)) covers.0

      high_part : (high : Option Entry) → high_of (pages p) ≡ high → IfSome high (λ b. IsBelow e b) → IfSome high (λ b. IsBelow f b)
      high_part None is before = tt
      high_part (Some h) is before = at (is_less (entry_cmp f h))
        where
          some : right_in (pages p) ≢ 0
          some = neighbour (right_in (pages p)) (sym (high_left (pages p) h is) ∙ of_p.high)

          of_m : IsNode size pages owner (suc level) next (right_in (pages p))
          of_m = each_has (IsNode size pages owner (suc level) next) ns (right_in (pages p))
              (right_on size pages owner e first ns p chain has some) nodes

          k : ℕ
          k = first_child (entries_of (pages (right_in (pages p))))

          low_k : low_of (pages k) ≡ Some h
          low_k = (first_below level next (right_in (pages p)) of_m).1 ∙ (of_p.fence some ∙ is)

          has_k : Has next k
          has_k = (first_below level next (right_in (pages p)) of_m).0

          on_k : Covers pages k h
          on_k = (
            rw low_k (not_below_itself h),
            subst (λ (x : Option Entry). IfSome x (λ a. IfSome (high_of (pages k)) (λ b. IsBelow a b))) low_k (each_has (IsNode size pages owner level lower) next k has_k nodes_next).apart,
          )

          from_l : (low : Option Entry) → IfSome low (λ a. IsAtLeast e a) → IfSome low (λ a. IsAtLeast h a)
          from_l None from = tt
          from_l (Some a) from = λ less. from (entry_cmp_total.trans e h a before less)

          to_l : IsAtLeast f h → (high : Option Entry) → IfSome high (λ b. IsBelow f b) → IfSome high (λ b. IsBelow h b)
          to_l past None less = tt
          to_l past (Some b) less = at_least_below h f b past less

          at : (entry_cmp f h ≡ Less) ⊎ (entry_cmp f h ≢ Less) → IsBelow f h
          at (inl less) = less
          at (inr past) =
              let same = one_page size pages owner level lower h second next l k chain_next nodes_next facts.0 has_k
              (from_l (low_of (pages l)) e_from, to_l past (high_of (pages l)) of_l.1) on_k in
              absurd ((subst (λ (x : Option Entry). IfSome x (λ a. IsAtLeast e a))
              (ap (λ (j : ℕ). low_of (pages j)) same ∙ low_k) e_from) before)

  covers_in : (e f : Entry) (levels : List (List ℕ)) (p l : ℕ) (last : Entry) → AreChains pages levels
      → AreNodes size pages owner levels → InTree levels p → 0 < level_in (pages p) → Covers pages p e
      → IsLastUpTo (entries_of (pages p)) e last → GoesRight pages e last.child.0 l → Covers pages l f
      → Covers pages p f
  covers_in e f [] p l last chains nodes placed inner covers up way of_l = absurd placed
  covers_in e f (level ∷ []) p l last chains nodes (inl has) inner covers up way of_l =
      let node = each_has (IsNode size pages owner 0 []) level p has nodes.0 in
      let on_level = node.on_level in absurd (omega arith)
  covers_in e f (level ∷ next ∷ rest) p l last chains nodes (inl has) inner covers up way of_l =
      fence_on_parent e f (length rest) next (first_level rest) chains.0.0 chains.1.0.0 level p l last chains.0.1
      nodes.0 has chains.1.0.1 nodes.1.0 covers up way of_l
  covers_in e f (level ∷ below) p l last chains nodes (inr later) inner covers up way of_l =
      covers_in e f below p l last chains.1 nodes.1 later inner covers up way of_l

-- what lies between the fences of the page that a search comes to below a page lies between the fences
-- of that page
pub parents_cover : (size owner root : ℕ) (pages : Pages) (levels : List (List ℕ)) (e f : Entry)
    (p l : ℕ) (last : Entry) → IsTree size pages owner root levels → InTree levels p
    → 0 < level_in (pages p) → Covers pages p e → IsLastUpTo (entries_of (pages p)) e last
    → GoesRight pages e last.child.0 l → Covers pages l f → Covers pages p f
parents_cover size owner root pages levels e f p l last tree placed inner covers up way of_l =
    covers_in size pages owner e f levels p l last (chains_of pages root levels tree.levels_from) tree.nodes
    placed inner covers up way of_l
