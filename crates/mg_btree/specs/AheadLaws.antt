-- Laws of the places that pages have in a tree: ahead of others, or behind.
use Rattle.std.proofs.Common.{◌≡◌, ◌≢◌, ◌⊎◌, inl, inr, refl, sym, subst, ◌<◌, ◌==◌, ℕ, Bool, true, false, List, [], ◌∷◌, Option, length, arith, eq-eqb}
use Rattle.std.specs.Prelude.{if◌then◌else◌}
use Rattle.std.proofs.lemmas.Bool.{cases_eq, ne_eqb}
use Rattle.mg_node.specs.declared.entry.Entry.{Entry}
use Rattle.mg_node.specs.NodePage.{entries_of, level_in, low_of, right_in}
use Rattle.mg_image.specs.Form.{Pages}
use Rattle.mg_image.specs.Indexes.{AreChildren, AreNodes, HasChildren, IsNode, first_level}
use Rattle.mg_image.specs.Tables.{Has, IsOnce, LinkChain, ended, goes}
use Rattle.mg_tree_overlay_laws.specs.TreeSteps.{InTree, after, split_levels}
use Rattle.mg_tree_overlay_laws.specs.TreesBehind.{HasChild}
use Rattle.mg_tree_overlay_laws.specs.StepLaws.{each_has, first_in, has_right, has_wider}
use Rattle.mg_tree_overlay_laws.specs.SplitParts.{level_less, tree_right, tree_wider}
use Rattle.mg_tree_overlay_laws.specs.GrowLaws.{AreChains}
use Rattle.mg_btree.specs.Climbing.{IsAhead, IsLeftOf}
use Rattle.mg_btree.specs.SearchLaws.{chain_once}

-- ---- places in the lists of a tree

pub left_from : (ns : List ℕ) (a b : ℕ) → IsLeftOf ns a b → Has ns a
left_from [] a b left = absurd left
left_from (n ∷ ns) a b (inl here) = inl here.0
left_from (n ∷ ns) a b (inr left) = inr (left_from ns a b left)

pub left_to : (ns : List ℕ) (a b : ℕ) → IsLeftOf ns a b → Has ns b
left_to [] a b left = absurd left
left_to (n ∷ ns) a b (inl here) = inr here.1
left_to (n ∷ ns) a b (inr left) = inr (left_to ns a b left)

left_itself : (ns : List ℕ) (a : ℕ) → IsOnce ns → IsLeftOf ns a a → ⊥
left_itself [] a once left = left
left_itself (n ∷ ns) a once (inl here) = once.0 (subst (Has ns) here.0 here.1)
left_itself (n ∷ ns) a once (inr left) = left_itself ns a once.1 left

left_on : (ns : List ℕ) (a b c : ℕ) → IsOnce ns → IsLeftOf ns a b → IsLeftOf ns b c → IsLeftOf ns a c
left_on [] a b c once first second = first
left_on (n ∷ ns) a b c once (inl here) (inl there) = inl (here.0, there.1)
left_on (n ∷ ns) a b c once (inl here) (inr left) = inl (here.0, left_to ns b c left)
left_on (n ∷ ns) a b c once (inr left) (inl there) =
    absurd (once.0 (subst (Has ns) there.0 (left_to ns a b left)))
left_on (n ∷ ns) a b c once (inr left) (inr more) = inr (left_on ns a b c once.1 left more)

pub ahead_from : (levels : List (List ℕ)) (a b : ℕ) → IsAhead levels a b → InTree levels a
ahead_from [] a b ahead = absurd ahead
ahead_from (level ∷ below) a b (inl here) = inl here.0
ahead_from (level ∷ below) a b (inr (inl left)) = inl (left_from level a b left)
ahead_from (level ∷ below) a b (inr (inr ahead)) = inr (ahead_from below a b ahead)

pub ahead_to : (levels : List (List ℕ)) (a b : ℕ) → IsAhead levels a b → InTree levels b
ahead_to [] a b ahead = absurd ahead
ahead_to (level ∷ below) a b (inl here) = inr here.1
ahead_to (level ∷ below) a b (inr (inl left)) = inl (left_to level a b left)
ahead_to (level ∷ below) a b (inr (inr ahead)) = inr (ahead_to below a b ahead)

-- a page behind another one, put into a level
left_after : (l r : ℕ) (ns : List ℕ) (a b : ℕ) → IsLeftOf ns a b → IsLeftOf (after l r ns) a b
left_after l r [] a b left = left
left_after l r (n ∷ ns) a b left = at (n == l) left (left_after l r ns a b)
  where
    at : (c : Bool) → IsLeftOf (n ∷ ns) a b → (IsLeftOf ns a b → IsLeftOf (after l r ns) a b)
        → IsLeftOf (if c then n ∷ r ∷ after l r ns else n ∷ after l r ns) a b
    at true (inl here) more = inl (here.0, inr (has_wider l r ns b here.1))
    at true (inr left) more = inr (inr (more left))
    at false (inl here) more = inl (here.0, has_wider l r ns b here.1)
    at false (inr left) more = inr (more left)

-- it stands right behind that one
left_new : (l r : ℕ) (ns : List ℕ) → Has ns l → IsLeftOf (after l r ns) l r
left_new l r [] has = absurd has
left_new l r (n ∷ ns) has = at (cases_eq n l) has (left_new l r ns)
  where
    at : (n ≡ l) ⊎ (n ≢ l) → (l ≡ n) ⊎ Has ns l → (Has ns l → IsLeftOf (after l r ns) l r)
        → IsLeftOf (if n == l then n ∷ r ∷ after l r ns else n ∷ after l r ns) l r
    at (inl same) which more = rw (eq-eqb n l same) (inl (sym same, inl refl))
    at (inr other) (inl same) more = absurd (other (sym same))
    at (inr other) (inr later) more = rw (ne_eqb n l other) (inr (more later))

-- what is to the left of that one is so of it
left_also : (l r : ℕ) (ns : List ℕ) (a : ℕ) → IsLeftOf ns a l → IsLeftOf (after l r ns) a r
left_also l r [] a left = left
left_also l r (n ∷ ns) a left = at (n == l) left (left_also l r ns a)
  where
    at : (c : Bool) → IsLeftOf (n ∷ ns) a l → (IsLeftOf ns a l → IsLeftOf (after l r ns) a r)
        → IsLeftOf (if c then n ∷ r ∷ after l r ns else n ∷ after l r ns) a r
    at true (inl here) more = inl (here.0, inl refl)
    at true (inr left) more = inr (inr (more left))
    at false (inl here) more = inl (here.0, has_right l r ns here.1)
    at false (inr left) more = inr (more left)

-- and what that one is to the left of
left_of_new : (l r : ℕ) (ns : List ℕ) (b : ℕ) → IsLeftOf ns l b → IsLeftOf (after l r ns) r b
left_of_new l r [] b left = left
left_of_new l r (n ∷ ns) b left = at (cases_eq n l) left (left_of_new l r ns b)
  where
    at : (n ≡ l) ⊎ (n ≢ l) → ((l ≡ n) × Has ns b) ⊎ IsLeftOf ns l b
        → (IsLeftOf ns l b → IsLeftOf (after l r ns) r b)
        → IsLeftOf (if n == l then n ∷ r ∷ after l r ns else n ∷ after l r ns) r b
    at (inl same) (inl here) more = rw (eq-eqb n l same) (inr (inl (refl, has_wider l r ns b here.1)))
    at (inl same) (inr left) more = rw (eq-eqb n l same) (inr (inr (more left)))
    at (inr other) (inl here) more = absurd (other (sym here.0))
    at (inr other) (inr left) more = rw (ne_eqb n l other) (inr (more left))

-- ---- a page splits

pub ahead_split : (l r : ℕ) (levels : List (List ℕ)) (a b : ℕ) → IsAhead levels a b
    → IsAhead (split_levels l r levels) a b
ahead_split l r [] a b ahead = ahead
ahead_split l r (level ∷ below) a b (inl here) =
    inl (has_wider l r level a here.0, tree_wider l r below b here.1)
ahead_split l r (level ∷ below) a b (inr (inl left)) = inr (inl (left_after l r level a b left))
ahead_split l r (level ∷ below) a b (inr (inr ahead)) = inr (inr (ahead_split l r below a b ahead))

pub ahead_new : (l r : ℕ) (levels : List (List ℕ)) → InTree levels l → IsAhead (split_levels l r levels) l r
ahead_new l r [] has = absurd has
ahead_new l r (level ∷ below) (inl has) = inr (inl (left_new l r level has))
ahead_new l r (level ∷ below) (inr has) = inr (inr (ahead_new l r below has))

pub ahead_also : (l r : ℕ) (levels : List (List ℕ)) (a : ℕ) → IsAhead levels a l
    → IsAhead (split_levels l r levels) a r
ahead_also l r [] a ahead = ahead
ahead_also l r (level ∷ below) a (inl here) =
    inl (has_wider l r level a here.0, tree_right l r below here.1)
ahead_also l r (level ∷ below) a (inr (inl left)) = inr (inl (left_also l r level a left))
ahead_also l r (level ∷ below) a (inr (inr ahead)) = inr (inr (ahead_also l r below a ahead))

pub ahead_of_new : (l r : ℕ) (levels : List (List ℕ)) (b : ℕ) → IsAhead levels l b
    → IsAhead (split_levels l r levels) r b
ahead_of_new l r [] b ahead = ahead
ahead_of_new l r (level ∷ below) b (inl here) =
    inl (has_right l r level here.0, tree_wider l r below b here.1)
ahead_of_new l r (level ∷ below) b (inr (inl left)) = inr (inl (left_of_new l r level b left))
ahead_of_new l r (level ∷ below) b (inr (inr ahead)) = inr (inr (ahead_of_new l r below b ahead))

-- ---- the pages that a page of a tree names are behind it

module _ (size : ℕ) (pages : Pages) (owner : ℕ) where
  child_has : (below : List ℕ) (es : List Entry) (n : ℕ) → AreChildren pages below es → HasChild es n
      → Has below n
  child_has below [] n are has = absurd has
  child_has below (e ∷ es) n are (inl same) = subst (Has below) same are.0
  child_has below (e ∷ es) n are (inr has) = child_has below es n are.2 has

  pub child_on : (below : List ℕ) (low : Option Entry) (es : List Entry) (n : ℕ)
      → HasChildren pages below low es → HasChild es n → Has below n
  child_on below low [] n are has = absurd has
  child_on below low (e ∷ es) n are (inl same) = subst (Has below) same are.0
  child_on below low (e ∷ es) n are (inr has) = child_has below es n are.2 has

  pub first_there : (levels : List (List ℕ)) (n : ℕ) → Has (first_level levels) n → InTree levels n
  first_there [] n has = absurd has
  first_there (level ∷ below) n has = inl has

  -- a child is on the level below
  pub ahead_of_child : (levels : List (List ℕ)) (l n : ℕ) → AreNodes size pages owner levels → InTree levels l
      → 0 < level_in (pages l) → HasChild (entries_of (pages l)) n → IsAhead levels l n
  ahead_of_child [] l n nodes placed inner has = absurd placed
  ahead_of_child (level ∷ below) l n nodes (inl there) inner has =
      let node = each_has (IsNode size pages owner (length below) (first_level below)) level l there nodes.0 in
      let on = node.on_level in
      inl (
        there,
        first_there below n (child_on (first_level below) (low_of (pages l)) (entries_of (pages l)) n
            (node.children (omega (arith, on, inner))) has),
      )
  ahead_of_child (level ∷ below) l n nodes (inr later) inner has =
      inr (inr (ahead_of_child below l n nodes.1 later inner has))

  -- a right neighbour is to the right
  left_of_right : (first : ℕ) (ns : List ℕ) (l : ℕ) → LinkChain (λ k. right_in (pages k)) first ns
      → Has ns l → right_in (pages l) ≢ 0 → IsLeftOf ns l (right_in (pages l))
  left_of_right first ns l ended has some = absurd has
  left_of_right first ns l (goes k ks apart more) (inl same) some =
      inl (
        same,
        subst (λ (m : ℕ). Has ks (right_in (pages m))) (sym same)
            (first_in (λ m. right_in (pages m)) (right_in (pages k)) ks more
            (subst (λ (m : ℕ). right_in (pages m) ≢ 0) same some)),
      )
  left_of_right first ns l (goes k ks apart more) (inr later) some =
      inr (left_of_right (right_in (pages k)) ks l more later some)

  pub ahead_of_right : (levels : List (List ℕ)) (l : ℕ) → AreChains pages levels → InTree levels l
      → right_in (pages l) ≢ 0 → IsAhead levels l (right_in (pages l))
  ahead_of_right [] l chains placed some = absurd placed
  ahead_of_right (level ∷ below) l chains (inl has) some =
      inr (inl (left_of_right chains.0.0 level l chains.0.1 has some))
  ahead_of_right (level ∷ below) l chains (inr later) some =
      inr (inr (ahead_of_right below l chains.1 later some))

  -- a page on a higher level is above
  pub ahead_higher : (levels : List (List ℕ)) (p l : ℕ) → AreNodes size pages owner levels → InTree levels p
      → InTree levels l → level_in (pages l) < level_in (pages p) → IsAhead levels p l
  ahead_higher [] p l nodes has_p has_l higher = absurd has_p
  ahead_higher (level ∷ below) p l nodes (inl has_p) (inr has_l) higher = inl (has_p, has_l)
  ahead_higher (level ∷ below) p l nodes (inr has_p) (inr has_l) higher =
      inr (inr (ahead_higher below p l nodes.1 has_p has_l higher))
  ahead_higher (level ∷ below) p l nodes (inl has_p) (inl has_l) higher =
      let of_p = (each_has (IsNode size pages owner (length below) (first_level below)) level p has_p
      nodes.0).on_level in
      let of_l = (each_has (IsNode size pages owner (length below) (first_level below)) level l has_l
      nodes.0).on_level in absurd (omega (arith, of_p, of_l, higher))
  ahead_higher (level ∷ below) p l nodes (inr has_p) (inl has_l) higher =
      let of_p = level_less size pages owner below p nodes.1 has_p in
      let of_l = (each_has (IsNode size pages owner (length below) (first_level below)) level l has_l
      nodes.0).on_level in absurd (omega (arith, of_p, of_l, higher))

  -- no page stands on two levels, nor twice on one
  not_both : (level : List ℕ) (below : List (List ℕ)) (n : ℕ) → AreNodes size pages owner (level ∷ below)
      → Has level n → InTree below n → ⊥
  not_both level below n nodes has later =
      let on = (each_has (IsNode size pages owner (length below) (first_level below)) level n has
      nodes.0).on_level in
      let less = level_less size pages owner below n nodes.1 later in omega (arith, on, less)

  pub ahead_itself : (levels : List (List ℕ)) (n : ℕ) → AreNodes size pages owner levels
      → AreChains pages levels → IsAhead levels n n → ⊥
  ahead_itself [] n nodes chains ahead = ahead
  ahead_itself (level ∷ below) n nodes chains (inl here) = not_both level below n nodes here.0 here.1
  ahead_itself (level ∷ below) n nodes chains (inr (inl left)) =
      left_itself level n (chain_once (λ k. right_in (pages k)) chains.0.0 level chains.0.1) left
  ahead_itself (level ∷ below) n nodes chains (inr (inr ahead)) =
      ahead_itself below n nodes.1 chains.1 ahead

  pub ahead_on : (levels : List (List ℕ)) (a b c : ℕ) → AreNodes size pages owner levels
      → AreChains pages levels → IsAhead levels a b → IsAhead levels b c → IsAhead levels a c
  ahead_on [] a b c nodes chains first second = first
  ahead_on (level ∷ below) a b c nodes chains (inl here) (inl there) =
      absurd (not_both level below b nodes there.0 here.1)
  ahead_on (level ∷ below) a b c nodes chains (inl here) (inr (inl left)) =
      absurd (not_both level below b nodes (left_from level b c left) here.1)
  ahead_on (level ∷ below) a b c nodes chains (inl here) (inr (inr ahead)) =
      inl (here.0, ahead_to below b c ahead)
  ahead_on (level ∷ below) a b c nodes chains (inr (inl left)) (inl there) =
      inl (left_from level a b left, there.1)
  ahead_on (level ∷ below) a b c nodes chains (inr (inl left)) (inr (inl more)) =
      inr (inl (left_on level a b c (chain_once (λ k. right_in (pages k)) chains.0.0 level chains.0.1) left
      more))
  ahead_on (level ∷ below) a b c nodes chains (inr (inl left)) (inr (inr ahead)) =
      absurd (not_both level below b nodes (left_to level a b left) (ahead_from below b c ahead))
  ahead_on (level ∷ below) a b c nodes chains (inr (inr ahead)) (inl there) =
      absurd (not_both level below b nodes there.0 (ahead_to below a b ahead))
  ahead_on (level ∷ below) a b c nodes chains (inr (inr ahead)) (inr (inl left)) =
      absurd (not_both level below b nodes (left_from level b c left) (ahead_to below a b ahead))
  ahead_on (level ∷ below) a b c nodes chains (inr (inr ahead)) (inr (inr more)) =
      inr (inr (ahead_on below a b c nodes.1 chains.1 ahead more))
