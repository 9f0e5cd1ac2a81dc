-- No page stands twice in an index tree: by its chains, and by the levels that its pages name. And what that gives of
-- its pages as a list.
use Rattle.std.proofs.Common.{◌≡◌, ◌⊎◌, inl, inr, refl, sym, subst, arith, ◌<◌, ℕ, suc, List, [], ◌∷◌, ◌++◌, length}
use Rattle.mg_node.specs.NodePage.{entries_of, level_in, right_in}
use Rattle.mg_image.specs.Form.{Pages}
use Rattle.mg_image.specs.Indexes.{AreNodes, IsNode, Levels, above, first_child, first_level, lowest}
use Rattle.mg_image.specs.Tables.{Has, IsOnce, LinkChain, ended, goes}
use Rattle.mg_tree_overlay_laws.specs.StepLaws.{each_has}
use Rattle.mg_tree_overlay_laws.specs.TreePages.{TreesAreOnce, all_of}
use Rattle.mg_tree_overlay_laws.specs.TreeSteps.{InTree}

-- ---- lists

pub has_front : (ms ns : List ℕ) (n : ℕ) → Has ms n → Has (ms ++ ns) n
has_front [] ns n is = absurd is
has_front (m ∷ ms) ns n (inl e) = inl e
has_front (m ∷ ms) ns n (inr more) = inr (has_front ms ns n more)

pub has_back : (ms ns : List ℕ) (n : ℕ) → Has ns n → Has (ms ++ ns) n
has_back [] ns n is = is
has_back (m ∷ ms) ns n is = inr (has_back ms ns n is)

pub has_either : (ms ns : List ℕ) (n : ℕ) → Has (ms ++ ns) n → Has ms n ⊎ Has ns n
has_either [] ns n is = inr is
has_either (m ∷ ms) ns n (inl e) = inl (inl e)
has_either (m ∷ ms) ns n (inr more) = by (has_either ms ns n more)
  where
    by : Has ms n ⊎ Has ns n → Has (m ∷ ms) n ⊎ Has ns n
    by (inl is) = inl (inr is)
    by (inr is) = inr is

-- a page of a tree is one of its levels' pages, and the other way round
pub in_levels : (levels : List (List ℕ)) (n : ℕ) → InTree levels n → Has (all_of levels) n
in_levels [] n is = is
in_levels (level ∷ levels) n (inl here) = has_front level (all_of levels) n here
in_levels (level ∷ levels) n (inr below) = has_back level (all_of levels) n (in_levels levels n below)

pub has_placed : (levels : List (List ℕ)) (n : ℕ) → Has (all_of levels) n → InTree levels n
has_placed [] n is = is
has_placed (level ∷ below) n is = at (has_either level (all_of below) n is) (has_placed below n)
  where
    at : Has level n ⊎ Has (all_of below) n → (Has (all_of below) n → InTree below n) → InTree (level ∷ below) n
    at (inl here) more = inl here
    at (inr later) more = inr (more later)

pub once_both : (ms ns : List ℕ) → IsOnce ms → IsOnce ns → ((m : ℕ) → Has ms m → Has ns m → ⊥)
    → IsOnce (ms ++ ns)
once_both [] ns first second apart = second
once_both (m ∷ ms) ns first second apart = (
  (λ is. by (has_either ms ns m is)),
  once_both ms ns first.1 second (λ k here_ there. apart k (inr here_) there),
)
  where
    by : Has ms m ⊎ Has ns m → ⊥
    by (inl here_) = first.0 here_
    by (inr there) = apart m (inl refl) there

-- ---- a chain comes to no page twice

record RestOf (next : ℕ → ℕ) (n count : ℕ) : Type 0 where
  pub rest : List ℕ
  pub chain : LinkChain next n rest
  pub few : length rest < count

same_length : (next : ℕ → ℕ) (first : ℕ) (ms ns : List ℕ) → LinkChain next first ms
    → LinkChain next first ns → length ms ≡ length ns
same_length next first [] [] a b = omega arith
same_length next first [] (n ∷ ns) ended (goes k ks some more) = absurd (some omega arith)
same_length next first (m ∷ ms) [] (goes k ks some more) ended = absurd (some omega arith)
same_length next first (m ∷ ms) (n ∷ ns) (goes k ks some more) (goes j js other rest) =
    let same = same_length next (next m) ms ns more rest in omega (arith, same)

rest_of : (next : ℕ → ℕ) (first : ℕ) (ns : List ℕ) (n : ℕ) → LinkChain next first ns → Has ns n
    → RestOf next n (suc (length ns))
rest_of next first ns n ended has = absurd has
rest_of next first ns n (goes k ks some more) (inl same) = record {
  rest = k ∷ ks;
  chain = subst (λ (m : ℕ). LinkChain next m (k ∷ ks)) (sym same) (goes k ks some more);
  few = omega arith;
}
rest_of next first ns n (goes k ks some more) (inr later) =
    let there = rest_of next (next k) ks n more later in
    record { rest = there.rest; chain = there.chain; few = let few = there.few in omega (arith, few) }

pub chain_once : (next : ℕ → ℕ) (first : ℕ) (ns : List ℕ) → LinkChain next first ns → IsOnce ns
chain_once next first ns ended = tt
chain_once next first ns (goes k ks some more) = (back, chain_once next (next k) ks more)
  where
    back : Has ks k → ⊥
    back has =
        let again = rest_of next (next k) ks k more has in
        let same = same_length next k (k ∷ ks) again.rest (goes k ks some more) again.chain in
        let few = again.few in omega (arith, same, few)

-- ---- the levels

level_under : (size : ℕ) (pages : Pages) (owner : ℕ) (levels : List (List ℕ))
    → AreNodes size pages owner levels → (n : ℕ) → Has (all_of levels) n
    → level_in (pages n) < length levels
level_under size pages owner [] nodes n has = absurd has
level_under size pages owner (level ∷ below) nodes n has =
    at (has_either level (all_of below) n has) (level_under size pages owner below nodes.1 n)
  where
    at : Has level n ⊎ Has (all_of below) n → (Has (all_of below) n → level_in (pages n) < length below)
        → level_in (pages n) < length (level ∷ below)
    at (inl here) more =
        let its = (each_has (IsNode size pages owner (length below) (first_level below)) level n here nodes.0).on_level in
        omega (arith, its)
    at (inr later) more = let less = more later in omega (arith, less)

levels_once : (size : ℕ) (pages : Pages) (owner n : ℕ) (levels : List (List ℕ)) → Levels pages n levels
    → AreNodes size pages owner levels → IsOnce (all_of levels)
levels_once size pages owner n levels (lowest k level chain) nodes =
    once_both level [] (chain_once (λ m. right_in (pages m)) k level chain) tt (λ m here none. none)
levels_once size pages owner n levels (above k level next below chain more) nodes =
    once_both level (all_of (next ∷ below)) (chain_once (λ m. right_in (pages m)) k level chain)
    (levels_once size pages owner (first_child (entries_of (pages k))) (next ∷ below) more nodes.1)
    (λ m here later.
    let its = (each_has (IsNode size pages owner (length (next ∷ below)) (first_level (next ∷ below))) level m here nodes.0).on_level in
    let less = level_under size pages owner (next ∷ below) nodes.1 m later in
    omega (arith, its, less))

-- no page stands twice in a tree
pub tree_once : TreesAreOnce
tree_once size pages owner root levels tree = levels_once size pages owner root levels tree.levels_from tree.nodes
