-- Laws of trees: levels are opened one by one, and a root has one tree at most.
use Rattle.std.proofs.Common.{◌≡◌, ◌≢◌, ◌∙◌, ap, refl, sym, subst, ◌<◌, ℕ, suc, List, [], ◌∷◌, length, arith}
use Rattle.std.proofs.lemmas.List.{nil_from_length}
use Rattle.mg_node.specs.NodePage.{entries_of, level_in, right_in}
use Rattle.mg_image.specs.Form.{Pages}
use Rattle.mg_image.specs.Indexes.{AreNodes, EachPage, IsNode, IsTree, LevelChain, Levels, above, first_child, first_level, lowest}
use Rattle.mg_image.specs.Tables.{LinkChain, ended, goes}
use Rattle.mg_reading.specs.ChainLaws.{link_once}
use Rattle.mg_trees.specs.Trees.{HasLevelsFrom, HasTree}

-- the page that a level begins with has a property of all
pub first_has : (P : ℕ → Type 0) (next : ℕ → ℕ) (first : ℕ) (ns : List ℕ)
    → LinkChain next first ns → EachPage P ns → first ≢ 0 → P first
first_has P next first ns ended each some = absurd (some refl)
first_has P next first ns (goes n ms other more) each some = each.0

-- The levels from a page on begin with its level, and go on below it.
pub record Opened (pages : Pages) (n : ℕ) (levels : List (List ℕ)) : Type 0 where
  pub level : List ℕ
  pub below : List (List ℕ)
  pub is : levels ≡ level ∷ below
  pub chain : LevelChain pages n level
  pub more : 0 < length below → Levels pages (first_child (entries_of (pages n))) below

pub levels_open : (pages : Pages) (n : ℕ) (levels : List (List ℕ)) → Levels pages n levels
    → Opened pages n levels
levels_open pages n levels (lowest m level chain) = record {
  level = level;
  below = [];
  is = refl;
  chain = chain;
  more = λ some. absurd (omega arith);
}
levels_open pages n levels (above m level next below chain more) = record {
  level = level;
  below = next ∷ below;
  is = refl;
  chain = chain;
  more = λ some. more;
}

-- from a page on there are levels of one kind at most, so many of them
pub levels_once : (pages : Pages) (n : ℕ) (a b : List (List ℕ)) → Levels pages n a
    → Levels pages n b → length a ≡ length b → a ≡ b
levels_once pages n a b (lowest m level chain) other count =
    let opens = levels_open pages m b other in
    let same : level ≡ opens.level =
    link_once (λ k. right_in (pages k)) m level opens.level chain opens.chain in
    let lengths : length b ≡ suc (length opens.below) = ap length opens.is in
    ap (λ (x : List ℕ). x ∷ []) same ∙ (ap (λ (x : List (List ℕ)). opens.level ∷ x)
    (sym (nil_from_length opens.below (omega arith))) ∙ sym opens.is)
levels_once pages n a b (above m level next below chain more) other count =
    let opens = levels_open pages m b other in
    let same : level ≡ opens.level =
    link_once (λ k. right_in (pages k)) m level opens.level chain opens.chain in
    let lengths : length b ≡ suc (length opens.below) = ap length opens.is in
    let rest : next ∷ below ≡ opens.below =
    levels_once pages (first_child (entries_of (pages m))) (next ∷ below) opens.below more
    (opens.more (omega arith)) (omega arith) in
    ap (λ (x : List ℕ). x ∷ next ∷ below) same
    ∙ (ap (λ (x : List (List ℕ)). opens.level ∷ x) rest ∙ sym opens.is)

-- the levels of a tree are levels from its root on
pub levels_of_tree : (size : ℕ) (pages : Pages) (owner root : ℕ) → root ≢ 0
    → HasTree size pages owner root
    → HasLevelsFrom size pages owner (level_in (pages root)) root
levels_of_tree size pages owner root some has =
    let opens = levels_open pages root has.0 has.1.levels_from in
    let nodes = subst (AreNodes size pages owner) opens.is has.1.nodes in
    let node = first_has (IsNode size pages owner (length opens.below) (first_level opens.below))
    (λ k. right_in (pages k)) root opens.level opens.chain nodes.0 some in (
      has.0,
      record {
        levels_from = has.1.levels_from;
        nodes = has.1.nodes;
        count = ap length opens.is ∙ ap suc (sym node.on_level);
      },
    )

-- there is one tree at most from a root on
pub tree_once : (size : ℕ) (pages : Pages) (owner root : ℕ) (a b : List (List ℕ))
    → IsTree size pages owner root a → IsTree size pages owner root b → a ≡ b
unfolding levels_of_tree
tree_once size pages owner root a b first second =
    levels_once pages root a b first.levels_from second.levels_from
    ((levels_of_tree size pages owner root first.rooted (a, first)).1.count
    ∙ sym (levels_of_tree size pages owner root first.rooted (b, second)).1.count)
