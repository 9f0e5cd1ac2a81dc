-- Chains of pages, levels of trees and tables stand in one way at most.
use Rattle.std.proofs.Common.{◌≡◌, ◌≢◌, ◌<◌, ◌∙◌, ap, refl, sym, subst, arith, ℕ, Bool, suc, List, [], ◌∷◌, length}
use Rattle.std.specs.Prelude.{map}
use Rattle.std.proofs.lemmas.List.{nil_from_length}
use Rattle.mg_model.specs.declared.table.Index.{Index}
use Rattle.mg_model.specs.declared.table.Table.{Table}
use Rattle.mg_node.specs.NodePage.{entries_of, level_in, right_in}
use Rattle.mg_pointer.specs.PointerPage.{next_in}
use Rattle.mg_image.specs.Form.{Pages}
use Rattle.mg_image.specs.Indexes.{AreNodes, AreTrees, EachPage, IsNode, IsTree, LevelChain, Levels, above, first_child, first_level, lowest}
use Rattle.mg_image.specs.Sound.{HasTablePages}
use Rattle.mg_image.specs.Tables.{EachStand, LinkChain, PointerChain, Stand, ended, entries_in, goes}

-- ---- chains

zero_chain : (next : ℕ → ℕ) (n : ℕ) (ns : List ℕ) → LinkChain next n ns → n ≡ 0 → ns ≡ []
zero_chain next n ns ended zero_ = refl
zero_chain next n ns (goes m ms some more) zero_ = absurd (some zero_)

opens : (next : ℕ → ℕ) (n : ℕ) (ns : List ℕ) → LinkChain next n ns → n ≢ 0
    → (later : List ℕ) × (ns ≡ n ∷ later) × LinkChain next (next n) later
opens next n ns ended some = absurd (some refl)
opens next n ns (goes m ms some_ more) some = (ms, refl, more)

pub link_once : (next : ℕ → ℕ) (n : ℕ) (ms ns : List ℕ) → LinkChain next n ms
    → LinkChain next n ns → ms ≡ ns
link_once next n ms ns ended other = sym (zero_chain next n ns other refl)
link_once next n ms ns (goes k ks some more) other =
    let later = opens next k ns other some in
    ap (λ (xs : List ℕ). k ∷ xs) (link_once next (next k) ks later.0 more later.2) ∙ sym later.1

-- ---- trees

-- The levels from a page on begin with its level, and go on below it.
record Opened (pages : Pages) (n : ℕ) (levels : List (List ℕ)) : Type 0 where
  level : List ℕ
  below : List (List ℕ)
  is : levels ≡ level ∷ below
  chain : LevelChain pages n level
  more : 0 < length below → Levels pages (first_child (entries_of (pages n))) below

levels_open : (pages : Pages) (n : ℕ) (levels : List (List ℕ)) → Levels pages n levels
    → Opened pages n levels
levels_open pages n levels (lowest m level chain) = record {
  level = level;
  below = [];
  is = refl;
  chain = chain;
  more = λ some. absurd (omega arith);
}
levels_open pages n levels (above m level next below chain more) = record {
  level = level;
  below = next ∷ below;
  is = refl;
  chain = chain;
  more = λ some. more;
}

levels_once : (pages : Pages) (n : ℕ) (a b : List (List ℕ)) → Levels pages n a
    → Levels pages n b → length a ≡ length b → a ≡ b
levels_once pages n a b (lowest m level chain) other count =
    let opens_ = levels_open pages m b other in
    let same : level ≡ opens_.level =
    link_once (λ k. right_in (pages k)) m level opens_.level chain opens_.chain in
    let lengths : length b ≡ suc (length opens_.below) = ap length opens_.is in
    ap (λ (x : List ℕ). x ∷ []) same ∙ (ap (λ (x : List (List ℕ)). opens_.level ∷ x)
    (sym (nil_from_length opens_.below (omega arith))) ∙ sym opens_.is)
levels_once pages n a b (above m level next below chain more) other count =
    let opens_ = levels_open pages m b other in
    let same : level ≡ opens_.level =
    link_once (λ k. right_in (pages k)) m level opens_.level chain opens_.chain in
    let lengths : length b ≡ suc (length opens_.below) = ap length opens_.is in
    let rest : next ∷ below ≡ opens_.below =
    levels_once pages (first_child (entries_of (pages m))) (next ∷ below) opens_.below more
    (opens_.more (omega arith)) (omega arith) in
    ap (λ (x : List ℕ). x ∷ next ∷ below) same
    ∙ (ap (λ (x : List (List ℕ)). opens_.level ∷ x) rest ∙ sym opens_.is)

first_has : (P : ℕ → Type 0) (next : ℕ → ℕ) (first : ℕ) (ns : List ℕ)
    → LinkChain next first ns → EachPage P ns → first ≢ 0 → P first
first_has P next first ns ended each some = absurd (some refl)
first_has P next first ns (goes n ms other more) each some = each.0

-- a root stands so many levels up as it says
level_count : (size : ℕ) (pages : Pages) (owner root : ℕ) (levels : List (List ℕ))
    → IsTree size pages owner root levels → length levels ≡ suc (level_in (pages root))
level_count size pages owner root levels tree =
    let opens_ = levels_open pages root levels tree.levels_from in
    let nodes = subst (AreNodes size pages owner) opens_.is tree.nodes in
    let node = first_has (IsNode size pages owner (length opens_.below) (first_level opens_.below))
    (λ k. right_in (pages k)) root opens_.level opens_.chain nodes.0 tree.rooted in
    ap length opens_.is ∙ ap suc (sym node.on_level)

-- from a root there is one tree
pub one_tree : (size : ℕ) (pages : Pages) (owner root : ℕ) (a b : List (List ℕ))
    → IsTree size pages owner root a → IsTree size pages owner root b → a ≡ b
one_tree size pages owner root a b first second =
    levels_once pages root a b first.levels_from second.levels_from
    (level_count size pages owner root a first ∙ sym (level_count size pages owner root b second))

trees_once : (size : ℕ) (pages : Pages) (owner : ℕ) (indexes : List Index)
    (a b : List (List (List ℕ))) → AreTrees size pages owner indexes a
    → AreTrees size pages owner indexes b → a ≡ b
trees_once size pages owner [] [] [] first other = refl
trees_once size pages owner [] (l ∷ a) b first other = absurd first
trees_once size pages owner [] [] (l ∷ b) first other = absurd other
trees_once size pages owner (i ∷ is) [] b first other = absurd first
trees_once size pages owner (i ∷ is) (l ∷ a) [] first other = absurd other
trees_once size pages owner (i ∷ is) (l ∷ a) (m ∷ b) first other =
    let here : l ≡ m = one_tree size pages owner i.root.0 l m first.0 other.0 in
    let rest : a ≡ b = trees_once size pages owner is a b first.1 other.1 in λ k. here k ∷ rest k

-- ---- tables

pub same_stand : (in_primary : Bool) (size : ℕ) (pages : Pages) (s t : Stand)
    → HasTablePages in_primary size pages s → HasTablePages in_primary size pages t
    → s.table ≡ t.table → s ≡ t
same_stand in_primary size pages s t first second same = λ i. record {
  table = same i;
  pointers = chains i;
  data_pages = data_ i;
  trees = trees i;
}
  where
    chains : s.pointers ≡ t.pointers
    chains = link_once (λ n. next_in (pages n)) s.table.pointer.0 s.pointers t.pointers first.chain
        (subst (λ (x : Table). PointerChain pages x.pointer.0 t.pointers) (sym same) second.chain)

    data_ : s.data_pages ≡ t.data_pages
    data_ = first.entries ∙ (ap (entries_in pages) chains ∙ sym second.entries)

    trees : s.trees ≡ t.trees
    trees = trees_once size pages s.table.pointer.0 s.table.indexes s.trees t.trees
        first.trees (rw same second.trees)

pub same_stands : (in_primary : Bool) (size : ℕ) (pages : Pages) (ss ts : List Stand)
    → EachStand (HasTablePages in_primary size pages) ss
    → EachStand (HasTablePages in_primary size pages) ts
    → map (λ stand. stand.table) ss ≡ map (λ stand. stand.table) ts → ss ≡ ts
same_stands in_primary size pages [] [] first second same = refl
same_stands in_primary size pages [] (t ∷ ts) first second same = absurd cc
same_stands in_primary size pages (s ∷ ss) [] first second same = absurd cc
same_stands in_primary size pages (s ∷ ss) (t ∷ ts) first second same =
    let head : s.table ≡ t.table = cc in
    let tail : map (λ stand. stand.table) ss ≡ map (λ stand. stand.table) ts = cc in
    let here : s ≡ t = same_stand in_primary size pages s t first.0 second.0 head in
    let rest : ss ≡ ts = same_stands in_primary size pages ss ts first.1 second.1 tail in
    λ i. here i ∷ rest i
