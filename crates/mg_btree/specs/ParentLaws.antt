-- The page above one that splits has no entry of the place at which it splits.
use Rattle.std.proofs.Common.{◌≡◌, ◌≢◌, ◌⊎◌, inl, inr, ◌∙◌, ap, refl, sym, subst, ℕ, suc, List, [], ◌∷◌, Option, Some, None, length, arith}
use Rattle.std.specs.Prelude.{IfSome}
use Rattle.std.proofs.lemmas.Bool.{lt-ltb}
use Rattle.std.specs.Ordering.{nat_cmp, ordering_then}
use Rattle.std.specs.Cmp.Lexicographic.{slice_cmp}
use Rattle.std.specs.declared.cmp.Ordering.TheVariants.{Less}
use Rattle.mg_node.specs.declared.entry.Entry.{Entry}
use Rattle.mg_node.specs.NodePage.{BeginsAsInner, IsAtLeast, IsBelow, IsFirstEntry, IsLeast, SamePlace, entries_of, high_of, level_in, low_of}
use Rattle.mg_image.specs.Form.{Pages}
use Rattle.mg_image.specs.Indexes.{AreChildren, AreNodes, HasChildren, HasEntry, IsNode, IsTree, as_fence, first_level}
use Rattle.mg_image.specs.Tables.{Has}
use Rattle.mg_tree_overlay_laws.specs.TreeSteps.{InTree}
use Rattle.mg_tree_overlay_laws.specs.TreesBehind.{Covers, IsFrom}
use Rattle.mg_tree_overlay_laws.specs.EntryLaws.{number_not_less, then_not_less}
use Rattle.mg_tree_overlay_laws.specs.StepLaws.{each_has}
use Rattle.mg_tree_overlay_laws.specs.SplitParts.{level_less}
use Rattle.mg_tree_overlay_laws.specs.GrowLaws.{AreChains, chains_of}
use Rattle.mg_tree_overlay_laws.specs.DescentLaws.{not_below_itself, one_page}
use Rattle.mg_btree.specs.Halves.{HasPlace}

key_not_less : (key : List ℕ) → slice_cmp nat_cmp key [] ≢ Less
key_not_less [] = λ less. cc
key_not_less (k ∷ ks) = λ less. cc

-- nothing comes before the least entry
pub none_below_least : (e x : Entry) → IsLeast x → IsBelow e x → ⊥
none_below_least e x least less =
    let up : IsAtLeast e x = rw (least.key, least.page, least.slot) (then_not_less (slice_cmp nat_cmp e.key [])
    (ordering_then (nat_cmp e.rec.page.0 0) (nat_cmp e.rec.slot 0)) (key_not_less e.key)
    (then_not_less (nat_cmp e.rec.page.0 0) (nat_cmp e.rec.slot 0) (number_not_less e.rec.page.0)
    (number_not_less e.rec.slot))) in up less

-- a child of an entry, and its low fence
first_or_later : (pages : Pages) (below : List ℕ) (low : Option Entry) (es : List Entry) (f : Entry)
    → HasChildren pages below low es → BeginsAsInner low es → HasEntry es f
    → Has below f.child.0 × ((low_of (pages f.child.0) ≡ Some (as_fence f))
    ⊎ ((low_of (pages f.child.0) ≡ low) × IsFirstEntry low f))
first_or_later pages below low [] f are first has = absurd has
first_or_later pages below low (x ∷ xs) f are first (inl same) =
    subst (λ (y : Entry). Has below y.child.0 × ((low_of (pages y.child.0) ≡ Some (as_fence y))
    ⊎ ((low_of (pages y.child.0) ≡ low) × IsFirstEntry low y))) (sym same)
    (are.0, inr (are.1, first))
first_or_later pages below low (x ∷ xs) f are first (inr later) = rest xs are.2 later
  where
    rest : (xs : List Entry) → AreChildren pages below xs → HasEntry xs f
        → Has below f.child.0 × ((low_of (pages f.child.0) ≡ Some (as_fence f))
        ⊎ ((low_of (pages f.child.0) ≡ low) × IsFirstEntry low f))
    rest [] are has = absurd has
    rest (y ∷ ys) are (inl same) =
        subst (λ (z : Entry). Has below z.child.0 × ((low_of (pages z.child.0) ≡ Some (as_fence z))
        ⊎ ((low_of (pages z.child.0) ≡ low) × IsFirstEntry low z))) (sym same)
        (are.0, inl are.1)
    rest (y ∷ ys) are (inr later) = rest ys are.2 later

same_fence : (e f : Entry) → SamePlace e f → as_fence e ≡ as_fence f
same_fence e f same = rw (same.key, same.rec) refl

-- a child whose low fence has the place of an entry covers it, and nothing there comes before it
below_high : (e fence : Entry) (low high : Option Entry) → as_fence e ≡ as_fence fence → low ≡ Some fence
    → IfSome low (λ a. IfSome high (λ b. IsBelow a b)) → IfSome high (λ b. IsBelow e b)
below_high e fence low None same is range = tt
below_high e fence low (Some b) same is range =
    let less : IsBelow fence b = subst (λ (x : Option Entry). IfSome x (λ a. IsBelow a b)) is range in
    subst (λ (x : Entry). IsBelow x b) (sym same) less

at_least_fence : (e fence : Entry) (low : Option Entry) → as_fence e ≡ as_fence fence → low ≡ Some fence
    → (x : Entry) → IfSome low (λ a. IsAtLeast x a) → IsBelow x e → ⊥
at_least_fence e fence low same is x from less =
    (subst (λ (y : Option Entry). IfSome y (λ a. IsAtLeast x a)) is from)
    (subst (λ (y : Entry). IsBelow x y) same less)

from_fence : (e fence : Entry) (low : Option Entry) → as_fence e ≡ as_fence fence → low ≡ Some fence
    → (IsBelow e fence → ⊥) → IfSome low (λ a. IsAtLeast e a)
from_fence e fence low same is up = rw is (λ less. up less)

module _ (size : ℕ) (pages : Pages) (owner : ℕ) (e : Entry) where
  -- on one level one page covers an entry
  pub one_in_tree : (levels : List (List ℕ)) (n m : ℕ) → AreChains pages levels
      → AreNodes size pages owner levels → InTree levels n → InTree levels m
      → level_in (pages n) ≡ level_in (pages m) → Covers pages n e → Covers pages m e → n ≡ m
  one_in_tree [] n m chains nodes has_n has_m same of_n of_m = absurd has_n
  one_in_tree (level ∷ below) n m chains nodes (inl has) (inl too) same of_n of_m =
      one_page size pages owner (length below) (first_level below) e chains.0.0 level n m chains.0.1 nodes.0
      has too of_n of_m
  one_in_tree (level ∷ below) n m chains nodes (inr later) (inr deeper) same of_n of_m =
      one_in_tree below n m chains.1 nodes.1 later deeper same of_n of_m
  one_in_tree (level ∷ below) n m chains nodes (inl has) (inr deeper) same of_n of_m =
      let node = each_has (IsNode size pages owner (length below) (first_level below)) level n has nodes.0 in
      let on_level = node.on_level in
      let less = level_less size pages owner below m nodes.1 deeper in absurd (omega arith)
  one_in_tree (level ∷ below) n m chains nodes (inr later) (inl too) same of_n of_m =
      let node = each_has (IsNode size pages owner (length below) (first_level below)) level m too nodes.0 in
      let on_level = node.on_level in
      let less = level_less size pages owner below n nodes.1 later in absurd (omega arith)

  -- the child of an entry of an inner page
  child_there : (levels : List (List ℕ)) (p k : ℕ) (f : Entry) → AreNodes size pages owner levels
      → InTree levels p → level_in (pages p) ≡ suc k → HasEntry (entries_of (pages p)) f
      → InTree levels f.child.0 × (level_in (pages f.child.0) ≡ k)
      × ((low_of (pages f.child.0) ≡ Some (as_fence f))
      ⊎ ((low_of (pages f.child.0) ≡ low_of (pages p)) × IsFirstEntry (low_of (pages p)) f))
      × IfSome (low_of (pages f.child.0)) (λ a. IfSome (high_of (pages f.child.0)) (λ b. IsBelow a b))
  child_there [] p k f nodes has up there = absurd has
  child_there (level ∷ below) p k f nodes (inr later) up there =
      let more = child_there below p k f nodes.1 later up there in (inr more.0, more.1, more.2, more.3)
  child_there (level ∷ []) p k f nodes (inl has) up there =
      let node = each_has (IsNode size pages owner 0 []) level p has nodes.0 in
      let on_level = node.on_level in absurd (omega (arith, on_level, up))
  child_there (level ∷ next ∷ rest) p k f nodes (inl has) up there =
      let node = each_has (IsNode size pages owner (suc (length rest)) next) level p has nodes.0 in
      let on_level = node.on_level in
      let child = first_or_later pages next (low_of (pages p)) (entries_of (pages p)) f
      (node.children (omega arith)) (node.lawful.first (lt-ltb 0 (level_in (pages p)) (omega (arith, up)))) there in
      let below = each_has (IsNode size pages owner (length rest) (first_level rest)) next f.child.0
      child.0 nodes.1.0 in
      let on_next = below.on_level in
      (inr (inl child.0), omega (arith, on_next, on_level, up), child.1, below.apart)

-- The page above has no entry of a place that it covers together with a page below it, where an entry
-- of that page comes before the place.
pub none_of_place : (size owner root : ℕ) (pages : Pages) (levels : List (List ℕ)) (e first : Entry)
    (p l : ℕ) → IsTree size pages owner root levels → InTree levels p → InTree levels l
    → level_in (pages p) ≡ suc (level_in (pages l)) → Covers pages p e → Covers pages l e
    → IsFrom pages first l → IsBelow first e → HasPlace (entries_of (pages p)) e → ⊥
none_of_place size owner root pages levels e first p l tree has_p has_l up of_p of_l from less place =
    let there = found (entries_of (pages p)) place in at there.0 there.1 there.2
  where
    found : (es : List Entry) → HasPlace es e → (f : Entry) × HasEntry es f × SamePlace e f
    found [] none = absurd none
    found (x ∷ xs) (inl same) = (x, inl refl, same)
    found (x ∷ xs) (inr later) = let more = found xs later in (more.0, inr more.1, more.2)

    by_fence : (f fence : Entry) → as_fence e ≡ as_fence fence → InTree levels f.child.0
        → level_in (pages f.child.0) ≡ level_in (pages l) → low_of (pages f.child.0) ≡ Some fence
        → IfSome (low_of (pages f.child.0)) (λ a. IfSome (high_of (pages f.child.0)) (λ b. IsBelow a b)) → ⊥
    by_fence f fence same placed level low range =
        let one : f.child.0 ≡ l = one_in_tree size pages owner e levels f.child.0 l
        (chains_of pages root levels tree.levels_from) tree.nodes placed has_l level (
          from_fence e fence (low_of (pages f.child.0)) same low
              (λ below. not_below_itself e (subst (λ (x : Entry). IsBelow e x) (sym same) below)),
          below_high e fence (low_of (pages f.child.0)) (high_of (pages f.child.0)) same low range,
        ) of_l in
        at_least_fence e fence (low_of (pages l)) same (ap (λ (k : ℕ). low_of (pages k)) (sym one) ∙ low)
        first from less

    at : (f : Entry) → HasEntry (entries_of (pages p)) f → SamePlace e f → ⊥
    at f has same =
        let child = child_there size pages owner e levels p (level_in (pages l)) f tree.nodes has_p up has in
        which child.0 child.1 child.2 child.3
      where
        by_low : (low : Option Entry) → low_of (pages p) ≡ low → InTree levels f.child.0
            → level_in (pages f.child.0) ≡ level_in (pages l)
            → low_of (pages f.child.0) ≡ low → IsFirstEntry low f
            → IfSome (low_of (pages f.child.0)) (λ a. IfSome (high_of (pages f.child.0)) (λ b. IsBelow a b))
            → ⊥
        by_low None is placed level low least range = none_below_least first e (record {
          key = same.key ∙ least.key;
          page = ap (λ r. r.page.0) same.rec ∙ least.page;
          slot = ap (λ r. r.slot) same.rec ∙ least.slot;
        }) less
        by_low (Some fence) is placed level low place_ range =
            by_fence f fence (same_fence e f same ∙ same_fence f fence place_) placed level low range

        which : InTree levels f.child.0 → level_in (pages f.child.0) ≡ level_in (pages l)
            → ((low_of (pages f.child.0) ≡ Some (as_fence f))
            ⊎ ((low_of (pages f.child.0) ≡ low_of (pages p)) × IsFirstEntry (low_of (pages p)) f))
            → IfSome (low_of (pages f.child.0)) (λ a. IfSome (high_of (pages f.child.0)) (λ b. IsBelow a b))
            → ⊥
        which placed level (inl low) range =
            by_fence f (as_fence f) (same_fence e f same) placed level low range
        which placed level (inr begins) range =
            by_low (low_of (pages p)) refl placed level begins.0 begins.1 range
