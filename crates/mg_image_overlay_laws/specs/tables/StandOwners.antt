-- Each page of a table says whose it is: so tables with different first pages share no page.
use Rattle.mg_base.specs.Checks.{Check, PassesAll, common_checks}
use Rattle.mg_base.specs.Fields.{byte, u32_at}
use Rattle.mg_base.specs.declared.fields.TheConstants.{OWNER_AT}
use Rattle.mg_image.specs.Form.{Form, Pages}
use Rattle.mg_image.specs.Indexes.{AreNodes, AreTrees, EachPage, IsNode, first_level}
use Rattle.mg_image.specs.Inventory.{last_sequence, tip_page}
use Rattle.mg_image.specs.Reached.{linked_pages, tips_below, tips_of}
use Rattle.mg_image.specs.Sound.{HasTablePages, HasTransactions, IsTableData, IsTablePointer}
use Rattle.mg_image.specs.Tables.{EachFrom, EachStand, Has, IsOnce, Layout, Stand, pages_of, stands_of, tree_pages}
use Rattle.mg_image_overlay_laws.specs.pages.DataPages.{all_passes, kind_of}
use Rattle.mg_image_overlay_laws.specs.pages.Growth.{has_either}
use Rattle.mg_model.specs.declared.table.Index.{Index}
use Rattle.mg_pointer.specs.PointerPage.{pointer_checks}
use Rattle.mg_tip.specs.TipPage.{tip_checks}
use Rattle.std.proofs.Common.{Bool, List, [], ap, arith, inl, inr, length, refl, subst, suc, sym, zero, ℕ, ◌++◌, ◌+◌, ◌∙◌, ◌∷◌, ◌≡◌, ◌≤◌, ◌⊎◌}
use Rattle.std.specs.List.{flat_map}
use Rattle.std.specs.Prelude.{map}

-- who owns a page, by what it says itself
abbrev pub owner_told : List ℕ → ℕ
owner_told page = u32_at page OWNER_AT

-- A page says that it is of an owner, and it is a page of a table by its kind.
pub record IsOwned (pages : Pages) (owner m : ℕ) : Type 0 where
  pub told : owner_told (pages m) ≡ owner
  pub kind : 4 ≤ byte (pages m) 0

-- the first pages of stands
abbrev pub first_pages : List Stand → List ℕ
first_pages stands = map (λ s. s.table.pointer.0) stands

-- stands that have their pages on one image, each with none twice, and with different first pages: no page is
-- linked twice
abbrev pub OwnersKeepStandsApart : Form → Type 0
OwnersKeepStandsApart form = (size : ℕ) (pages : Pages) (layout : Layout)
    → HasTransactions size pages → IsOnce (tips_of size pages) → layout.sequences ≡ []
    → EachStand (HasTablePages form.in_primary size pages) (stands_of layout)
    → EachStand (λ s. IsOnce (pages_of s)) (stands_of layout) → IsOnce (first_pages (stands_of layout))
    → IsOnce (linked_pages size pages layout)

-- ---- lists

once_both : (ms ns : List ℕ) → IsOnce ms → IsOnce ns → ((m : ℕ) → Has ms m → Has ns m → ⊥)
    → IsOnce (ms ++ ns)
once_both [] ns first second apart = second
once_both (m ∷ ms) ns first second apart = (
  (λ is. by (has_either ms ns m is)),
  once_both ms ns first.1 second (λ k here_ there. apart k (inr here_) there),
)
  where
    by : Has ms m ⊎ Has ns m → ⊥
    by (inl here_) = first.0 here_
    by (inr there) = apart m (inl refl) there

-- ---- the pages of one table

module _ (in_primary : Bool) (size : ℕ) (pages : Pages) (owner : ℕ) where
  by_checks : (m kind seq : ℕ) (rest : List Check)
      → PassesAll (common_checks (pages m) m kind owner seq ++ rest) → 4 ≤ kind → IsOwned pages owner m
  unfolding common_checks
  by_checks m kind seq rest passes least = record {
    told = passes.1.1.1.1.0;
    kind = let is : byte (pages m) 0 ≡ kind = passes.0 in omega (arith, is, least);
  }

  plain : (m kind seq : ℕ) → PassesAll (common_checks (pages m) m kind owner seq) → 4 ≤ kind
      → IsOwned pages owner m
  plain m kind seq passes least =
      by_checks m kind seq [] (all_passes (common_checks (pages m) m kind owner seq) passes) least

  of_pointers : (k : ℕ) (ns : List ℕ) → EachFrom (IsTablePointer size pages owner) k ns → (m : ℕ)
      → Has ns m → IsOwned pages owner m
  unfolding pointer_checks
  of_pointers k [] each m is = absurd is
  of_pointers k (n ∷ ns) each m (inl e) = subst (IsOwned pages owner) (sym e)
      (by_checks n 4 k _ each.0.fields (omega arith))
  of_pointers k (n ∷ ns) each m (inr more) = of_pointers (suc k) ns each.1 m more

  of_data : (k : ℕ) (ns : List ℕ) → EachFrom (IsTableData in_primary size pages owner) k ns → (m : ℕ)
      → Has ns m → IsOwned pages owner m
  of_data k [] each m is = absurd is
  of_data k (n ∷ ns) each m (inl e) = subst (IsOwned pages owner) (sym e)
      (plain n 5 k each.0.wanted.fields (omega arith))
  of_data k (n ∷ ns) each m (inr more) = of_data (suc k) ns each.1 m more

  of_level : (height : ℕ) (below level : List ℕ)
      → EachPage (IsNode size pages owner height below) level → (m : ℕ) → Has level m
      → IsOwned pages owner m
  of_level height below [] each m is = absurd is
  of_level height below (n ∷ ns) each m (inl e) = subst (IsOwned pages owner) (sym e)
      (plain n 7 0 each.0.wanted.fields (omega arith))
  of_level height below (n ∷ ns) each m (inr more) = of_level height below ns each.1 m more

  pub of_nodes : (levels : List (List ℕ)) → AreNodes size pages owner levels → (m : ℕ)
      → Has (flat_map (λ level. level) levels) m → IsOwned pages owner m
  of_nodes [] nodes m is = absurd is
  of_nodes (level ∷ below) nodes m is =
      at (has_either level (flat_map (λ level. level) below) m is) (of_nodes below nodes.1 m)
    where
      at : Has level m ⊎ Has (flat_map (λ level. level) below) m
          → (Has (flat_map (λ level. level) below) m → IsOwned pages owner m) → IsOwned pages owner m
      at (inl here_) others = of_level (length below) (first_level below) level nodes.0 m here_
      at (inr more) others = others more

  of_trees : (indexes : List Index) (trees : List (List (List ℕ)))
      → AreTrees size pages owner indexes trees → (m : ℕ) → Has (tree_pages trees) m
      → IsOwned pages owner m
  of_trees [] [] are m is = absurd is
  of_trees [] (levels ∷ trees) are m is = absurd are
  of_trees (index ∷ indexes) [] are m is = absurd is
  of_trees (index ∷ indexes) (levels ∷ trees) are m is =
      at (has_either (flat_map (λ level. level) levels) (tree_pages trees) m is)
      (of_trees indexes trees are.1 m)
    where
      at : Has (flat_map (λ level. level) levels) m ⊎ Has (tree_pages trees) m
          → (Has (tree_pages trees) m → IsOwned pages owner m) → IsOwned pages owner m
      at (inl here_) others = of_nodes levels are.0.nodes m here_
      at (inr more) others = others more

pub stand_owned : (in_primary : Bool) (size : ℕ) (pages : Pages) (s : Stand)
    → HasTablePages in_primary size pages s → (m : ℕ) → Has (pages_of s) m
    → IsOwned pages s.table.pointer.0 m
stand_owned in_primary size pages s has_ m is =
    at (has_either (s.pointers ++ s.data_pages) (tree_pages s.trees) m is)
  where
    first : Has s.pointers m ⊎ Has s.data_pages m → IsOwned pages s.table.pointer.0 m
    first (inl here_) = of_pointers in_primary size pages s.table.pointer.0 0 s.pointers has_.pointers m here_
    first (inr here_) = of_data in_primary size pages s.table.pointer.0 0 s.data_pages has_.data_pages m here_

    at : Has (s.pointers ++ s.data_pages) m ⊎ Has (tree_pages s.trees) m
        → IsOwned pages s.table.pointer.0 m
    at (inl here_) = first (has_either s.pointers s.data_pages m here_)
    at (inr here_) = of_trees in_primary size pages s.table.pointer.0 s.table.indexes s.trees has_.trees m here_

-- ---- the stands together

-- a page of one of these stands is owned by one of their first pages
some_owner : (in_primary : Bool) (size : ℕ) (pages : Pages) (stands : List Stand)
    → EachStand (HasTablePages in_primary size pages) stands → (m : ℕ)
    → Has (flat_map pages_of stands) m
    → (Has (first_pages stands) (owner_told (pages m))) × (4 ≤ byte (pages m) 0)
some_owner in_primary size pages [] has_ m is = absurd is
some_owner in_primary size pages (s ∷ stands) has_ m is =
    at (has_either (pages_of s) (flat_map pages_of stands) m is)
    (some_owner in_primary size pages stands has_.1 m)
  where
    at : Has (pages_of s) m ⊎ Has (flat_map pages_of stands) m
        → (Has (flat_map pages_of stands) m
        → (Has (first_pages stands) (owner_told (pages m))) × (4 ≤ byte (pages m) 0))
        → (Has (first_pages (s ∷ stands)) (owner_told (pages m))) × (4 ≤ byte (pages m) 0)
    at (inl here_) others =
        let owned = stand_owned in_primary size pages s has_.0 m here_ in (inl owned.told, owned.kind)
    at (inr more) others = let owned = others more in (inr owned.0, owned.1)

stands_once : (in_primary : Bool) (size : ℕ) (pages : Pages) (stands : List Stand)
    → EachStand (HasTablePages in_primary size pages) stands → EachStand (λ s. IsOnce (pages_of s)) stands
    → IsOnce (first_pages stands) → IsOnce (flat_map pages_of stands)
stands_once in_primary size pages [] has_ each firsts = tt
stands_once in_primary size pages (s ∷ stands) has_ each firsts =
    once_both (pages_of s) (flat_map pages_of stands) each.0
    (stands_once in_primary size pages stands has_.1 each.1 firsts.1)
    (λ m here_ there. firsts.0 (subst (Has (first_pages stands))
    (stand_owned in_primary size pages s has_.0 m here_).told
    (some_owner in_primary size pages stands has_.1 m there).0))

-- the pages of transactions are of another kind
tips_three : (size : ℕ) (pages : Pages) → HasTransactions size pages → (n : ℕ)
    → n ≤ last_sequence size pages + 1 → (m : ℕ) → Has (tips_below size pages n) m → byte (pages m) 0 ≡ 3
unfolding tip_checks
tips_three size pages transactions zero below m is = absurd is
tips_three size pages transactions (suc n) below m (inl e) = ap (λ (k : ℕ). byte (pages k) 0) e
    ∙ kind_of (pages (tip_page size pages n)) (tip_page size pages n) 3 0 n _
    (transactions.each n (omega (arith, below))).fields
tips_three size pages transactions (suc n) below m (inr more) =
    tips_three size pages transactions n (omega (arith, below)) m more

pub owners_keep_stands_apart : (form : Form) → OwnersKeepStandsApart form
owners_keep_stands_apart form size pages layout transactions tips none has_ each firsts =
    once_both (tips_of size pages ++ flat_map pages_of (stands_of layout)) layout.sequences
    (once_both (tips_of size pages) (flat_map pages_of (stands_of layout)) tips
    (stands_once form.in_primary size pages (stands_of layout) has_ each firsts) apart)
    (subst IsOnce (sym none) tt) (λ m here_ there. subst (λ (ns : List ℕ). Has ns m) none there)
  where
    apart : (m : ℕ) → Has (tips_of size pages) m → Has (flat_map pages_of (stands_of layout)) m → ⊥
    apart m here_ there =
        let three : byte (pages m) 0 ≡ 3 = tips_three size pages transactions (last_sequence size pages + 1)
        (omega arith) m here_ in
        let four = (some_owner form.in_primary size pages (stands_of layout) has_ m there).1 in
        omega (arith, three, four)
