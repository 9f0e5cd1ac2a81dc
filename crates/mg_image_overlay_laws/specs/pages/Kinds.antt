-- What a linked page is by its kind.
use Rattle.mg_base.specs.Checks.{Check, common_checks}
use Rattle.mg_base.specs.Fields.{byte}
use Rattle.mg_base.specs.declared.transaction.TxState.{TxState}
use Rattle.mg_image.specs.Form.{Form, Pages}
use Rattle.mg_image.specs.Indexes.{AreNodes, AreTrees, EachPage, IsNode, first_level}
use Rattle.mg_image.specs.Inventory.{is_used, last_sequence, tip_page}
use Rattle.mg_image.specs.Reached.{IsAsWanted, linked_pages, tips_below, tips_of}
use Rattle.mg_image.specs.Records.{Reading}
use Rattle.mg_image.specs.Sound.{HasTablePages, HasTransactions, IsSoundBy, IsTableData, IsTablePointer}
use Rattle.mg_image.specs.Tables.{EachFrom, EachStand, Has, Layout, LinkChain, Stand, ended, goes, pages_of, stands_of, tree_pages}
use Rattle.mg_image_overlay_laws.specs.pages.DataPages.{all_passes, kind_of}
use Rattle.mg_image_overlay_laws.specs.pages.Growth.{has_back, has_either, has_front}
use Rattle.mg_model.specs.declared.table.Index.{Index}
use Rattle.mg_pointer.specs.PointerPage.{pointer_checks}
use Rattle.mg_tip.specs.TipPage.{tip_checks}
use Rattle.std.proofs.Common.{Bool, List, [], ap, arith, inl, inr, length, refl, subst, suc, sym, true, zero, ℕ, ◌++◌, ◌+◌, ◌∙◌, ◌∷◌, ◌≡◌, ◌≢◌, ◌≤◌, ◌⊎◌}
use Rattle.std.specs.List.{flat_map}

-- the pointer pages of tables
abbrev pub pointers_of : List Stand → List ℕ
pointers_of stands = flat_map (λ stand. stand.pointers) stands

-- A linked page: it is used, it is neither the header nor one of the page inventory, and where it is a
-- pointer page by its kind it is one of a table.
pub record IsLinked (size : ℕ) (pages : Pages) (pointers : List ℕ) (m : ℕ) : Type 0 where
  pub used : is_used size pages m ≡ true
  pub kind : 3 ≤ byte (pages m) 0
  pub pointer : byte (pages m) 0 ≡ 4 → Has pointers m

-- a form without sequences
abbrev pub HasNoSequences : Form → Type 0
HasNoSequences form = (page : List ℕ) (n : ℕ) → form.sequence_page page n → ⊥

module _ (in_primary : Bool) (size : ℕ) (pages : Pages) (pointers : List ℕ) where
  by_kind : (m kind owner seq : ℕ) (rest : List Check)
      → IsAsWanted size pages m (common_checks (pages m) m kind owner seq ++ rest) → 3 ≤ kind
      → (kind ≡ 4 → Has pointers m) → IsLinked size pages pointers m
  by_kind m kind owner seq rest wanted least of =
      let is : byte (pages m) 0 ≡ kind = kind_of (pages m) m kind owner seq rest wanted.fields in
      record {
        used = wanted.used;
        kind = omega (arith, is, least);
        pointer = λ four. of (sym is ∙ four);
      }

  plain : (m kind owner seq : ℕ) → IsAsWanted size pages m (common_checks (pages m) m kind owner seq)
      → 3 ≤ kind → (kind ≡ 4 → Has pointers m) → IsLinked size pages pointers m
  plain m kind owner seq wanted least of = by_kind m kind owner seq [] (record {
    below = wanted.below;
    used = wanted.used;
    fields = all_passes (common_checks (pages m) m kind owner seq) wanted.fields;
  }) least of

  -- the pages of transactions
  of_tips : HasTransactions size pages → (n : ℕ) → n ≤ last_sequence size pages + 1 → (m : ℕ)
      → Has (tips_below size pages n) m → IsLinked size pages pointers m
  unfolding tip_checks
  of_tips transactions zero below m is = absurd is
  of_tips transactions (suc n) below m (inl e) = subst (IsLinked size pages pointers) (sym e)
      (by_kind (tip_page size pages n) 3 0 n _ (transactions.each n (omega (arith, below)))
      (omega arith) (λ four. absurd (omega (arith, four))))
  of_tips transactions (suc n) below m (inr more) =
      of_tips transactions n (omega (arith, below)) m more

  of_pointers : (owner k : ℕ) (ns : List ℕ) → EachFrom (IsTablePointer size pages owner) k ns
      → ((m : ℕ) → Has ns m → Has pointers m) → (m : ℕ) → Has ns m → IsLinked size pages pointers m
  unfolding pointer_checks
  of_pointers owner k [] each within m is = absurd is
  of_pointers owner k (n ∷ ns) each within m (inl e) = subst (IsLinked size pages pointers) (sym e)
      (by_kind n 4 owner k _ each.0 (omega arith) (λ four. within n (inl refl)))
  of_pointers owner k (n ∷ ns) each within m (inr more) =
      of_pointers owner (suc k) ns each.1 (λ j is. within j (inr is)) m more

  of_data : (owner k : ℕ) (ns : List ℕ) → EachFrom (IsTableData in_primary size pages owner) k ns
      → (m : ℕ) → Has ns m → IsLinked size pages pointers m
  of_data owner k [] each m is = absurd is
  of_data owner k (n ∷ ns) each m (inl e) = subst (IsLinked size pages pointers) (sym e)
      (plain n 5 owner k each.0.wanted (omega arith) (λ four. absurd (omega (arith, four))))
  of_data owner k (n ∷ ns) each m (inr more) = of_data owner (suc k) ns each.1 m more

  of_level : (owner height : ℕ) (below level : List ℕ)
      → EachPage (IsNode size pages owner height below) level → (m : ℕ) → Has level m
      → IsLinked size pages pointers m
  of_level owner height below [] each m is = absurd is
  of_level owner height below (n ∷ ns) each m (inl e) = subst (IsLinked size pages pointers) (sym e)
      (plain n 7 owner 0 each.0.wanted (omega arith) (λ four. absurd (omega (arith, four))))
  of_level owner height below (n ∷ ns) each m (inr more) = of_level owner height below ns each.1 m more

  of_nodes : (owner : ℕ) (levels : List (List ℕ)) → AreNodes size pages owner levels → (m : ℕ)
      → Has (flat_map (λ level. level) levels) m → IsLinked size pages pointers m
  of_nodes owner [] nodes m is = absurd is
  of_nodes owner (level ∷ below) nodes m is =
      at (has_either level (flat_map (λ level. level) below) m is) (of_nodes owner below nodes.1 m)
    where
      at : Has level m ⊎ Has (flat_map (λ level. level) below) m
          → (Has (flat_map (λ level. level) below) m → IsLinked size pages pointers m)
          → IsLinked size pages pointers m
      at (inl here) others = of_level owner (length below) (first_level below) level nodes.0 m here
      at (inr more) others = others more

  of_trees : (owner : ℕ) (indexes : List Index) (trees : List (List (List ℕ)))
      → AreTrees size pages owner indexes trees → (m : ℕ) → Has (tree_pages trees) m
      → IsLinked size pages pointers m
  of_trees owner [] [] are m is = absurd is
  of_trees owner [] (levels ∷ trees) are m is = absurd are
  of_trees owner (index ∷ indexes) [] are m is = absurd is
  of_trees owner (index ∷ indexes) (levels ∷ trees) are m is =
      at (has_either (flat_map (λ level. level) levels) (tree_pages trees) m is)
      (of_trees owner indexes trees are.1 m)
    where
      at : Has (flat_map (λ level. level) levels) m ⊎ Has (tree_pages trees) m
          → (Has (tree_pages trees) m → IsLinked size pages pointers m)
          → IsLinked size pages pointers m
      at (inl here) others = of_nodes owner levels are.0.nodes m here
      at (inr more) others = others more

  of_stand : (stand : Stand) → HasTablePages in_primary size pages stand
      → ((m : ℕ) → Has stand.pointers m → Has pointers m) → (m : ℕ) → Has (pages_of stand) m
      → IsLinked size pages pointers m
  of_stand stand has_ within m is =
      at (has_either (stand.pointers ++ stand.data_pages) (tree_pages stand.trees) m is)
    where
      first : Has stand.pointers m ⊎ Has stand.data_pages m → IsLinked size pages pointers m
      first (inl here) = of_pointers stand.table.pointer.0 0 stand.pointers has_.pointers within m here
      first (inr here) = of_data stand.table.pointer.0 0 stand.data_pages has_.data_pages m here

      at : Has (stand.pointers ++ stand.data_pages) m ⊎ Has (tree_pages stand.trees) m
          → IsLinked size pages pointers m
      at (inl here) = first (has_either stand.pointers stand.data_pages m here)
      at (inr here) = of_trees stand.table.pointer.0 stand.table.indexes stand.trees has_.trees m here

  pub of_stands : (stands : List Stand) → EachStand (HasTablePages in_primary size pages) stands
      → ((m : ℕ) → Has (pointers_of stands) m → Has pointers m) → (m : ℕ)
      → Has (flat_map pages_of stands) m → IsLinked size pages pointers m
  of_stands [] has_ within m is = absurd is
  of_stands (stand ∷ stands) has_ within m is =
      at (has_either (pages_of stand) (flat_map pages_of stands) m is)
      (of_stands stands has_.1 (λ k there. within k
      (has_back stand.pointers (pointers_of stands) k there)) m)
    where
      at : Has (pages_of stand) m ⊎ Has (flat_map pages_of stands) m
          → (Has (flat_map pages_of stands) m → IsLinked size pages pointers m)
          → IsLinked size pages pointers m
      at (inl here) others = of_stand stand has_.0
          (λ k there. within k (has_front stand.pointers (pointers_of stands) k there)) m here
      at (inr more) others = others more

pub linked_is : (form : Form) (size : ℕ) (state : ℕ → TxState) (pages : Pages) (layout : Layout)
    (r : Reading) → HasNoSequences form → IsSoundBy form size state pages layout r → (m : ℕ)
    → Has (linked_pages size pages layout) m
    → IsLinked size pages (pointers_of (stands_of layout)) m
linked_is form size state pages layout r none sound m is =
    at (has_either (tips_of size pages ++ flat_map pages_of (stands_of layout)) layout.sequences m is)
  where
    no_sequence : (ns : List ℕ) → EachPage (λ n. form.sequence_page (pages n) n) ns → Has ns m → ⊥
    no_sequence [] each here = here
    no_sequence (n ∷ ns) each here = none (pages n) n each.0

    first : Has (tips_of size pages) m ⊎ Has (flat_map pages_of (stands_of layout)) m
        → IsLinked size pages (pointers_of (stands_of layout)) m
    first (inl here) = of_tips form.in_primary size pages (pointers_of (stands_of layout))
        sound.transactions (last_sequence size pages + 1) (omega arith) m here
    first (inr here) = of_stands form.in_primary size pages (pointers_of (stands_of layout))
        (stands_of layout) sound.tables (λ k there. there) m here

    at : Has (tips_of size pages ++ flat_map pages_of (stands_of layout)) m ⊎ Has layout.sequences m
        → IsLinked size pages (pointers_of (stands_of layout)) m
    at (inl here) = first (has_either (tips_of size pages) (flat_map pages_of (stands_of layout)) m here)
    at (inr here) = absurd (no_sequence layout.sequences sound.sequences here)

-- a pointer page of a table is one by its kind
pub pointers_four : (in_primary : Bool) (size : ℕ) (pages : Pages) (stands : List Stand)
    → EachStand (HasTablePages in_primary size pages) stands → (m : ℕ) → Has (pointers_of stands) m
    → byte (pages m) 0 ≡ 4
unfolding pointer_checks
pointers_four in_primary size pages [] has_ m is = absurd is
pointers_four in_primary size pages (s ∷ ss) has_ m is =
    at (has_either s.pointers (pointers_of ss) m is) (pointers_four in_primary size pages ss has_.1 m)
  where
    four : (k : ℕ) (ns : List ℕ) → EachFrom (IsTablePointer size pages s.table.pointer.0) k ns
        → Has ns m → byte (pages m) 0 ≡ 4
    four k [] each there = absurd there
    four k (n ∷ ns) each (inl e) = ap (λ (j : ℕ). byte (pages j) 0) e
        ∙ kind_of (pages n) n 4 s.table.pointer.0 k _ each.0.fields
    four k (n ∷ ns) each (inr more) = four (suc k) ns each.1 more

    at : Has s.pointers m ⊎ Has (pointers_of ss) m → (Has (pointers_of ss) m → byte (pages m) 0 ≡ 4)
        → byte (pages m) 0 ≡ 4
    at (inl here) later = four 0 s.pointers has_.0.pointers here
    at (inr there) later = later there

-- and it is linked
pub pointers_in_pages : (stands : List Stand) (m : ℕ) → Has (pointers_of stands) m
    → Has (flat_map pages_of stands) m
pointers_in_pages [] m is = is
pointers_in_pages (s ∷ ss) m is =
    at (has_either s.pointers (pointers_of ss) m is) (pointers_in_pages ss m)
  where
    at : Has s.pointers m ⊎ Has (pointers_of ss) m
        → (Has (pointers_of ss) m → Has (flat_map pages_of ss) m) → Has (flat_map pages_of (s ∷ ss)) m
    at (inl here) later = has_front (pages_of s) (flat_map pages_of ss) m
        (has_front (s.pointers ++ s.data_pages) (tree_pages s.trees) m
        (has_front s.pointers s.data_pages m here))
    at (inr there) later = has_back (pages_of s) (flat_map pages_of ss) m (later there)

pub stands_linked : (size : ℕ) (pages : Pages) (layout : Layout) (m : ℕ)
    → Has (flat_map pages_of (stands_of layout)) m → Has (linked_pages size pages layout) m
stands_linked size pages layout m is =
    has_front (tips_of size pages ++ flat_map pages_of (stands_of layout)) layout.sequences m
    (has_back (tips_of size pages) (flat_map pages_of (stands_of layout)) m is)

pub pointer_linked : (size : ℕ) (pages : Pages) (layout : Layout) (m : ℕ)
    → Has (pointers_of (stands_of layout)) m → Has (linked_pages size pages layout) m
pointer_linked size pages layout m is =
    stands_linked size pages layout m (pointers_in_pages (stands_of layout) m is)

-- ---- chains of pointer pages

begins_some : (next : ℕ → ℕ) (k : ℕ) (front : List ℕ) (q : ℕ) → LinkChain next k (front ++ (q ∷ []))
    → k ≢ 0
begins_some next k [] q (goes n ns ne rest) = ne
begins_some next k (f ∷ front) q (goes n ns ne rest) = ne

-- the last page of a chain names no next one
pub chain_last : (next : ℕ → ℕ) (k : ℕ) (front : List ℕ) (q : ℕ)
    → LinkChain next k (front ++ (q ∷ [])) → next q ≡ 0
chain_last next k [] q (goes n ns ne rest) = ends (next n) rest
  where
    ends : (j : ℕ) → LinkChain next j [] → j ≡ 0
    ends j ended = refl
chain_last next k (f ∷ front) q (goes n ns ne rest) = chain_last next (next n) front q rest

-- each page before the last one does
pub chain_next : (next : ℕ → ℕ) (k : ℕ) (front : List ℕ) (q m : ℕ)
    → LinkChain next k (front ++ (q ∷ [])) → Has front m → next m ≢ 0
chain_next next k [] q m chain is = absurd is
chain_next next k (f ∷ front) q m (goes n ns ne rest) (inl e) = λ none.
    begins_some next (next n) front q rest (sym (ap next e) ∙ none)
chain_next next k (f ∷ front) q m (goes n ns ne rest) (inr more) =
    chain_next next (next n) front q m rest more
