-- Whose table it is.
use Rattle.mg_base.specs.declared.transaction.TxState.{TxState}
use Rattle.mg_base.specs.declared.transaction.TxState.TheVariants.{Active, Dead, Limbo}
use Rattle.mg_image_overlay_laws.specs.tables.Growing.{IsTableOf}
use Rattle.mg_image_overlay_laws.specs.kept.Knowing.{its_pages}
use Rattle.mg_image.specs.Form.{Form, Pages}
use Rattle.mg_image.specs.Inventory.{is_used}
use Rattle.mg_image.specs.Records.{Reading}
use Rattle.mg_image.specs.Sound.{HasTablePages, IsSoundBy}
use Rattle.mg_image.specs.Tables.{EachStand, Has, Layout, PointerChain, Stand, ended, goes, has, stands_of, table_at}
use Rattle.mg_image_overlay_laws.specs.pages.Growth.{has_back, has_front}
use Rattle.mg_image_overlay_laws.specs.pages.Kinds.{HasNoSequences, linked_is, pointers_of, stands_linked}
use Rattle.mg_image_overlay_laws.specs.pages.Reach.{has_it, page_there}
use Rattle.mg_model.specs.declared.table.Table.{Table}
use Rattle.mg_image_overlay_laws.specs.tables.OneChain.{same_stand}
use Rattle.mg_overlay_laws.specs.Overlays.{left_state}
use Rattle.mg_image_overlay_laws.specs.names.NotThere.{IsNotThere, IsOutOf}
use Rattle.std.proofs.Common.{Bool, List, None, Option, Some, [], ap, eq-eqb, false, inl, inr, refl, subst, sym, true, ℕ, ◌++◌, ◌==◌, ◌∙◌, ◌∷◌, ◌≡◌, ◌≢◌, ◌⊎◌}
use Rattle.std.specs.Prelude.{if◌then◌else◌}

-- Under each choice of transactions a table stands in the layout of the image, or one transaction, which has
-- made it, counts as dead, and none of its pages is the layout's. So it is with the catalog and with a table
-- that is committed, whichever transaction this is, and with one that it has made and not committed.
abbrev pub IsTableFor : Form → ℕ → ℕ → (ℕ → TxState) → Pages → Table → Type 0
IsTableFor form size by state pages table = (chosen : ℕ → Bool) (layout : Layout) (r : Reading)
    → IsSoundBy form size (left_state chosen state) pages layout r
    → IsTableOf layout table ⊎ IsNotThere by (left_state chosen state) pages layout table

-- the choice of one transaction
abbrev pub alone : ℕ → ℕ → Bool
alone by u = u == by

-- where its maker is chosen, the table stands
pub maker_has : (form : Form) (size by : ℕ) (state : ℕ → TxState) (pages : Pages) (table : Table)
    → state by ≡ Active → IsTableFor form size by state pages table → (chosen : ℕ → Bool)
    → chosen by ≡ true → (layout : Layout) (r : Reading)
    → IsSoundBy form size (left_state chosen state) pages layout r → IsTableOf layout table
maker_has form size by state pages table active whose chosen is layout r sound =
    at (whose chosen layout r sound)
  where
    at : IsTableOf layout table ⊎ IsNotThere by (left_state chosen state) pages layout table
        → IsTableOf layout table
    at (inl its) = its
    at (inr unmade) =
        let limbo : left_state chosen state by ≡ Limbo = rw (is, active) refl in
        let both : Limbo ≡ Dead = sym limbo ∙ unmade.dead in absurd cc

pub alone_is : (by : ℕ) → alone by by ≡ true
alone_is by = eq-eqb by by refl

-- a page that is one of a table's is a data page of its stand
pub data_its : (in_primary : Bool) (size : ℕ) (pages : Pages) (stand : Stand) (stands : List Stand)
    → HasTablePages in_primary size pages stand
    → EachStand (HasTablePages in_primary size pages) stands → (n : ℕ)
    → table_at stands n ≡ Some stand.table → Has stand.data_pages n
data_its in_primary size pages stand [] has_ each n is = absurd cc
data_its in_primary size pages stand (other ∷ stands) has_ each n is =
    at (has other.data_pages n) refl is (data_its in_primary size pages stand stands has_ each.1 n)
  where
    at : (c : Bool) → has other.data_pages n ≡ c
        → (if c then Some other.table else table_at stands n) ≡ Some stand.table
        → (table_at stands n ≡ Some stand.table → Has stand.data_pages n) → Has stand.data_pages n
    at true in_it is_ more =
        let same : other.table ≡ stand.table = cc in
        subst (λ (x : Stand). Has x.data_pages n)
        (same_stand in_primary size pages other stand each.0 has_ same) (has_it other.data_pages n in_it)
    at false out is_ more = more is_

pointers_mid : (first rest : List Stand) (stand : Stand) (m : ℕ) → Has stand.pointers m
    → Has (pointers_of (first ++ (stand ∷ rest))) m
pointers_mid [] rest stand m is = has_front stand.pointers (pointers_of rest) m is
pointers_mid (s ∷ first) rest stand m is = has_back s.pointers (pointers_of (first ++ (stand ∷ rest))) m
    (pointers_mid first rest stand m is)

-- ---- a layout that has the table

module _ (form : Form) (size : ℕ) (state : ℕ → TxState) (pages : Pages) (layout : Layout) (r : Reading)
    (sound : IsSoundBy form size state pages layout r) (table : Table) (its : IsTableOf layout table) where
  its_chain : PointerChain pages table.pointer.0 its.stand.pointers
  its_chain = subst (λ (t : Table). PointerChain pages t.pointer.0 its.stand.pointers) its.table_is
      (its_pages form size state pages layout r sound table its).chain

  -- its data pages are none of another layout that it is out of
  pub page_beyond : (other : Layout) → IsOutOf pages other table.pointer.0 → (m : ℕ)
      → table_at (stands_of layout) m ≡ Some table → table_at (stands_of other) m ≡ None
  page_beyond other out m of = out.data_pages its.stand.pointers its_chain m
      (subst (λ (ns : List ℕ). Has ns m) (its_pages form size state pages layout r sound table its).entries
      (data_its form.in_primary size pages its.stand (stands_of layout)
      (its_pages form size state pages layout r sound table its) sound.tables m
      (of ∙ ap Some (sym its.table_is))))

  -- and it is not out of its own layout
  pub not_both : IsOutOf pages layout table.pointer.0 → ⊥
  not_both out = out.pointers its.stand.pointers its_chain table.pointer.0 first_there
      (subst (λ (ss : List Stand). Has (pointers_of ss) table.pointer.0) (sym its.is_)
      (pointers_mid its.before its.after its.stand table.pointer.0 first_there))
    where
      opened : (n : ℕ) (ns : List ℕ) → PointerChain pages n ns → n ≢ 0 → Has ns n
      opened n ns ended ne = absurd (ne refl)
      opened n ns (goes k ks ne more) also = inl refl

      first_there : Has its.stand.pointers table.pointer.0
      first_there = opened table.pointer.0 its.stand.pointers its_chain
          (subst (λ (t : Table). t.pointer.0 ≢ 0) its.table_is
          (its_pages form size state pages layout r sound table its).first)

-- a page that is not used is none of a layout's
pub unused_none : (form : Form) (size : ℕ) (state : ℕ → TxState) (pages : Pages) (layout : Layout)
    (r : Reading) → HasNoSequences form → IsSoundBy form size state pages layout r → (m : ℕ)
    → is_used size pages m ≡ false → table_at (stands_of layout) m ≡ None
unused_none form size state pages layout r none sound m unused = at (table_at (stands_of layout) m) refl
  where
    at : (t : Option Table) → table_at (stands_of layout) m ≡ t → table_at (stands_of layout) m ≡ None
    at None is = is
    at (Some table) is =
        let used : is_used size pages m ≡ true = (linked_is form size state pages layout r none sound m
        (stands_linked size pages layout m (page_there (stands_of layout) m table is))).used in
        let both : true ≡ false = sym used ∙ unused in absurd cc
