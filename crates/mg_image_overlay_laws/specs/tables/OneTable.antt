-- The tables of a layout: those of one name are one, and a data page is its table's in one way.
use Rattle.std.proofs.Common.{◌≡◌, ◌⊎◌, inl, inr, ap, refl, sym, subst, ◌∙◌, ℕ, Bool, true, false, List, [], ◌∷◌, ◌++◌, Some}
use Rattle.std.specs.Prelude.{if◌then◌else◌, map}
use Rattle.mg_base.specs.declared.transaction.TxState.{TxState}
use Rattle.mg_model.specs.Catalog.{catalog_name}
use Rattle.mg_model.specs.CatalogRules.{Ascend, IsBefore, table_names}
use Rattle.mg_model.specs.declared.table.Table.{Table}
use Rattle.mg_catalog.specs.NameLaws.{all_after, ascend_split, not_before_self}
use Rattle.mg_catalog.specs.Names.{HasName}
use Rattle.mg_image.specs.Form.{Form, Pages}
use Rattle.mg_image.specs.Records.{Reading}
use Rattle.mg_image.specs.Sound.{HasTablePages, IsSoundBy}
use Rattle.mg_image.specs.Tables.{EachStand, Has, Layout, Stand, has, stands_of, table_at}
use Rattle.mg_image_overlay_laws.specs.tables.TableOwners.{IsOneOf, has_stand, named_other}
use Rattle.mg_image_overlay_laws.specs.pages.Reach.{has_it}
use Rattle.mg_image_overlay_laws.specs.tables.OneChain.{same_stand}
use Rattle.mg_image_overlay_laws.specs.tables.Growing.{IsTableOf}
use Rattle.mg_image_overlay_laws.specs.kept.Knowing.{its_pages, of_table}

-- a page that is one of a table's is one of those that it has where it stands
pub data_of : (in_primary : Bool) (size : ℕ) (pages : Pages) (stand : Stand) (stands : List Stand)
    → HasTablePages in_primary size pages stand
    → EachStand (HasTablePages in_primary size pages) stands → (n : ℕ)
    → table_at stands n ≡ Some stand.table → has stand.data_pages n ≡ true
data_of in_primary size pages stand [] stands_so each n is = absurd cc
data_of in_primary size pages stand (other ∷ stands) stands_so each n is =
    at (has other.data_pages n) refl is
    (data_of in_primary size pages stand stands stands_so each.1 n)
  where
    at : (c : Bool) → has other.data_pages n ≡ c
        → (if c then Some other.table else table_at stands n) ≡ Some stand.table
        → (table_at stands n ≡ Some stand.table → has stand.data_pages n ≡ true)
        → has stand.data_pages n ≡ true
    at true here is more =
        let same : other.table ≡ stand.table = cc in
        subst (λ (x : Stand). has x.data_pages n ≡ true)
        (same_stand in_primary size pages other stand each.0 stands_so same) here
    at false out is more = more is

-- ---- one of a list

one_name : (tables : List Table) (table : Table) → IsOneOf tables table
    → HasName (table_names tables) table.name
one_name [] table is = absurd is
one_name (t ∷ ts) table (inl same) = inl (ap (λ (x : Table). x.name) same)
one_name (t ∷ ts) table (inr more) = inr (one_name ts table more)

one_by_name : (tables : List Table) (a b : Table) → Ascend (table_names tables) → IsOneOf tables a
    → IsOneOf tables b → a.name ≡ b.name → a ≡ b
one_by_name [] a b ascend is also name = absurd is
one_by_name (t ∷ ts) a b ascend (inl same) (inl other) name = sym same ∙ other
one_by_name (t ∷ ts) a b ascend (inl same) (inr more) name =
    absurd (not_before_self t.name (subst (IsBefore t.name)
    (sym (ap (λ (x : Table). x.name) same ∙ name))
    (all_after t.name (table_names ts) b.name ascend (one_name ts b more))))
one_by_name (t ∷ ts) a b ascend (inr more) (inl same) name =
    absurd (not_before_self t.name (subst (IsBefore t.name)
    (sym (ap (λ (x : Table). x.name) same ∙ sym name))
    (all_after t.name (table_names ts) a.name ascend (one_name ts a more))))
one_by_name (t ∷ ts) a b ascend (inr more) (inr other) name =
    one_by_name ts a b (ascend_split t.name (table_names ts) ascend).1 more other name

-- one of the tables of some stands stands among them
one_stands : (stands : List Stand) (table : Table) → IsOneOf (map (λ stand. stand.table) stands) table
    → (before : List Stand) × (stand : Stand) × (after : List Stand) × (stands ≡ before ++ (stand ∷ after))
    × (stand.table ≡ table)
one_stands [] table is = absurd is
one_stands (s ∷ ss) table (inl same) = ([], s, ss, refl, same)
one_stands (s ∷ ss) table (inr more) =
    let it = one_stands ss table more in
    (s ∷ it.0, it.1, it.2, ap (λ (xs : List Stand). s ∷ xs) it.3, it.4)

pub stands_in : (layout : Layout) (table : Table)
    → IsOneOf (map (λ stand. stand.table) (stands_of layout)) table → IsTableOf layout table
stands_in layout table is =
    let it = one_stands (stands_of layout) table is in
    record { before = it.0; stand = it.1; after = it.2; is_ = it.3; table_is = it.4 }

-- a page's table stands in the layout
pub table_at_stands : (layout : Layout) (n : ℕ) (table : Table)
    → table_at (stands_of layout) n ≡ Some table → IsTableOf layout table
table_at_stands layout n table is = stands_in layout table (has_stand (stands_of layout) n table is)

one_mid : (before after : List Stand) (stand : Stand)
    → IsOneOf (map (λ s. s.table) (before ++ (stand ∷ after))) stand.table
one_mid [] after stand = inl refl
one_mid (s ∷ before) after stand = inr (one_mid before after stand)

pub one_standing : (layout : Layout) (table : Table) → IsTableOf layout table
    → IsOneOf (map (λ stand. stand.table) (stands_of layout)) table
one_standing layout table its = subst (IsOneOf (map (λ stand. stand.table) (stands_of layout))) its.table_is
    (subst (λ (ss : List Stand). IsOneOf (map (λ stand. stand.table) ss) its.stand.table) (sym its.is_)
    (one_mid its.before its.after its.stand))

-- ---- tables that stand in a layout

module _ (form : Form) (size : ℕ) (state : ℕ → TxState) (pages : Pages) (layout : Layout)
    (r : Reading) (sound : IsSoundBy form size state pages layout r) where
  catalog_named : layout.catalog.table.name ≡ catalog_name
  catalog_named = ap (λ (x : Table). x.name) sound.catalog

  -- tables of one name are one
  pub one_table : (a b : Table) → IsTableOf layout a → IsTableOf layout b → a.name ≡ b.name → a ≡ b
  one_table a b of_a of_b name = at (one_standing layout a of_a) (one_standing layout b of_b)
    where
      at : (layout.catalog.table ≡ a) ⊎ IsOneOf (map (λ s. s.table) layout.tables) a
          → (layout.catalog.table ≡ b) ⊎ IsOneOf (map (λ s. s.table) layout.tables) b → a ≡ b
      at (inl is) (inl also) = sym is ∙ also
      at (inl is) (inr also) = absurd (named_other form size state pages layout r sound b also
          (sym name ∙ (ap (λ (x : Table). x.name) (sym is) ∙ catalog_named)))
      at (inr is) (inl also) = absurd (named_other form size state pages layout r sound a is
          (name ∙ (ap (λ (x : Table). x.name) (sym also) ∙ catalog_named)))
      at (inr is) (inr also) = one_by_name (map (λ s. s.table) layout.tables) a b
          sound.names.all.are_tables.ascending is also name

  -- the data pages of its stand are the table's, and no others
  pub its_data : (table : Table) (its : IsTableOf layout table) (n : ℕ)
      → (table_at (stands_of layout) n ≡ Some table → Has its.stand.data_pages n)
      × (Has its.stand.data_pages n → table_at (stands_of layout) n ≡ Some table)
  its_data table its n = (
    (λ is. has_it its.stand.data_pages n (data_of form.in_primary size pages its.stand (stands_of layout)
        (its_pages form size state pages layout r sound table its) sound.tables n
        (is ∙ ap Some (sym its.table_is)))),
    of_table form size state pages layout r sound table its n,
  )
