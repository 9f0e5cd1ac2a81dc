-- Rows of two catalogs that name no table both: together they are lawful, and name the tables of both.
use Rattle.std.proofs.Common.{◌≡◌, ◌⊎◌, inl, inr, ap, sym, subst, ◌∙◌, refl, ◌+◌, ◌<◌, ℕ, zero, suc, List, [], ◌∷◌, Option, None, Some}
use Rattle.std.specs.Cmp.Lexicographic.{slice_cmp}
use Rattle.std.specs.Ordering.{nat_cmp}
use Rattle.std.specs.Prelude.{if◌then◌else◌}
use Rattle.std.specs.declared.cmp.Ordering.{Ordering}
use Rattle.std.specs.declared.cmp.Ordering.TheVariants.{Less, Equal, Greater}
use Rattle.mg_value.specs.declared.value.Value.{Value}
use Rattle.mg_catalog.specs.LawfulLaws.{column_lawful, index_lawful}
use Rattle.mg_catalog.specs.NameLaws.{After, all_after, ascend_join, ascend_split, before_of_greater, names_equal, not_before_self}
use Rattle.mg_catalog.specs.Names.{HasName}
use Rattle.mg_model.specs.Catalog.{CatalogRows, column_key, columns_said, count_said, index_key, is_key_row, key_said, said_b, said_name, shape_said, table_key, with_column}
use Rattle.mg_model.specs.CatalogRules.{AreIndexes, AreTables, Ascend, EachIndex, EachTable, HasTableOf, IsBefore, IsCatalog, IsCatalogRow, IsColumnRow, IsIndexOf, IsIndexRow, IsKeyColumn, IsTable, IsTableRow, table_names}
use Rattle.mg_model.specs.Changes.{Cells, by_order}
use Rattle.mg_model.specs.declared.table.Index.{Index}
use Rattle.mg_model.specs.declared.table.Table.{Table}

-- ---- together

-- New rows are those of two catalogs, which name no table both.
pub record IsJoined (x y new : CatalogRows) : Type 0 where
  pub first : (key : Value) (row : Cells) → x key ≡ Some row → new key ≡ Some row
  pub second : (key : Value) (row : Cells) → y key ≡ Some row → new key ≡ Some row
  pub whole : (key : Value) (row : Cells) → new key ≡ Some row → (x key ≡ Some row) ⊎ (y key ≡ Some row)
  pub lawful : IsCatalog x
  pub also : IsCatalog y
  pub apart : (name : List ℕ) (a b : Cells) → x (table_key name) ≡ Some a → y (table_key name) ≡ Some b → ⊥

-- the two in the other order
pub turned : (x y new : CatalogRows) → IsJoined x y new → IsJoined y x new
turned x y new joined = record {
  first = joined.second;
  second = joined.first;
  whole = λ key row is. swapped key row (joined.whole key row is);
  lawful = joined.also;
  also = joined.lawful;
  apart = λ name a b is other. joined.apart name b a other is;
}
  where
    swapped : (key : Value) (row : Cells) → (x key ≡ Some row) ⊎ (y key ≡ Some row)
        → (y key ≡ Some row) ⊎ (x key ≡ Some row)
    swapped key row (inl is) = inr is
    swapped key row (inr is) = inl is

module _ (x y new : CatalogRows) (joined : IsJoined x y new) where
  -- ---- the rows of a table of the first

  column_was : (name : List ℕ) (t : Cells) → x (table_key name) ≡ Some t → (place : ℕ) (row : Cells)
      → new (column_key name place) ≡ Some row → x (column_key name place) ≡ Some row
  column_was name t there place row is = at (joined.whole (column_key name place) row is)
    where
      at : (x (column_key name place) ≡ Some row) ⊎ (y (column_key name place) ≡ Some row)
          → x (column_key name place) ≡ Some row
      at (inl was) = was
      at (inr other) =
          let of = (column_lawful y joined.also name place row other).of_table in
          absurd (joined.apart name t of.0 there of.1)

  index_was : (name : List ℕ) (t : Cells) → x (table_key name) ≡ Some t → (index : List ℕ) (row : Cells)
      → new (index_key index) ≡ Some row → said_name row ≡ name → x (index_key index) ≡ Some row
  index_was name t there index row is named = at (joined.whole (index_key index) row is)
    where
      at : (x (index_key index) ≡ Some row) ⊎ (y (index_key index) ≡ Some row)
          → x (index_key index) ≡ Some row
      at (inl was) = was
      at (inr other) =
          let of = (index_lawful y joined.also index row other).of_table in
          absurd (joined.apart name t of.0 there
          (subst (λ (n : List ℕ). y (table_key n) ≡ Some of.0) named of.1))

  each_index : (name : List ℕ) (is : List Index) → EachIndex (IsIndexOf x name) is
      → EachIndex (IsIndexOf new name) is
  each_index name [] each = tt
  each_index name (i ∷ is) each = (
    record {
      row = each.0.row;
      there = joined.first (index_key i.name) each.0.row each.0.there;
      of_table = each.0.of_table;
      column = each.0.column;
      root = each.0.root;
    },
    each_index name is each.1,
  )

  indexes_still : (name : List ℕ) (t : Cells) → x (table_key name) ≡ Some t → (is : List Index)
      → AreIndexes x name is → AreIndexes new name is
  indexes_still name t there is are = record {
    each = each_index name is are.each;
    whole = λ index row has named. are.whole index row (index_was name t there index row has named) named;
    ascending = are.ascending;
  }

  key_column : (name : List ℕ) (t : Cells) → x (table_key name) ≡ Some t → (place : ℕ)
      → IsKeyColumn new name place → IsKeyColumn x name place
  key_column name t there place (row, is, three) = (row, column_was name t there place row is, three)

  table_row_still : (name : List ℕ) (row : Cells) → x (table_key name) ≡ Some row → IsTableRow x name row
      → IsTableRow new name row
  table_row_still name row there is = record {
    named = is.named;
    other = is.other;
    spelled = is.spelled;
    some = is.some;
    most = is.most;
    columns = λ place below. column place (is.columns place below);
    key = key is.key;
    pointer = is.pointer;
    root = is.root;
    indexes = (is.indexes.0, indexes_still name row there is.indexes.0 is.indexes.1, is.indexes.2);
  }
    where
      column : (place : ℕ) → (column : Cells) × (x (column_key name place) ≡ Some column)
          → (column : Cells) × (new (column_key name place) ≡ Some column)
      column place (c, has) = (c, joined.first (column_key name place) c has)

      key : (place : ℕ) × (place < said_b row) × IsKeyColumn x name place
          × ((other : ℕ) → IsKeyColumn x name other → other ≡ place)
          → (place : ℕ) × (place < said_b row) × IsKeyColumn new name place
          × ((other : ℕ) → IsKeyColumn new name other → other ≡ place)
      key (place, below, (c, has, three), one) = (
        place,
        below,
        (c, joined.first (column_key name place) c has, three),
        λ other it. one other (key_column name row there other it),
      )

  column_row_still : (name : List ℕ) (place : ℕ) (row : Cells) → IsColumnRow x name place row
      → IsColumnRow new name place row
  column_row_still name place row is = record {
    of_table = (is.of_table.0, joined.first (table_key name) is.of_table.0 is.of_table.1, is.of_table.2);
    spelled = is.spelled;
    named = is.named;
    short = is.short;
    flags = is.flags;
    since = is.since;
    format = is.format;
    added = is.added;
    apart = λ other column has same. is.apart other column
        (column_was name is.of_table.0 is.of_table.1 other column has) same;
    later = λ other column before has. is.later other column before
        (column_was name is.of_table.0 is.of_table.1 other column has);
  }

  index_row_still : (name : List ℕ) (row : Cells) → IsIndexRow x name row → IsIndexRow new name row
  index_row_still name row is = record {
    named = is.named;
    spelled = is.spelled;
    root = is.root;
    rooted = is.rooted;
    of_table = (
      is.of_table.0,
      joined.first (table_key (said_name row)) is.of_table.0 is.of_table.1,
      is.of_table.2,
    );
  }

  pub row_still : (key : Value) (row : Cells) → x key ≡ Some row → IsCatalogRow new key row
  row_still key row has = at (joined.lawful key row has)
    where
      at : IsCatalogRow x key row → IsCatalogRow new key row
      at (inl (name, is, lawful)) = inl (
        name,
        is,
        table_row_still name row (ap x (sym is) ∙ has) lawful,
      )
      at (inr (inl (name, place, is, lawful))) = inr (inl (
        name,
        place,
        is,
        column_row_still name place row lawful,
      ))
      at (inr (inr (name, is, lawful))) = inr (inr (name, is, index_row_still name row lawful))

  -- ---- a table of the first

  column_same : (name : List ℕ) (t : Cells) → x (table_key name) ≡ Some t → (place : ℕ)
      → new (column_key name place) ≡ x (column_key name place)
  column_same name t there place = at (x (column_key name place)) refl (new (column_key name place)) refl
    where
      at : (a : Option Cells) → x (column_key name place) ≡ a → (b : Option Cells)
          → new (column_key name place) ≡ b → new (column_key name place) ≡ x (column_key name place)
      at (Some row) is b other = joined.first (column_key name place) row is ∙ sym is
      at None is None other = other ∙ sym is
      at None is (Some row) other = other ∙ sym (column_was name t there place row other)

  columns_same : (name : List ℕ) (t : Cells) → x (table_key name) ≡ Some t → (place count : ℕ)
      → columns_said new name place count ≡ columns_said x name place count
  columns_same name t there place zero = refl
  columns_same name t there place (suc count) =
      ap (λ (c : Option Cells). with_column c (columns_said new name (place + 1) count))
      (column_same name t there place)
      ∙ ap (with_column (x (column_key name place))) (columns_same name t there (place + 1) count)

  key_same : (name : List ℕ) (t : Cells) → x (table_key name) ≡ Some t → (place count : ℕ)
      → key_said new name place count ≡ key_said x name place count
  key_same name t there place zero = refl
  key_same name t there place (suc count) =
      ap (λ (c : Option Cells). if is_key_row c then place else key_said new name (place + 1) count)
      (column_same name t there place)
      ∙ ap (λ (n : ℕ). if is_key_row (x (column_key name place)) then place else n)
      (key_same name t there (place + 1) count)

  shape_same : (name : List ℕ) (row : Cells) → x (table_key name) ≡ Some row
      → shape_said new name (Some row) ≡ shape_said x name (Some row)
  shape_same name row there = λ i. Some (record {
    columns = columns_same name row there 0 (count_said row) i;
    key = key_same name row there 0 (count_said row) i;
  })

  pub table_still : (t : Table) → IsTable x t → IsTable new t
  table_still t is = record {
    row = is.row;
    there = joined.first (table_key t.name) is.row is.there;
    shape = shape_same t.name is.row is.there ∙ is.shape;
    pointer = is.pointer;
    others = is.others;
    are_others = indexes_still t.name is.row is.there is.others is.are_others;
    indexes = is.indexes;
  }

  pub tables_still : (ts : List Table) → EachTable (IsTable x) ts → EachTable (IsTable new) ts
  tables_still [] each = tt
  tables_still (t ∷ ts) each = (table_still t each.0, tables_still ts each.1)

-- ---- a table in its place

-- tables in the order of their names, with one more
abbrev pub with_table : Table → List Table → List Table
with_table t [] = t ∷ []
with_table t (u ∷ us) =
    by_order (slice_cmp nat_cmp t.name u.name) (t ∷ u ∷ us) (t ∷ u ∷ us) (u ∷ with_table t us)

module _ (t : Table) where
  pub with_it : (ts : List Table) → HasTableOf (with_table t ts) t.name
  with_it [] = inl refl
  with_it (u ∷ us) = at (slice_cmp nat_cmp t.name u.name) (with_it us)
    where
      at : (o : Ordering) → HasTableOf (with_table t us) t.name
          → HasTableOf (by_order o (t ∷ u ∷ us) (t ∷ u ∷ us) (u ∷ with_table t us)) t.name
      at Less more = inl refl
      at Equal more = inl refl
      at Greater more = inr more

  pub with_others : (ts : List Table) (name : List ℕ) → HasTableOf ts name
      → HasTableOf (with_table t ts) name
  with_others [] name has = absurd has
  with_others (u ∷ us) name has = at (slice_cmp nat_cmp t.name u.name) has (with_others us name)
    where
      at : (o : Ordering) → (u.name ≡ name) ⊎ HasTableOf us name
          → (HasTableOf us name → HasTableOf (with_table t us) name)
          → HasTableOf (by_order o (t ∷ u ∷ us) (t ∷ u ∷ us) (u ∷ with_table t us)) name
      at Less has_ more = inr has_
      at Equal has_ more = inr has_
      at Greater (inl is) more = inl is
      at Greater (inr there) more = inr (more there)

  pub each_with : (P : Table → Type 0) (ts : List Table) → P t → EachTable P ts
      → EachTable P (with_table t ts)
  each_with P [] is each = (is, tt)
  each_with P (u ∷ us) is each = at (slice_cmp nat_cmp t.name u.name) (each_with P us is each.1)
    where
      at : (o : Ordering) → EachTable P (with_table t us)
          → EachTable P (by_order o (t ∷ u ∷ us) (t ∷ u ∷ us) (u ∷ with_table t us))
      at Less more = (is, each)
      at Equal more = (is, each)
      at Greater more = (each.0, more)

  after_with : (name : List ℕ) (ts : List Table) → IsBefore name t.name → After name (table_names ts)
      → After name (table_names (with_table t ts))
  after_with name [] before after = before
  after_with name (u ∷ us) before after = at (slice_cmp nat_cmp t.name u.name)
    where
      at : (o : Ordering) → After name (table_names (by_order o (t ∷ u ∷ us) (t ∷ u ∷ us)
          (u ∷ with_table t us)))
      at Less = before
      at Equal = before
      at Greater = after

  pub with_ascends : (ts : List Table) → (HasTableOf ts t.name → ⊥) → Ascend (table_names ts)
      → Ascend (table_names (with_table t ts))
  with_ascends [] none ascend = tt
  with_ascends (u ∷ us) none ascend = at (slice_cmp nat_cmp t.name u.name) refl
      (with_ascends us (λ has. none (inr has)) (ascend_split u.name (table_names us) ascend).1)
    where
      at : (o : Ordering) → slice_cmp nat_cmp t.name u.name ≡ o → Ascend (table_names (with_table t us))
          → Ascend (table_names (by_order o (t ∷ u ∷ us) (t ∷ u ∷ us) (u ∷ with_table t us)))
      at Less is more = (is, ascend)
      at Equal is more = absurd (none (inl (sym (names_equal t.name u.name is))))
      at Greater is more = ascend_join u.name (table_names (with_table t us))
          (after_with u.name us (before_of_greater t.name u.name is)
          (ascend_split u.name (table_names us) ascend).0) more

-- tables in the order of their names, with some more
abbrev pub with_tables : List Table → List Table → List Table
with_tables [] ts = ts
with_tables (u ∷ us) ts = with_table u (with_tables us ts)

-- a table among these is the one, or was among them
with_from : (t : Table) (ts : List Table) (name : List ℕ) → HasTableOf (with_table t ts) name
    → (t.name ≡ name) ⊎ HasTableOf ts name
with_from t [] name has = has
with_from t (u ∷ us) name has = at (slice_cmp nat_cmp t.name u.name) has (with_from t us name)
  where
    at : (o : Ordering)
        → HasTableOf (by_order o (t ∷ u ∷ us) (t ∷ u ∷ us) (u ∷ with_table t us)) name
        → (HasTableOf (with_table t us) name → (t.name ≡ name) ⊎ HasTableOf us name)
        → (t.name ≡ name) ⊎ HasTableOf (u ∷ us) name
    at Less has_ more = has_
    at Equal has_ more = has_
    at Greater (inl is) more = inr (inl is)
    at Greater (inr there) more = on (more there)
      where
        on : (t.name ≡ name) ⊎ HasTableOf us name → (t.name ≡ name) ⊎ HasTableOf (u ∷ us) name
        on (inl is) = inl is
        on (inr has_) = inr (inr has_)

all_from : (us ts : List Table) (name : List ℕ) → HasTableOf (with_tables us ts) name
    → HasTableOf us name ⊎ HasTableOf ts name
all_from [] ts name has = inr has
all_from (u ∷ us) ts name has = at (with_from u (with_tables us ts) name has) (all_from us ts name)
  where
    at : (u.name ≡ name) ⊎ HasTableOf (with_tables us ts) name
        → (HasTableOf (with_tables us ts) name → HasTableOf us name ⊎ HasTableOf ts name)
        → HasTableOf (u ∷ us) name ⊎ HasTableOf ts name
    at (inl is) more = inl (inl is)
    at (inr there) more = on (more there)
      where
        on : HasTableOf us name ⊎ HasTableOf ts name → HasTableOf (u ∷ us) name ⊎ HasTableOf ts name
        on (inl has_) = inl (inr has_)
        on (inr has_) = inr has_

all_others : (us ts : List Table) (name : List ℕ) → HasTableOf ts name
    → HasTableOf (with_tables us ts) name
all_others [] ts name has = has
all_others (u ∷ us) ts name has = with_others u (with_tables us ts) name (all_others us ts name has)

all_of_them : (us ts : List Table) (name : List ℕ) → HasTableOf us name
    → HasTableOf (with_tables us ts) name
all_of_them [] ts name has = absurd has
all_of_them (u ∷ us) ts name (inl is) =
    subst (HasTableOf (with_table u (with_tables us ts))) is (with_it u (with_tables us ts))
all_of_them (u ∷ us) ts name (inr more) =
    with_others u (with_tables us ts) name (all_of_them us ts name more)

pub each_of_all : (P : Table → Type 0) (us ts : List Table) → EachTable P us → EachTable P ts
    → EachTable P (with_tables us ts)
each_of_all P [] ts each others = others
each_of_all P (u ∷ us) ts each others =
    each_with u P (with_tables us ts) each.0 (each_of_all P us ts each.1 others)

name_of : (ts : List Table) (name : List ℕ) → HasTableOf ts name → HasName (table_names ts) name
name_of [] name has = absurd has
name_of (t ∷ ts) name (inl is) = inl is
name_of (t ∷ ts) name (inr more) = inr (name_of ts name more)

all_ascend : (us ts : List Table)
    → ((name : List ℕ) → HasTableOf us name → HasTableOf ts name → ⊥)
    → Ascend (table_names us) → Ascend (table_names ts) → Ascend (table_names (with_tables us ts))
all_ascend [] ts apart ascend others = others
all_ascend (u ∷ us) ts apart ascend others = with_ascends u (with_tables us ts)
    (λ has. none (all_from us ts u.name has))
    (all_ascend us ts (λ name has also. apart name (inr has) also)
    (ascend_split u.name (table_names us) ascend).1 others)
  where
    none : HasTableOf us u.name ⊎ HasTableOf ts u.name → ⊥
    none (inl has) = not_before_self u.name
        (all_after u.name (table_names us) u.name ascend (name_of us u.name has))
    none (inr has) = apart u.name (inl refl) has

-- ---- the law

-- Where the rows of a catalog and those of other tables name no table both, they name its tables together,
-- and the others in their places.
abbrev pub JoinNames : Type 0
JoinNames = (x y new : CatalogRows) (tables made : List Table) → IsJoined x y new
    → AreTables x tables → AreTables y made → AreTables new (with_tables made tables)

pub join_names : JoinNames
join_names x y new tables made joined are its = record {
  lawful = λ key row is. lawful key row (joined.whole key row is);
  each = each_of_all (IsTable new) made tables
      (tables_still y x new (turned x y new joined) made its.each)
      (tables_still x y new joined tables are.each);
  whole = λ name row is. whole name row (joined.whole (table_key name) row is);
  ascending = all_ascend made tables (λ name has also. apart name (there y made its.each name has)
      (there x tables are.each name also)) its.ascending are.ascending;
}
  where
    lawful : (key : Value) (row : Cells) → (x key ≡ Some row) ⊎ (y key ≡ Some row)
        → IsCatalogRow new key row
    lawful key row (inl is) = row_still x y new joined key row is
    lawful key row (inr is) = row_still y x new (turned x y new joined) key row is

    whole : (name : List ℕ) (row : Cells) → (x (table_key name) ≡ Some row) ⊎ (y (table_key name) ≡ Some row)
        → HasTableOf (with_tables made tables) name
    whole name row (inl is) = all_others made tables name (are.whole name row is)
    whole name row (inr is) = all_of_them made tables name (its.whole name row is)

    there : (rows : CatalogRows) (ts : List Table) → EachTable (IsTable rows) ts → (name : List ℕ)
        → HasTableOf ts name → (row : Cells) × (rows (table_key name) ≡ Some row)
    there rows [] each name has = absurd has
    there rows (u ∷ us) each name (inl same) =
        (each.0.row, ap (λ (n : List ℕ). rows (table_key n)) (sym same) ∙ each.0.there)
    there rows (u ∷ us) each name (inr more) = there rows us each.1 name more

    apart : (name : List ℕ) → (row : Cells) × (y (table_key name) ≡ Some row)
        → (row : Cells) × (x (table_key name) ≡ Some row) → ⊥
    apart name (b, other) (a, is) = joined.apart name a b is other
