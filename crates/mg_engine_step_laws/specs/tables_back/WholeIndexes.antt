-- The row of a table counts its indexes. So of two catalogs that have the row, where one has no index row that the other
-- has not, both have the same ones, and name the same table.
use Rattle.std.proofs.Common.{◌≡◌, ◌≤◌, ◌++◌, inl, inr, refl, sym, ap, ◌∙◌, subst, arith, length, ℕ, List, [], ◌∷◌, Option, None, Some}
use Rattle.mg_value.specs.declared.shape.Shape.{Shape}
use Rattle.mg_value.specs.declared.value.Value.{Value}
use Rattle.mg_value.specs.declared.value.Value.TheVariants.{Null, Text}
use Rattle.mg_model.specs.declared.table.Index.{Index}
use Rattle.mg_model.specs.declared.table.Table.{Table}
use Rattle.mg_model.specs.Catalog.{CatalogRows, index_key, said_a, said_b, said_c, said_d, said_name, table_key, told_cells, told_if_there}
use Rattle.mg_model.specs.CatalogRules.{AreIndexes, Ascend, EachIndex, HasIndex, IsBefore, IsCatalog, IsIndexOf, IsIndexRow, IsTable, IsTableRow, catalog_row, index_names, primary_index}
use Rattle.mg_model.specs.Changes.{Cells}
use Rattle.mg_model.specs.Openings.{IsToldCatalog}
use Rattle.mg_catalog.specs.IndexLaws.{index_named, indexes_once, named_index}
use Rattle.mg_catalog.specs.LawfulLaws.{index_lawful, table_lawful}
use Rattle.mg_catalog.specs.NameLaws.{all_after, ascend_split, before_trans, not_before_self}
use Rattle.mg_catalog.specs.Names.{HasName}
use Rattle.mg_catalog.specs.TableLaws.{some_row}

-- ---- definitions

-- each row of an index of a table that the one catalog has, the other one has
abbrev pub HasIndexRows : CatalogRows → CatalogRows → List ℕ → Type 0
HasIndexRows few many table = (name : List ℕ) (row : Cells) → few (index_key name) ≡ Some row
    → said_name row ≡ table → many (index_key name) ≡ Some row

-- ---- ascending names

-- Names that ascend: those behind the first one that are among others are among those behind their first one.
behind_first : (x y : List ℕ) (xs ys : List (List ℕ)) → y ≡ x → Ascend (x ∷ xs)
    → ((name : List ℕ) → HasName (x ∷ xs) name → HasName (y ∷ ys) name)
    → (name : List ℕ) → HasName xs name → HasName ys name
behind_first x y xs ys same ascend within name has = at (within name (inr has))
  where
    at : HasName (y ∷ ys) name → HasName ys name
    at (inl is) = absurd (not_before_self x (subst (IsBefore x) (sym is ∙ same) (all_after x xs name ascend has)))
    at (inr later) = later

-- where the first one is behind the others' first one, all are
all_behind : (x y : List ℕ) (xs ys : List (List ℕ)) → Ascend (x ∷ xs) → Ascend (y ∷ ys) → HasName ys x
    → ((name : List ℕ) → HasName (x ∷ xs) name → HasName (y ∷ ys) name)
    → (name : List ℕ) → HasName (x ∷ xs) name → HasName ys name
all_behind x y xs ys ascend other later within name has = at (within name has) has
  where
    before_x : IsBefore y x
    before_x = all_after y ys x other later

    at : HasName (y ∷ ys) name → HasName (x ∷ xs) name → HasName ys name
    at (inr there) has_ = there
    at (inl is) (inl same) = absurd (not_before_self y (subst (IsBefore y) (same ∙ sym is) before_x))
    at (inl is) (inr more) = absurd (not_before_self y (subst (IsBefore y) (sym is)
        (before_trans y x name before_x (all_after x xs name ascend more))))

-- names among others, where both ascend, are no more than these
are_fewer : (ys xs : List (List ℕ)) → Ascend xs → Ascend ys
    → ((name : List ℕ) → HasName xs name → HasName ys name) → length xs ≤ length ys
are_fewer [] [] ascend other within = omega arith
are_fewer [] (x ∷ xs) ascend other within = absurd (within x (inl refl))
are_fewer (y ∷ ys) [] ascend other within = omega arith
are_fewer (y ∷ ys) (x ∷ xs) ascend other within = at (within x (inl refl))
    (λ same. are_fewer ys xs (ascend_split x xs ascend).1 (ascend_split y ys other).1
    (behind_first x y xs ys same ascend within))
    (λ later. are_fewer ys (x ∷ xs) ascend (ascend_split y ys other).1
    (all_behind x y xs ys ascend other later within))
  where
    at : HasName (y ∷ ys) x → (y ≡ x → length xs ≤ length ys)
        → (HasName ys x → length (x ∷ xs) ≤ length ys) → length (x ∷ xs) ≤ length (y ∷ ys)
    at (inl same) one more = let few = one same in omega (arith, few)
    at (inr later) one more = let few = more later in omega (arith, few)

-- and where they are as many, they are these
are_these : (xs ys : List (List ℕ)) → Ascend xs → Ascend ys
    → ((name : List ℕ) → HasName xs name → HasName ys name) → length xs ≡ length ys → xs ≡ ys
are_these [] [] ascend other within count = refl
are_these [] (y ∷ ys) ascend other within count = absurd (omega (arith, count))
are_these (x ∷ xs) [] ascend other within count = absurd (omega (arith, count))
are_these (x ∷ xs) (y ∷ ys) ascend other within count = at (within x (inl refl))
    (λ same. are_these xs ys (ascend_split x xs ascend).1 (ascend_split y ys other).1
    (behind_first x y xs ys same ascend within) (omega (arith, count)))
  where
    at : HasName (y ∷ ys) x → (y ≡ x → xs ≡ ys) → x ∷ xs ≡ y ∷ ys
    at (inl same) later = let rest = later same in cc
    at (inr later) more = absurd (let few = are_fewer ys (x ∷ xs) ascend (ascend_split y ys other).1
        (all_behind x y xs ys ascend other later within) in omega (arith, count, few))

names_length : (is : List Index) → length (index_names is) ≡ length is
names_length [] = refl
names_length (i ∷ is) = let rest = names_length is in omega (arith, rest)

-- ---- what is told of rows

index_told : (name table : List ℕ) (a b : ℕ) → said_name (told_cells (catalog_row (index_key name) (Text table) a b 0 0))
    ≡ table
index_told name table a b = refl

-- the row of an index names its table without its page number
pub name_told : (rows : CatalogRows) (name : List ℕ) (row : Cells) → IsIndexRow rows name row
    → said_name (told_cells row) ≡ said_name row
name_told rows name row its = ap (λ (x : Cells). said_name (told_cells x)) its.spelled
    ∙ index_told name (said_name row) (said_a row) (said_b row)

table_told : (table : List ℕ) (a b c d : ℕ)
    → said_d (told_cells (catalog_row (table_key table) Null a b c d)) ≡ d
table_told table a b c d = refl

-- and the row of a table counts its indexes
indexes_told : (rows : CatalogRows) (name : List ℕ) (row : Cells) → IsTableRow rows name row
    → said_d (told_cells row) ≡ said_d row
indexes_told rows name row its = ap (λ (x : Cells). said_d (told_cells x)) its.spelled
    ∙ table_told name (said_a row) (said_b row) (said_c row) (said_d row)

-- a row that is told is stored
pub stored_row : (rows : CatalogRows) (is : IsToldCatalog rows) (key : Value) (row : Cells) → rows key ≡ Some row
    → (other : Cells) × (is.stored key ≡ Some other) × (told_cells other ≡ row)
stored_row rows is key row here = at (is.stored key) refl
  where
    at : (x : Option Cells) → is.stored key ≡ x
        → (other : Cells) × (is.stored key ≡ Some other) × (told_cells other ≡ row)
    at None none =
        let both : None ≡ Some row = sym (ap told_if_there none) ∙ (sym (is.told key) ∙ here) in absurd cc
    at (Some other) some = (
      other,
      some,
      some_row (told_cells other) row (sym (ap told_if_there some) ∙ (sym (is.told key) ∙ here)),
    )

-- ---- the same row of a table counts the same indexes

module _ (few many : CatalogRows) (few_is : IsToldCatalog few) (many_is : IsToldCatalog many) (table : List ℕ)
    (row : Cells) (here : few (table_key table) ≡ Some row) (there : many (table_key table) ≡ Some row)
    (within : HasIndexRows few many table) where
  -- the indexes that a catalog has of the table, as many as its row counts
  few_row : (other : Cells) × (few_is.stored (table_key table) ≡ Some other) × (told_cells other ≡ row)
  few_row = stored_row few few_is (table_key table) row here

  many_row : (other : Cells) × (many_is.stored (table_key table) ≡ Some other) × (told_cells other ≡ row)
  many_row = stored_row many many_is (table_key table) row there

  its_few : IsTableRow few_is.stored table few_row.0
  its_few = table_lawful few_is.stored few_is.lawful table few_row.0 few_row.1

  its_many : IsTableRow many_is.stored table many_row.0
  its_many = table_lawful many_is.stored many_is.lawful table many_row.0 many_row.1

  as_many : length (index_names its_few.indexes.0) ≡ length (index_names its_many.indexes.0)
  as_many = names_length its_few.indexes.0 ∙ (its_few.indexes.2
      ∙ (sym (indexes_told few_is.stored table few_row.0 its_few) ∙ (ap said_d (few_row.2 ∙ sym many_row.2)
      ∙ (indexes_told many_is.stored table many_row.0 its_many
      ∙ (sym its_many.indexes.2 ∙ sym (names_length its_many.indexes.0))))))

  -- one of the few is one of the many
  among : (xs : List Index) → EachIndex (IsIndexOf few_is.stored table) xs → (name : List ℕ)
      → HasName (index_names xs) name → HasName (index_names its_many.indexes.0) name
  among [] each name has = absurd has
  among (x ∷ xs) each name (inr more) = among xs each.1 name more
  among (x ∷ xs) each name (inl same) = subst (HasName (index_names its_many.indexes.0)) same
      (index_named its_many.indexes.0 x.name (its_many.indexes.1.whole x.name found.0 found.1 of_table))
    where
      told_there : few (index_key x.name) ≡ Some (told_cells each.0.row)
      told_there = few_is.told (index_key x.name) ∙ ap told_if_there each.0.there

      called : said_name (told_cells each.0.row) ≡ table
      called = name_told few_is.stored x.name each.0.row
          (index_lawful few_is.stored few_is.lawful x.name each.0.row each.0.there) ∙ each.0.of_table

      found : (other : Cells) × (many_is.stored (index_key x.name) ≡ Some other)
          × (told_cells other ≡ told_cells each.0.row)
      found = stored_row many many_is (index_key x.name) (told_cells each.0.row)
          (within x.name (told_cells each.0.row) told_there called)

      of_table : said_name found.0 ≡ table
      of_table = sym (name_told many_is.stored x.name found.0
          (index_lawful many_is.stored many_is.lawful x.name found.0 found.1)) ∙ (ap said_name found.2 ∙ called)

  names_same : index_names its_few.indexes.0 ≡ index_names its_many.indexes.0
  names_same = are_these (index_names its_few.indexes.0) (index_names its_many.indexes.0)
      its_few.indexes.1.ascending its_many.indexes.1.ascending (among its_few.indexes.0 its_few.indexes.1.each) as_many

  -- one of the few under the name of a row of the many has that row
  is_there : (xs : List Index) → EachIndex (IsIndexOf few_is.stored table) xs → (name : List ℕ) (other : Cells)
      → many (index_key name) ≡ Some other → HasIndex xs name → few (index_key name) ≡ Some other
  is_there [] each name other is has = absurd has
  is_there (x ∷ xs) each name other is (inr more) = is_there xs each.1 name other is more
  is_there (x ∷ xs) each name other is (inl same) = subst (λ (n : List ℕ). few (index_key n) ≡ Some other) same
      (told_there ∙ (sym (within x.name (told_cells each.0.row) told_there called)
      ∙ (ap (λ (n : List ℕ). many (index_key n)) same ∙ is)))
    where
      told_there : few (index_key x.name) ≡ Some (told_cells each.0.row)
      told_there = few_is.told (index_key x.name) ∙ ap told_if_there each.0.there

      called : said_name (told_cells each.0.row) ≡ table
      called = name_told few_is.stored x.name each.0.row
          (index_lawful few_is.stored few_is.lawful x.name each.0.row each.0.there) ∙ each.0.of_table

  -- so each of the many is one of the few
  pub indexes_whole : HasIndexRows many few table
  indexes_whole name other is of_table = is_there its_few.indexes.0 its_few.indexes.1.each name other is
      (named_index its_few.indexes.0 name (subst (λ (ns : List (List ℕ)). HasName ns name) (sym names_same)
      (index_named its_many.indexes.0 name (its_many.indexes.1.whole name found.0 found.1 called))))
    where
      found : (x : Cells) × (many_is.stored (index_key name) ≡ Some x) × (told_cells x ≡ other)
      found = stored_row many many_is (index_key name) other is

      called : said_name found.0 ≡ table
      called = sym (name_told many_is.stored name found.0
          (index_lawful many_is.stored many_is.lawful name found.0 found.1)) ∙ (ap said_name found.2 ∙ of_table)

-- ---- rows that are told of rows that are stored

-- rows of a lawful catalog, without their page numbers, are a catalog as a history has it
pub told_of : (rows : CatalogRows) → IsCatalog rows → IsToldCatalog (λ key. told_if_there (rows key))
told_of rows lawful = record { stored = rows; lawful = lawful; told = λ key. refl }

-- ---- tables

-- some rows of a catalog that have the rows of all indexes of a table have its indexes
part_each : (part all : CatalogRows) (table : List ℕ) (others : List Index) → HasIndexRows all part table
    → EachIndex (IsIndexOf all table) others → EachIndex (IsIndexOf part table) others
part_each part all table [] whole each = tt
part_each part all table (i ∷ is) whole each = (
  record {
    row = each.0.row;
    there = whole i.name each.0.row each.0.there each.0.of_table;
    of_table = each.0.of_table;
    column = each.0.column;
    root = each.0.root;
  },
  part_each part all table is whole each.1,
)

pub part_indexes : (part all : CatalogRows)
    → ((key : Value) (row : Cells) → part key ≡ Some row → all key ≡ Some row) → (table : List ℕ)
    → HasIndexRows all part table → (others : List Index) → AreIndexes all table others → AreIndexes part table others
part_indexes part all within table whole others are = record {
  each = part_each part all table others whole are.each;
  whole = λ name row is of. are.whole name row (within (index_key name) row is) of;
  ascending = are.ascending;
}

-- so a table that they say is the one that the catalog says
pub same_table : (part all : CatalogRows)
    → ((key : Value) (row : Cells) → part key ≡ Some row → all key ≡ Some row) → (x y : Table) → IsTable part x
    → IsTable all y → y.name ≡ x.name → y.shape ≡ x.shape → HasIndexRows all part x.name → y ≡ x
same_table part all within x y its also names shapes whole k = record {
  name = names k;
  shape = shapes k;
  pointer = record { 0 = page k };
  indexes = indexes k;
}
  where
    row_same : also.row ≡ its.row
    row_same = some_row also.row its.row (sym also.there
        ∙ (ap (λ (n : List ℕ). all (table_key n)) names ∙ within (table_key x.name) its.row its.there))

    page : y.pointer.0 ≡ x.pointer.0
    page = also.pointer ∙ (ap said_a row_same ∙ sym its.pointer)

    others : also.others ≡ its.others
    others = indexes_once part x.name also.others its.others (part_indexes part all within x.name whole also.others
        (subst (λ (n : List ℕ). AreIndexes all n also.others) names also.are_others)) its.are_others

    indexes : y.indexes ≡ x.indexes
    indexes = also.indexes
        ∙ (ap (λ (n : List ℕ). primary_index n y.shape.key (said_c also.row) ++ also.others) names
        ∙ (ap (λ (shape : Shape). primary_index x.name shape.key (said_c also.row) ++ also.others) shapes
        ∙ (ap (λ (row : Cells). primary_index x.name x.shape.key (said_c row) ++ also.others) row_same
        ∙ (ap (λ (is : List Index). primary_index x.name x.shape.key (said_c its.row) ++ is) others
        ∙ sym its.indexes))))
