-- The rows that say a table of a catalog are those that it was read from.
use Rattle.std.proofs.Common.{◌≡◌, ◌≢◌, ◌⊎◌, inl, inr, ◌∙◌, ap, sym, subst, refl, ℕ, zero, suc, ◌+◌, ◌<◌, ◌≤◌, arith, Bool, true, false, List, [], ◌∷◌, ◌++◌, length, Some, None, Option}
use Rattle.std.specs.Prelude.{◌==◌, nat_lt, nat_le}
use Rattle.std.specs.Cmp.Lexicographic.{bytes_decides, same_text}
use Rattle.std.proofs.lemmas.Bool.{eq-eqb, eqb-false, eqb-true, le-leb, leb-true, ne_eqb}
use Rattle.mg_value.specs.declared.value.Value.{Value}
use Rattle.mg_value.specs.declared.value.Value.TheVariants.{Null, Text}
use Rattle.mg_value.specs.declared.shape.Shape.{Shape}
use Rattle.mg_model.specs.declared.table.Index.{Index}
use Rattle.mg_model.specs.declared.table.Table.{Table}
use Rattle.mg_model.specs.Changes.{Cells, same_name}
use Rattle.mg_model.specs.Catalog.{CatalogRows, column_key, column_said, columns_said, count_said, index_key, is_key_row, key_said, kind_said, said_a, said_b, said_c, said_d, said_name, table_key, with_column}
use Rattle.mg_model.specs.CatalogRules.{EachIndex, HasIndex, IsCatalog, IsColumnRow, IsIndexOf, IsIndexRow, IsKeyColumn, IsTable, IsTableRow, catalog_row, primary_index}
use Rattle.mg_catalog.specs.IndexLaws.{indexes_once}
use Rattle.mg_catalog.specs.LawfulLaws.{column_lawful, index_lawful, table_lawful}
use Rattle.mg_catalog.specs.RowsSaid.{HasEach, HasOwnName, column_row, column_rows, flags_of, index_row, index_rows, length_of, other_indexes, primary_root, rows_said, table_row}
use Rattle.mg_catalog.specs.TableLaws.{columns_count, some_row, some_shape}

each_both : (rows : CatalogRows) (first second : List Cells) → HasEach rows first
    → HasEach rows second → HasEach rows (first ++ second)
each_both rows [] second each other = other
each_both rows (row ∷ first) second each other = (each.0, each_both rows first second each.1 other)

-- ---- indexes

row_equal : (key value other : Value) (a b c d x y z w : ℕ) → value ≡ other → a ≡ x → b ≡ y
    → c ≡ z → d ≡ w → catalog_row key value a b c d ≡ catalog_row key other x y z w
row_equal key value other a b c d x y z w values first second third fourth = cc

index_there : (rows : CatalogRows) (table : List ℕ) (i : Index) → IsCatalog rows
    → IsIndexOf rows table i → rows (index_key i.name) ≡ Some (index_row table i)
index_there rows table i catalog is =
    at (index_lawful rows catalog i.name is.row is.there)
  where
    at : IsIndexRow rows i.name is.row → rows (index_key i.name) ≡ Some (index_row table i)
    at lawful = is.there ∙ ap Some (lawful.spelled
        ∙ row_equal (index_key i.name) (Text (said_name is.row)) (Text table) (said_a is.row)
        (said_b is.row) 0 0 i.root.0 i.column 0 0 (ap Text is.of_table) (sym is.root)
        (sym is.column) refl refl)

indexes_there : (rows : CatalogRows) (table : List ℕ) (is : List Index) → IsCatalog rows
    → EachIndex (IsIndexOf rows table) is → HasEach rows (index_rows table is)
indexes_there rows table [] catalog each = tt
indexes_there rows table (i ∷ is) catalog each =
    (index_there rows table i catalog each.0, indexes_there rows table is catalog each.1)

-- the primary index is told from the others
told_apart : (table : List ℕ) (key root : ℕ) (others : List Index) → (HasIndex others table → ⊥)
    → (primary_root table (primary_index table key root ++ others) ≡ root)
    × (other_indexes table (primary_index table key root ++ others) ≡ others)
told_apart table key root others none = at (root == 0) refl others none
  where
    none_first : (is : List Index) → (HasIndex is table → ⊥)
        → (primary_root table is ≡ 0) × (other_indexes table is ≡ is)
    none_first [] never = (refl, refl)
    none_first (i ∷ is) never = by_name (same_name i.name table) refl
      where
        by_name : (t : Bool) → same_name i.name table ≡ t
            → (primary_root table (i ∷ is) ≡ 0) × (other_indexes table (i ∷ is) ≡ i ∷ is)
        by_name true e = absurd (never (inl (same_text i.name table (sym e))))
        by_name false e = (rw e refl, rw e refl)

    at : (t : Bool) → (root == 0) ≡ t → (is : List Index) → (HasIndex is table → ⊥)
        → (primary_root table (primary_index table key root ++ is) ≡ root)
        × (other_indexes table (primary_index table key root ++ is) ≡ is)
    at true e is never =
        let nothing = eqb-true root 0 e in
        let both = none_first is never in
        (rw e (both.0 ∙ sym nothing), rw e both.1)
    at false e is never =
        let own = (bytes_decides table table).1 refl in
        (rw (e, own) refl, rw (e, own) refl)

-- ---- columns

length_again : (most : ℕ) → length_of (kind_said most) ≡ most
length_again most = at (most == 0) refl
  where
    at : (t : Bool) → (most == 0) ≡ t → length_of (kind_said most) ≡ most
    at true e = rw e (sym (eqb-true most 0 e))
    at false e = rw e refl

flags_again : (place key flags : ℕ) → (flags ≡ 0) ⊎ (flags ≡ 1) ⊎ (flags ≡ 3)
    → (flags ≡ 3 → place ≡ key) → (place ≡ key → flags ≡ 3)
    → flags_of (place == key) (nat_lt 0 flags) ≡ flags
flags_again place key flags (inl is) forth back =
    rw (ne_eqb place key (λ same. let three = back same in omega (arith, three)), is) refl
flags_again place key flags (inr (inl is)) forth back =
    rw (ne_eqb place key (λ same. let three = back same in omega (arith, three)), is) refl
flags_again place key flags (inr (inr is)) forth back =
    rw (eq-eqb place key (forth is), is) refl

column_there : (rows : CatalogRows) (table : List ℕ) (key place : ℕ) (row : Cells)
    → IsColumnRow rows table place row → rows (column_key table place) ≡ Some row
    → (said_b row ≡ 3 → place ≡ key) → (place ≡ key → said_b row ≡ 3)
    → rows (column_key table place) ≡ Some (column_row table key place (column_said row))
column_there rows table key place row lawful there forth back = there ∙ ap Some (lawful.spelled
    ∙ row_equal (column_key table place) (Text (said_name row)) (Text (said_name row))
    (said_a row) (said_b row) (said_c row) place (length_of (kind_said (said_a row)))
    (flags_of (place == key) (nat_lt 0 (said_b row))) (said_c row) place refl
    (sym (length_again (said_a row)))
    (sym (flags_again place key (said_b row) lawful.flags forth back)) refl refl)

columns_there : (rows : CatalogRows) (table : List ℕ) (key : ℕ) → IsCatalog rows
    → ((p : ℕ) (row : Cells) → rows (column_key table p) ≡ Some row
    → (said_b row ≡ 3 → p ≡ key) × (p ≡ key → said_b row ≡ 3))
    → (place count : ℕ) → ((p : ℕ) → place ≤ p → p < place + count
    → (column : Cells) × (rows (column_key table p) ≡ Some column))
    → HasEach rows (column_rows table key place (columns_said rows table place count))
columns_there rows table key catalog keys place zero each = tt
columns_there rows table key catalog keys place (suc count) each =
    here (each place (omega arith) (omega arith))
    (columns_there rows table key catalog keys (place + 1) count
    (λ p least below. each p (omega arith) (omega arith)))
  where
    here : (column : Cells) × (rows (column_key table place) ≡ Some column)
        → HasEach rows (column_rows table key (place + 1) (columns_said rows table (place + 1) count))
        → HasEach rows (column_rows table key place (columns_said rows table place (suc count)))
    here (row, there) later =
        let P : Option Cells → Type 0 = λ o. HasEach rows (column_rows table key place
        (with_column o (columns_said rows table (place + 1) count))) in
        subst P (sym there) (
          column_there rows table key place row
              (column_lawful rows catalog table place row there) there
              (keys place row there).0 (keys place row there).1,
          later,
        )

-- the key's place is the one place of a key's column
key_is : (rows : CatalogRows) (table : List ℕ) (k : ℕ) → IsCatalog rows
    → IsKeyColumn rows table k → ((other : ℕ) → IsKeyColumn rows table other → other ≡ k)
    → (place count : ℕ) → place ≤ k → k < place + count → key_said rows table place count ≡ k
key_is rows table k catalog key only place zero least below = absurd (omega arith)
key_is rows table k catalog key only place (suc count) least below =
    at (rows (column_key table place)) refl
    (λ further. key_is rows table k catalog key only (place + 1) count further (omega arith))
  where
    three : (row : Cells) → rows (column_key table place) ≡ Some row → nat_le 2 (said_b row) ≡ true
        → (said_b row ≡ 0) ⊎ (said_b row ≡ 1) ⊎ (said_b row ≡ 3) → place ≡ k
    three row there two (inl is) =
        absurd (let least_two = leb-true 2 (said_b row) two in omega arith)
    three row there two (inr (inl is)) =
        absurd (let least_two = leb-true 2 (said_b row) two in omega arith)
    three row there two (inr (inr is)) = only place (row, there, is)

    apart : is_key_row (rows (column_key table place)) ≡ false → place + 1 ≤ k
    apart other = by_case (k == place) refl
      where
        by_case : (t : Bool) → (k == place) ≡ t → place + 1 ≤ k
        by_case true e =
            let same : k ≡ place = eqb-true k place e in
            let there : rows (column_key table place) ≡ Some key.0 = rw (← same) key.1 in
            absurd (let flagged : is_key_row (rows (column_key table place)) ≡ true =
            rw there (le-leb 2 (said_b key.0) (omega (arith, key.2))) in cc)
        by_case false e = let other_place : k ≢ place = eqb-false k place e in omega arith

    tested : (o : Option Cells) → rows (column_key table place) ≡ o → is_key_row o ≡ true
        → place ≡ k
    tested None there is = absurd cc
    tested (Some row) there is =
        three row there is (column_lawful rows catalog table place row there).flags

    at : (o : Option Cells) → rows (column_key table place) ≡ o
        → (place + 1 ≤ k → key_said rows table (place + 1) count ≡ k)
        → key_said rows table place (suc count) ≡ k
    at o there later = by_test (is_key_row (rows (column_key table place))) refl
      where
        by_test : (t : Bool) → is_key_row (rows (column_key table place)) ≡ t
            → key_said rows table place (suc count) ≡ k
        by_test true e = rw e (tested (rows (column_key table place)) refl e)
        by_test false e = rw e (later (apart e))

-- ---- a table

table_row_there : (rows : CatalogRows) (t : Table) → IsCatalog rows → (is : IsTable rows t)
    → (lawful : IsTableRow rows t.name is.row)
    → (primary_root t.name t.indexes ≡ said_c is.row) × (other_indexes t.name t.indexes ≡ is.others)
    → rows (table_key t.name) ≡ Some (table_row t)
table_row_there rows t catalog is lawful told = is.there ∙ ap Some (lawful.spelled
    ∙ row_equal (table_key t.name) Null Null (said_a is.row) (said_b is.row) (said_c is.row)
    (said_d is.row) t.pointer.0 (length t.shape.columns) (primary_root t.name t.indexes)
    (length (other_indexes t.name t.indexes)) refl (sym is.pointer)
    (sym (columns_count rows t catalog is)) (sym told.0)
    (sym (ap length (told.1 ∙ indexes_once rows t.name is.others lawful.indexes.0 is.are_others
    lawful.indexes.1) ∙ lawful.indexes.2)))

shape_of_row : (rows : CatalogRows) (t : Table) (is : IsTable rows t)
    → (lawful : IsTableRow rows t.name is.row) → t.shape ≡ record {
      columns = columns_said rows t.name 0 (said_b is.row);
      key = key_said rows t.name 0 (said_b is.row);
    }
shape_of_row rows t is lawful =
    let most = lawful.most in
    let few : count_said is.row ≡ said_b is.row = omega arith in
    some_shape t.shape _ (sym is.shape ∙ rw few refl)

-- the rows that say a table of a catalog are those that it was read from, where no other index of
-- it has its name
pub said_there : (rows : CatalogRows) (t : Table) → IsCatalog rows → (is : IsTable rows t)
    → HasOwnName rows t is → HasEach rows (rows_said t)
said_there rows t catalog is own = at (table_lawful rows catalog t.name is.row is.there)
  where
    told : (primary_root t.name t.indexes ≡ said_c is.row)
        × (other_indexes t.name t.indexes ≡ is.others)
    told = rw is.indexes (told_apart t.name t.shape.key (said_c is.row) is.others own)

    keys : (lawful : IsTableRow rows t.name is.row) → (p : ℕ) (row : Cells)
        → rows (column_key t.name p) ≡ Some row
        → (said_b row ≡ 3 → p ≡ lawful.key.0) × (p ≡ lawful.key.0 → said_b row ≡ 3)
    keys lawful p row there = (
      λ three. lawful.key.3 p (row, there, three),
      λ same. three_at row there lawful.key.0 same lawful.key.2,
    )
      where
        three_at : (row : Cells) → rows (column_key t.name p) ≡ Some row → (k : ℕ) → p ≡ k
            → IsKeyColumn rows t.name k → said_b row ≡ 3
        three_at row there k same key =
            ap said_b (some_row row key.0 (sym there
            ∙ (ap (λ (n : ℕ). rows (column_key t.name n)) same ∙ key.1))) ∙ key.2

    at : IsTableRow rows t.name is.row → HasEach rows (rows_said t)
    at lawful = each_both rows
        (column_rows t.name t.shape.key 0 t.shape.columns
        ++ index_rows t.name (other_indexes t.name t.indexes)) (table_row t ∷ [])
        (each_both rows (column_rows t.name t.shape.key 0 t.shape.columns)
        (index_rows t.name (other_indexes t.name t.indexes)) columns
        (rw told.1 (indexes_there rows t.name is.others catalog is.are_others.each)))
        (table_row_there rows t catalog is lawful told, tt)
      where
        k_is : key_said rows t.name 0 (said_b is.row) ≡ lawful.key.0
        k_is = key_is rows t.name lawful.key.0 catalog lawful.key.2 lawful.key.3 0 (said_b is.row)
            (omega arith) (let below = lawful.key.1 in omega arith)

        columns : HasEach rows (column_rows t.name t.shape.key 0 t.shape.columns)
        columns =
            let P : Shape → Type 0 = λ h. HasEach rows (column_rows t.name h.key 0 h.columns) in
            subst P (sym (shape_of_row rows t is lawful)) (rw k_is
            (columns_there rows t.name lawful.key.0 catalog (keys lawful) 0 (said_b is.row)
            (λ p least below. lawful.columns p (omega arith))))
