-- A row is lawful exactly where its groups of rules hold.
use Rattle.std.proofs.Common.{◌≡◌, inl, inr, ◌∙◌, ap, sym, ℕ, Bool, IsTrue, ◌↔◌, List, Some, length}
use Rattle.std.specs.Prelude.{◌==◌}
use Rattle.std.proofs.lemmas.Bool.{eq-eqb, eqb-true}
use Rattle.mg_value.specs.declared.value.Value.{Value}
use Rattle.mg_value.specs.declared.value.Value.TheVariants.{Null, Text}
use Rattle.mg_model.specs.Changes.{Cells}
use Rattle.mg_model.specs.Catalog.{CatalogRows, column_key, said_a, said_b, said_c, said_d, said_name, table_key}
use Rattle.mg_model.specs.CatalogRules.{IsCatalogRow, IsColumnRow, IsTableRow, catalog_row}
use Rattle.mg_catalog.specs.ByKey.{by_key, row_key}
use Rattle.mg_catalog.specs.IndexLaws.{among_are, indexes_once}
use Rattle.mg_catalog.specs.KeyLaws.{column_key_equal, index_not_column, table_not_column}
use Rattle.mg_catalog.specs.Names.{all_indexes}
use Rattle.mg_catalog.specs.RowRules.{ColumnAllows, ColumnSpelled, EachAllows, HasColumns, HasOneKey, HasPlace, TableSpelled}
use Rattle.mg_catalog.specs.TableIndexes.{indexes_among}
use Rattle.mg_catalog.proofs.AllowLemmas.{all_allow, spelled_as}

-- ---- the row of a column

column_given : (rows : List Cells) (table : List ℕ) (place : ℕ) (row : Cells)
    → row_key row ≡ column_key table place → ColumnSpelled place row
    → HasPlace (by_key rows) table place
    → EachAllows (ColumnAllows place row) (by_key rows) table rows
    → IsColumnRow (by_key rows) table place row
column_given rows table place row of_key spelled has each = record {
  of_table = has;
  spelled = spelled_as row (column_key table place) (Text (said_name row)) spelled.0 of_key
      spelled.1 ∙ ap (λ (n : ℕ). catalog_row (column_key table place) (Text (said_name row))
      (said_a row) (said_b row) (said_c row) n) spelled.2;
  named = spelled.3;
  short = spelled.4.0;
  flags = spelled.4.1;
  since = spelled.4.2;
  format = spelled.4.3;
  added = spelled.4.4;
  apart = λ other column there. (allowed other column there).0;
  later = λ other column below there. (allowed other column there).1 below;
}
  where
    allowed : (at : ℕ) (column : Cells) → by_key rows (column_key table at) ≡ Some column
        → ColumnAllows place row at column
    allowed = (all_allow (ColumnAllows place row) rows table).0 each

column_needs : (rows : List Cells) (table : List ℕ) (place : ℕ) (row : Cells)
    → IsColumnRow (by_key rows) table place row
    → EachAllows (ColumnAllows place row) (by_key rows) table rows
column_needs rows table place row is = (all_allow (ColumnAllows place row) rows table).1
    (λ at column there. (is.apart at column there, λ below. is.later at column below there))

pub column_row_is : (rows : List Cells) (table : List ℕ) (place : ℕ) (row : Cells) (t : Bool)
    → row_key row ≡ column_key table place → ColumnSpelled place row
    → HasPlace (by_key rows) table place
    → IsTrue t ↔ EachAllows (ColumnAllows place row) (by_key rows) table rows
    → IsTrue t ↔ IsColumnRow (by_key rows) table place row
column_row_is rows table place row t of_key spelled has same = (
  λ passed. column_given rows table place row of_key spelled has (same.0 passed),
  λ is. same.1 (column_needs rows table place row is),
)

-- ---- the row of a table

table_given : (rows : List Cells) (name : List ℕ) (row : Cells) → row_key row ≡ table_key name
    → TableSpelled name row → HasColumns (by_key rows) name (said_b row)
    → HasOneKey (by_key rows) name (said_b row)
    → length (indexes_among (by_key rows) name (all_indexes rows)) ≡ said_d row
    → IsTableRow (by_key rows) name row
table_given rows name row of_key spelled columns key counted = record {
  named = spelled.2;
  other = spelled.3;
  spelled = spelled_as row (table_key name) Null spelled.0 of_key spelled.1;
  some = spelled.4.0;
  most = spelled.4.1;
  columns = columns;
  key = key;
  pointer = spelled.4.2;
  root = spelled.4.3;
  indexes =
      (indexes_among (by_key rows) name (all_indexes rows), among_are rows name, counted);
}

table_counts : (rows : List Cells) (name : List ℕ) (row : Cells)
    → IsTableRow (by_key rows) name row
    → length (indexes_among (by_key rows) name (all_indexes rows)) ≡ said_d row
table_counts rows name row is = ap length (indexes_once (by_key rows) name
    (indexes_among (by_key rows) name (all_indexes rows)) is.indexes.0 (among_are rows name)
    is.indexes.1) ∙ is.indexes.2

pub table_row_is : (rows : List Cells) (name : List ℕ) (row : Cells) (count : ℕ)
    → row_key row ≡ table_key name → TableSpelled name row
    → HasColumns (by_key rows) name (said_b row) → HasOneKey (by_key rows) name (said_b row)
    → count ≡ length (indexes_among (by_key rows) name (all_indexes rows))
    → IsTrue (count == said_d row) ↔ IsTableRow (by_key rows) name row
table_row_is rows name row count of_key spelled columns key counts = (
  λ passed. table_given rows name row of_key spelled columns key
      (sym counts ∙ eqb-true count (said_d row) passed),
  λ is. eq-eqb count (said_d row) (counts ∙ table_counts rows name row is),
)

-- ---- the row of a key

pub column_is_row : (rows : CatalogRows) (table : List ℕ) (place : ℕ) (key : Value) (row : Cells)
    (t : Bool) → key ≡ column_key table place → IsTrue t ↔ IsColumnRow rows table place row
    → IsTrue t ↔ IsCatalogRow rows key row
column_is_row rows table place key row t of_key same =
    (λ passed. inr (inl (table, place, of_key, same.0 passed)), λ is. same.1 (at is))
  where
    moved : (other : List ℕ) (n : ℕ) → (other ≡ table) × (n ≡ place)
        → IsColumnRow rows other n row → IsColumnRow rows table place row
    moved other n is lawful = rw (← is.0, ← is.1) lawful

    at : IsCatalogRow rows key row → IsColumnRow rows table place row
    at (inl (name, is, lawful)) =
        absurd (table_not_column name table place (sym is ∙ of_key))
    at (inr (inl (other, n, is, lawful))) =
        moved other n (column_key_equal other table n place (sym is ∙ of_key)) lawful
    at (inr (inr (name, is, lawful))) =
        absurd (index_not_column name table place (sym is ∙ of_key))
