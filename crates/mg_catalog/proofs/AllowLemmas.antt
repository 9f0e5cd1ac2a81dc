-- What the rows of a list say of the columns of one table.
use Rattle.std.proofs.Common.{◌≡◌, ◌≢◌, ◌⊎◌, inl, inr, ◌∙◌, ap, sym, subst, ℕ, ◌+◌, ◌<◌, ◌≤◌, arith, Bool, IsTrue, ◌↔◌, List, [], ◌∷◌, None, Some, get_or}
use Rattle.std.proofs.lemmas.Bool.{cases_lt}
use Rattle.mg_value.specs.declared.value.Value.{Value}
use Rattle.mg_value.specs.declared.value.Value.TheVariants.{Null}
use Rattle.mg_model.specs.Changes.{Cells}
use Rattle.mg_model.specs.Catalog.{CatalogRows, column_key, said_a, said_b, said_c, said_d}
use Rattle.mg_model.specs.CatalogRules.{IsKeyColumn, catalog_row}
use Rattle.mg_catalog.specs.ByKey.{HasKey, by_key, row_key}
use Rattle.mg_catalog.specs.KeyLaws.{column_key_equal, has_key}
use Rattle.mg_catalog.specs.RowRules.{EachAllows, HasColumns, HasOneKey, IsKeyAt, IsSpelled, RowAllows}

-- the key of a row is of no column of a table where it is of a column of another
pub other_table : (rows : CatalogRows) (key : Value) (found table : List ℕ) (at : ℕ)
    → key ≡ column_key found at → found ≢ table
    → (place : ℕ) (column : Cells) → key ≡ column_key table place
    → rows (column_key table place) ≡ Some column → ⊥
other_table rows key found table at is apart place column same there =
    apart (column_key_equal found table at place (sym is ∙ same)).0

some_same : (a b : Cells) → Some a ≡ Some b → a ≡ b
some_same a b e = cc

-- a row whose key is that of a column allows exactly what the column has
pub allows_at : (P : ℕ → Cells → Type 0) (rows : CatalogRows) (table : List ℕ) (other : Cells)
    (at : ℕ) (column : Cells) (t : Bool) → row_key other ≡ column_key table at
    → rows (column_key table at) ≡ Some column → IsTrue t ↔ P at column
    → IsTrue t ↔ RowAllows P rows table other
allows_at P rows table other at column t is there same =
    (λ passed. forth (same.0 passed), λ allows. same.1 (allows at column is there))
  where
    forth : P at column → RowAllows P rows table other
    forth holds place found of_key found_there =
        let places : at ≡ place = (column_key_equal table table at place (sym is ∙ of_key)).1 in
        let columns : column ≡ found = some_same column found
        (sym there ∙ (ap (λ (n : ℕ). rows (column_key table n)) places ∙ found_there)) in
        let Q : ℕ → Type 0 = λ n. P n found in
        subst Q places (let R : Cells → Type 0 = λ c. P at c in subst R columns holds)

-- where a row is of no column, it allows all
pub allows_none : (P : ℕ → Cells → Type 0) (rows : CatalogRows) (table : List ℕ) (other : Cells)
    → ((place : ℕ) (column : Cells) → row_key other ≡ column_key table place
    → rows (column_key table place) ≡ Some column → ⊥) → RowAllows P rows table other
allows_none P rows table other none at column is there = absurd (none at column is there)

-- one row more of those that are left is tested
pub allows_more : (P : ℕ → Cells → Type 0) (rows : CatalogRows) (table : List ℕ)
    (all rest later : List Cells) (row : Cells) → rest ≡ row ∷ later
    → EachAllows P rows table all ↔ EachAllows P rows table rest → RowAllows P rows table row
    → EachAllows P rows table all ↔ EachAllows P rows table later
allows_more P rows table all rest later row is same allows =
    let Q : List Cells → Type 0 =
    λ xs. EachAllows P rows table all ↔ EachAllows P rows table xs in
    let opened : Q (row ∷ later) = subst Q is same in
    (λ each. (opened.0 each).1, λ each. opened.1 (allows, each))

each_allowed : (P : ℕ → Cells → Type 0) (rows : CatalogRows) (table : List ℕ) (at : ℕ)
    (column : Cells) → rows (column_key table at) ≡ Some column
    → (all : List Cells) → EachAllows P rows table all → HasKey all (column_key table at)
    → P at column
each_allowed P rows table at column there [] each has = absurd has
each_allowed P rows table at column there (row ∷ more) each (inl is) = each.0 at column is there
each_allowed P rows table at column there (row ∷ more) each (inr later) =
    each_allowed P rows table at column there more each.1 later

allowed_each : (P : ℕ → Cells → Type 0) (rows : CatalogRows) (table : List ℕ)
    → ((at : ℕ) (column : Cells) → rows (column_key table at) ≡ Some column → P at column)
    → (all : List Cells) → EachAllows P rows table all
allowed_each P rows table holds [] = tt
allowed_each P rows table holds (row ∷ more) =
    (λ at column is there. holds at column there, allowed_each P rows table holds more)

-- each row of a list allows exactly what all columns of the table have
pub all_allow : (P : ℕ → Cells → Type 0) (rows : List Cells) (table : List ℕ)
    → EachAllows P (by_key rows) table rows
    ↔ ((at : ℕ) (column : Cells) → by_key rows (column_key table at) ≡ Some column
    → P at column)
all_allow P rows table = (
  λ each at column there. each_allowed P (by_key rows) table at column there rows each
      (has_key rows (column_key table at) column there),
  λ holds. allowed_each P (by_key rows) table holds rows,
)

-- the spelling of a row whose key and second value are known
pub spelled_as : (row : Cells) (key value : Value) → IsSpelled row → row_key row ≡ key
    → get_or row 1 Null ≡ value
    → row ≡ catalog_row key value (said_a row) (said_b row) (said_c row) (said_d row)
spelled_as row key value is of_key of_value = is
    ∙ (ap (λ (k : Value). catalog_row k (get_or row 1 Null) (said_a row) (said_b row)
    (said_c row) (said_d row)) of_key
    ∙ ap (λ (v : Value). catalog_row key v (said_a row) (said_b row) (said_c row) (said_d row))
    of_value)

-- exactly one column of a table is the primary key's
pub one_key : (rows : List Cells) (table : List ℕ) (count place : ℕ) (t : Bool) → place < count
    → IsKeyColumn (by_key rows) table place
    → IsTrue t ↔ EachAllows (IsKeyAt place) (by_key rows) table rows
    → IsTrue t ↔ HasOneKey (by_key rows) table count
one_key rows table count place t below is same = (
  λ passed. (
    place,
    below,
    is,
    λ other key.
        (all_allow (IsKeyAt place) rows table).0 (same.0 passed) other key.0 key.1 key.2,
  ),
  λ one. same.1 ((all_allow (IsKeyAt place) rows table).1
      (λ other column there says. one.3 other (column, there, says) ∙ sym (one.3 place is))),
)

pub no_key : (rows : CatalogRows) (table : List ℕ) (count : ℕ)
    → ((place : ℕ) → place < count → IsKeyColumn rows table place → ⊥)
    → HasOneKey rows table count → ⊥
no_key rows table count none one = none one.0 one.1 one.2

-- ---- a test of one place more

pub columns_more : (rows : CatalogRows) (name : List ℕ) (count : ℕ) (column : Cells)
    → HasColumns rows name count → rows (column_key name count) ≡ Some column
    → HasColumns rows name (count + 1)
columns_more rows name count column has there place below = at (cases_lt place count)
  where
    at : (place < count) ⊎ (count ≤ place)
        → (found : Cells) × (rows (column_key name place) ≡ Some found)
    at (inl less) = has place less
    at (inr more) = let same : place ≡ count = omega arith in (column, rw same there)

pub no_column : (rows : CatalogRows) (name : List ℕ) (count place : ℕ)
    → rows (column_key name place) ≡ None → place < count → HasColumns rows name count → ⊥
no_column rows name count place none below has =
    absurd (let found = (has place below).1 in cc)

pub keys_more : (rows : CatalogRows) (name : List ℕ) (count : ℕ)
    → ((place : ℕ) → place < count → IsKeyColumn rows name place → ⊥)
    → (IsKeyColumn rows name count → ⊥)
    → (place : ℕ) → place < count + 1 → IsKeyColumn rows name place → ⊥
keys_more rows name count none here place below is = at (cases_lt place count)
  where
    at : (place < count) ⊎ (count ≤ place) → ⊥
    at (inl less) = none place less is
    at (inr more) = let same : place ≡ count = omega arith in here (rw same at is)
