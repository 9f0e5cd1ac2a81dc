-- The rows of the catalog that say a new table say it, and leave all other tables.
use Rattle.std.proofs.Common.{◌≡◌, ◌≢◌, ◌⊎◌, inl, inr, refl, sym, ap, ◌∙◌, subst, arith, ◌++◌, ◌+◌, ◌<◌, ◌≤◌, ◌==◌, ℕ, zero, suc, Bool, true, false, List, [], ◌∷◌, get_or, length, Option, None, Some}
use Rattle.std.specs.Prelude.{All, if◌then◌else◌, min, nat_le, nat_lt, slice_get}
use Rattle.std.proofs.Math.Nat.{min-eq_left}
use Rattle.std.proofs.Math.Path.{fun_ext}
use Rattle.std.proofs.lemmas.Bool.{cases_eq, eq-eqb, ne_eqb}
use Rattle.std.specs.Cmp.Lexicographic.{same_text}
use Rattle.mg_base.specs.declared.numbers.TxNo.{TxNo}
use Rattle.mg_catalog.specs.ByKey.{HasKey, HasRow, HaveOwnKeys, row_key}
use Rattle.mg_catalog.specs.KeyLaws.{column_key_equal, rest_equal, same_key_other, same_key_self, text_equal}
use Rattle.mg_catalog.specs.RowsSaid.{column_row, column_rows, flags_of, length_of, table_row}
use Rattle.mg_value.specs.declared.shape.Column.{Column}
use Rattle.mg_value.specs.declared.shape.Kind.{Kind}
use Rattle.mg_value.specs.declared.shape.Kind.TheVariants as kinds
use Rattle.mg_value.specs.declared.shape.Shape.{Shape}
use Rattle.mg_value.specs.declared.shape.TheConstants.{MOST_COLUMNS}
use Rattle.mg_value.specs.declared.value.Value.{Value}
use Rattle.mg_model.specs.declared.change.Change.{Change}
use Rattle.mg_model.specs.declared.opening.Opening.{Opening}
use Rattle.mg_model.specs.Answers.{catalog_of, told}
use Rattle.mg_model.specs.Catalog.{CatalogRows, catalog_name, column_key, column_said, columns_said, is_key_row, key_said, kind_said, said_b, shape_said, table_key, text_of, with_column}
use Rattle.mg_model.specs.Changes.{Cells, row_at, same_key, same_name}
use Rattle.mg_model.specs.History.{Entries}
use Rattle.mg_model.specs.Machine.{base, own}
use Rattle.mg_records.specs.Reading.{shape_named}
use Rattle.mg_records.specs.Writing.{IsKeyColumn, IsNewShape, IsOfLength, new_table, rows_made}
use Rattle.mg_engine_change_laws.specs.tables.Rows.{row_entry, with_rows}
use Rattle.mg_engine_change_laws.specs.tables.Seen.{MadeAreSeen}

-- ---- what is seen of the catalog

-- the catalog's rows with these, one after another
abbrev put_rows : List Cells → CatalogRows → CatalogRows
put_rows [] x = x
put_rows (row ∷ rows) x = put_rows rows (λ key. if same_key (row_key row) key then Some row else x key)

row_seen : (o : Opening) (h : Entries) (t : TxNo) (row : Cells)
    → catalog_of (told o (row_entry t row ∷ h)) t.0 ≡ put_rows (row ∷ []) (catalog_of (told o h) t.0)
row_seen o h t row = fun_ext (λ key. ap (λ (cs : List Change). row_at (cs ++ base o h t.0) catalog_name key) more)
  where
    more : own o (row_entry t row ∷ h) t.0
        ≡ record { table = catalog_name; key = row_key row; row = Some row } ∷ own o h t.0
    more = rw (eq-eqb t.0 t.0 refl) refl

rows_seen : (o : Opening) (t : TxNo) (rows : List Cells) (h : Entries)
    → catalog_of (told o (with_rows t rows h)) t.0 ≡ put_rows rows (catalog_of (told o h) t.0)
rows_seen o t [] h = refl
rows_seen o t (row ∷ rows) h = rows_seen o t rows (row_entry t row ∷ h) ∙ ap (put_rows rows) (row_seen o h t row)

-- a key that none of them has is as it was
put_else : (rows : List Cells) (x : CatalogRows) (key : Value) → (HasKey rows key → ⊥) → put_rows rows x key ≡ x key
put_else [] x key none = refl
put_else (row ∷ rows) x key none =
    put_else rows (λ k. if same_key (row_key row) k then Some row else x k) key (λ has. none (inr has))
    ∙ rw (same_key_other (row_key row) key (λ same. none (inl same))) refl

-- each is there
put_there : (rows : List Cells) (x : CatalogRows) → HaveOwnKeys rows → (row : Cells) → HasRow rows row
    → put_rows rows x (row_key row) ≡ Some row
put_there [] x keys row has = absurd has
put_there (first ∷ rows) x keys row (inl same) =
    put_else rows (λ k. if same_key (row_key first) k then Some first else x k) (row_key row)
    (λ has. keys.0 (subst (λ (r : Cells). HasKey rows (row_key r)) (sym same) has))
    ∙ (ap (λ (r : Cells). if same_key (row_key first) (row_key r) then Some first else x (row_key r)) (sym same)
    ∙ (rw (same_key_self (row_key first)) (ap Some same)))
put_there (first ∷ rows) x keys row (inr more) =
    put_there rows (λ k. if same_key (row_key first) k then Some first else x k) keys.1 row more

-- ---- the keys of the rows of a table

-- the letter of a key
abbrev pub letter : Value → ℕ
letter key = get_or (text_of key) 0 0

pub no_table_key : (name other : List ℕ) (key place : ℕ) (columns : List Column)
    → HasKey (column_rows name key place columns) (table_key other) → ⊥
no_table_key name other key place [] has = has
no_table_key name other key place (c ∷ cs) (inl same) =
    let letters : 67 ≡ 84 = ap letter same in omega (arith, letters)
no_table_key name other key place (c ∷ cs) (inr more) = no_table_key name other key (place + 1) cs more

-- a key among those of columns is of the table, and of a place
column_key_of : (name other : List ℕ) (key place at : ℕ) (columns : List Column)
    → HasKey (column_rows name key place columns) (column_key other at) → (name ≡ other) × (place ≤ at)
column_key_of name other key place at [] has = absurd has
column_key_of name other key place at (c ∷ cs) (inl same) =
    let both = column_key_equal name other place at same in
    (both.0, let e = both.1 in omega (arith, e))
column_key_of name other key place at (c ∷ cs) (inr more) =
    let both = column_key_of name other key (place + 1) at cs more in
    (both.0, let e = both.1 in omega (arith, e))

pub own_columns : (name : List ℕ) (key place : ℕ) (columns : List Column)
    → HaveOwnKeys (column_rows name key place columns)
own_columns name key place [] = tt
own_columns name key place (c ∷ cs) = (
  λ has. let both = column_key_of name name key (place + 1) place cs has in
      let e = both.1 in omega (arith, e),
  own_columns name key (place + 1) cs,
)

own_keys : (name : List ℕ) (shape : Shape) → HaveOwnKeys (rows_made name shape)
own_keys name shape = (no_table_key name name shape.key 0 shape.columns, own_columns name shape.key 0 shape.columns)

-- ---- the columns that they say

-- the columns of a shape from a place on: each has a lawful length, came with the table, and the key's is not NULL
pub record AreColumns (key place : ℕ) (columns : List Column) : Type 0 where
  pub lengths : All (λ column. IsOfLength column.kind) columns
  pub keyed : (at : ℕ) (column : Column) → slice_get columns at ≡ Some column → place + at ≡ key → column.not_null ≡ true

kind_there : (kind : Kind) → IsOfLength kind → kind_said (length_of kind) ≡ kind
kind_there kinds.Int is = refl
kind_there (kinds.Text most) is =
    let some : most ≢ 0 = λ none. let low = is.0 in omega (arith, low, none) in rw (ne_eqb most 0 some) refl

null_there : (is_key not_null : Bool) → (is_key ≡ true → not_null ≡ true)
    → nat_lt 0 (flags_of is_key not_null) ≡ not_null
null_there true not_null keyed = sym (keyed refl)
null_there false true keyed = refl
null_there false false keyed = refl

column_there : (name : List ℕ) (key place : ℕ) (column : Column) → IsOfLength column.kind
    → ((place == key) ≡ true → column.not_null ≡ true)
    → column_said (column_row name key place column) ≡ column
column_there name key place column length keyed = λ i. record {
  name = column.name;
  kind = kind_there column.kind length i;
  not_null = null_there (place == key) column.not_null keyed i;
  since = column.since;
}

says_key_there : (is_key not_null : Bool) → nat_le 2 (flags_of is_key not_null) ≡ is_key
says_key_there true not_null = refl
says_key_there false true = refl
says_key_there false false = refl

module _ (name : List ℕ) (key : ℕ) (x : CatalogRows) where
  pub columns_there : (columns : List Column) (place : ℕ) → AreColumns key place columns
      → ((row : Cells) → HasRow (column_rows name key place columns) row → x (row_key row) ≡ Some row)
      → columns_said x name place (length columns) ≡ columns
  columns_there [] place are there = refl
  columns_there (c ∷ cs) place are there =
      ap (λ (r : Option Cells). with_column r (columns_said x name (place + 1) (length cs)))
      (there (column_row name key place c) (inl refl))
      ∙ ((λ i. column_there name key place c (are.lengths 0 c (omega arith)) here i ∷ columns_said x name (place + 1) (length cs))
      ∙ ap (λ (more : List Column). c ∷ more) (columns_there cs (place + 1) (record {
        lengths = λ k d below. are.lengths (suc k) d (omega (arith, below));
        keyed = λ at column is same. are.keyed (suc at) column is (omega (arith, same));
      }) (λ row has. there row (inr has))))
    where
      here : (place == key) ≡ true → c.not_null ≡ true
      here is = at (cases_eq place key)
        where
          at : (place ≡ key) ⊎ (place ≢ key) → c.not_null ≡ true
          at (inl same) = are.keyed 0 c refl (omega (arith, same))
          at (inr ne) = let off = ne_eqb place key ne in let both : true ≡ false = sym is ∙ off in absurd cc

  pub key_there : (columns : List Column) (place : ℕ) → place ≤ key → key < place + length columns
      → ((row : Cells) → HasRow (column_rows name key place columns) row → x (row_key row) ≡ Some row)
      → key_said x name place (length columns) ≡ key
  key_there [] place from below there = absurd (omega (arith, from, below))
  key_there (c ∷ cs) place from below there =
      ap (λ (r : Option Cells). if is_key_row r then place else key_said x name (place + 1) (length cs))
      (there (column_row name key place c) (inl refl))
      ∙ (ap (λ (b : Bool). if b then place else key_said x name (place + 1) (length cs))
      (says_key_there (place == key) c.not_null) ∙ at (cases_eq place key)
      (λ ne. key_there cs (place + 1) (omega (arith, from, ne)) (omega (arith, below))
      (λ row has. there row (inr has))))
    where
      at : (place ≡ key) ⊎ (place ≢ key)
          → (place ≢ key → key_said x name (place + 1) (length cs) ≡ key)
          → (if place == key then place else key_said x name (place + 1) (length cs)) ≡ key
      at (inl same) more = rw (eq-eqb place key same) same
      at (inr ne) more = rw (ne_eqb place key ne) (more ne)

-- ---- tables that they do not say

module _ (x y : CatalogRows) (name : List ℕ)
    (columns : (place : ℕ) → x (column_key name place) ≡ y (column_key name place)) where
  columns_same : (count place : ℕ) → columns_said x name place count ≡ columns_said y name place count
  columns_same zero place = refl
  columns_same (suc count) place =
      ap (λ (r : Option Cells). with_column r (columns_said x name (place + 1) count)) (columns place)
      ∙ ap (with_column (y (column_key name place))) (columns_same count (place + 1))

  key_same : (count place : ℕ) → key_said x name place count ≡ key_said y name place count
  key_same zero place = refl
  key_same (suc count) place =
      ap (λ (r : Option Cells). if is_key_row r then place else key_said x name (place + 1) count) (columns place)
      ∙ ap (λ (n : ℕ). if is_key_row (y (column_key name place)) then place else n) (key_same count (place + 1))

  said_same : (row : Option Cells) → shape_said x name row ≡ shape_said y name row
  said_same None = refl
  said_same (Some row) = λ i. Some (record {
    columns = columns_same (min (said_b row) MOST_COLUMNS) 0 i;
    key = key_same (min (said_b row) MOST_COLUMNS) 0 i;
  })

  named_same : x (table_key name) ≡ y (table_key name) → shape_named x name ≡ shape_named y name
  named_same own_row = at (same_name name catalog_name)
    where
      at : (b : Bool) → (if b then None else shape_said x name (x (table_key name)))
          ≡ (if b then None else shape_said y name (y (table_key name)))
      at true = refl
      at false = ap (shape_said x name) own_row ∙ said_same (y (table_key name))

-- ---- the law

pub key_within : (columns : List Column) (key : ℕ) → IsKeyColumn (slice_get columns key) → key < length columns
key_within [] key is = absurd is
key_within (c ∷ cs) zero is = omega arith
key_within (c ∷ cs) (suc key) is = let more = key_within cs key is in omega (arith, more)

pub key_not_null : (columns : List Column) (key at : ℕ) (column : Column) → IsKeyColumn (slice_get columns key)
    → slice_get columns at ≡ Some column → at ≡ key → column.not_null ≡ true
key_not_null columns key at column is there same = subst IsKeyColumn
    (ap (slice_get columns) (sym same) ∙ there) is

other_table : (name other : List ℕ) (shape : Shape) → other ≢ name
    → HasKey (rows_made name shape) (table_key other) → ⊥
other_table name other shape ne (inl same) = ne (sym (rest_equal 84 84 _ _ (text_equal _ _ same)))
other_table name other shape ne (inr more) = no_table_key name other shape.key 0 shape.columns more

other_column : (name other : List ℕ) (shape : Shape) → other ≢ name → (place : ℕ)
    → HasKey (rows_made name shape) (column_key other place) → ⊥
other_column name other shape ne place (inl same) =
    let letters : 84 ≡ 67 = ap letter same in omega (arith, letters)
other_column name other shape ne place (inr more) =
    ne (sym (column_key_of name other shape.key 0 place shape.columns more).0)

not_catalog : (name : List ℕ) → name ≢ catalog_name → same_name name catalog_name ≡ false
not_catalog name other = at (same_name name catalog_name) refl
  where
    at : (b : Bool) → same_name name catalog_name ≡ b → same_name name catalog_name ≡ false
    at true is = absurd (other (same_text name catalog_name (sym is)))
    at false off = off

made_said : (name : List ℕ) (shape : Shape) (old : CatalogRows) → name ≢ catalog_name → IsNewShape shape
    → shape_named (put_rows (rows_made name shape) old) name ≡ Some shape
made_said name shape old other new = rw (not_catalog name other)
    (ap (shape_said x name) (there (table_row (new_table name shape)) (inl refl)) ∙ said)
  where
    x : CatalogRows
    x = put_rows (rows_made name shape) old

    there : (row : Cells) → HasRow (rows_made name shape) row → put_rows (rows_made name shape) old (row_key row) ≡ Some row
    there row has = put_there (rows_made name shape) old (own_keys name shape) row has

    said : shape_said (put_rows (rows_made name shape) old) name (Some (table_row (new_table name shape))) ≡ Some shape
    said = ap (λ (n : ℕ). Some (record {
      columns = columns_said (put_rows (rows_made name shape) old) name 0 n;
      key = key_said (put_rows (rows_made name shape) old) name 0 n;
    })) (min-eq_left new.most)
        ∙ (λ i. Some (record {
          columns = columns_there name shape.key (put_rows (rows_made name shape) old) shape.columns 0 (record {
            lengths = new.lengths;
            keyed = λ at column is same. key_not_null shape.columns shape.key at column new.key is
                (omega (arith, same));
          }) (λ row has. there row (inr has)) i;
          key = key_there name shape.key (put_rows (rows_made name shape) old) shape.columns 0 (omega arith)
              (let within = key_within shape.columns shape.key new.key in omega (arith, within))
              (λ row has. there row (inr has)) i;
        }))

pub made_are_seen : MadeAreSeen
made_are_seen o h t name shape other new = record {
  made = ap (λ (rows : CatalogRows). shape_named rows name) (rows_seen o t (rows_made name shape) h)
      ∙ made_said name shape (catalog_of (told o h) t.0) other new;
  others = λ u ne. ap (λ (rows : CatalogRows). shape_named rows u) (rows_seen o t (rows_made name shape) h)
      ∙ named_same (put_rows (rows_made name shape) (catalog_of (told o h) t.0)) (catalog_of (told o h) t.0) u
      (λ place. put_else (rows_made name shape) (catalog_of (told o h) t.0) (column_key u place)
      (other_column name u shape ne place))
      (put_else (rows_made name shape) (catalog_of (told o h) t.0) (table_key u) (other_table name u shape ne));
}
