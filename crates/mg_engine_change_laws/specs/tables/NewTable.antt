-- The rows of the catalog that a new table comes with are lawful, and say it alone, whatever its first pointer page.
use Rattle.std.proofs.Common.{◌≡◌, ◌≢◌, ◌⊎◌, inl, inr, refl, sym, ap, ◌∙◌, subst, arith, lit<, lit≤, ◌+◌, ◌<◌, ◌≤◌, ◌^◌, ◌/◌, ◌==◌, ℕ, zero, suc, Bool, true, false, List, [], ◌∷◌, length, Some}
use Rattle.std.specs.Prelude.{All, slice_get, slice_index_or}
use Rattle.std.proofs.Math.Nat.{min-eq_left}
use Rattle.std.proofs.lemmas.Bool.{cases_eq, eq-eqb, ne_eqb}
use Rattle.mg_catalog.specs.ByKey.{HasRow, HaveOwnKeys, by_key, row_key}
use Rattle.mg_catalog.specs.KeyLaws.{column_key_equal, has_row, rest_equal, text_equal}
use Rattle.mg_catalog.specs.RowsSaid.{column_row, column_rows, flags_of, length_of, table_row}
use Rattle.mg_value.specs.Names.{IsName}
use Rattle.mg_value.specs.declared.shape.Column.{Column}
use Rattle.mg_value.specs.declared.shape.Kind.{Kind}
use Rattle.mg_value.specs.declared.shape.Kind.TheVariants as kinds
use Rattle.mg_value.specs.declared.shape.Shape.{Shape}
use Rattle.mg_model.specs.Catalog.{CatalogRows, catalog_name, column_key, columns_said, index_key, key_said, said_b, said_c, said_name, shape_said, table_key}
use Rattle.mg_model.specs.CatalogRules.{AreIndexes, AreTables, HasTableOf, IsCatalog, IsCatalogRow, IsColumnRow, IsKeyColumn, IsTable, IsTableRow}
use Rattle.mg_model.specs.Changes.{Cells}
use Rattle.mg_image.specs.Catalog.{FitsPages, longest_key}
use Rattle.mg_records.specs.Writing.{FitsPage, IsNewShape, IsOfLength, most_of}
use Rattle.mg_table_batch.specs.Filling.{rows_at, table_at}
use Rattle.mg_engine_change_laws.specs.tables.JoinedRows.{by_key_at}
use Rattle.mg_engine_change_laws.specs.tables.SeenLaws.{columns_there, key_not_null, key_there, key_within, letter, no_table_key, own_columns}

-- ---- lists

get_below : {X : Type 0} (xs : List X) (at : ℕ) (x : X) → slice_get xs at ≡ Some x → at < length xs
get_below [] at x is = absurd cc
get_below (y ∷ ys) zero x is = omega arith
get_below (y ∷ ys) (suc at) x is = let more = get_below ys at x is in omega (arith, more)

get_index : {X : Type 0} (xs : List X) (at : ℕ) (x : X) → slice_get xs at ≡ Some x → slice_index_or xs at x ≡ x
get_index [] at x is = refl
get_index (y ∷ ys) zero x is = cc
get_index (y ∷ ys) (suc at) x is = get_index ys at x is

of_all : {X : Type 0} (P : X → Type 0) (xs : List X) → All P xs → (at : ℕ) (x : X) → slice_get xs at ≡ Some x → P x
of_all P xs all at x is = subst P (get_index xs at x is) (all at x (get_below xs at x is))

get_there : {X : Type 0} (xs : List X) (at : ℕ) → at < length xs → (x : X) × (slice_get xs at ≡ Some x)
get_there [] at below = absurd (omega (arith, below))
get_there (y ∷ ys) zero below = (y, refl)
get_there (y ∷ ys) (suc at) below = get_there ys at (omega (arith, below))

-- ---- the rows of columns

column_in : (name : List ℕ) (key place : ℕ) (columns : List Column) (at n : ℕ) (c : Column)
    → slice_get columns at ≡ Some c → n ≡ place + at
    → HasRow (column_rows name key place columns) (column_row name key n c)
column_in name key place [] at n c is same = absurd cc
column_in name key place (d ∷ ds) zero n c is same =
    inl (λ i. column_row name key (here i) (it i))
  where
    here : place ≡ n
    here = omega (arith, same)

    it : d ≡ c
    it = cc
column_in name key place (d ∷ ds) (suc at) n c is same =
    inr (column_in name key (place + 1) ds at n c is (omega (arith, same)))

-- The column whose row this is.
record ItsColumn (name : List ℕ) (key place : ℕ) (columns : List Column) (row : Cells) : Type 0 where
  at : ℕ
  n : ℕ
  column : Column
  is : slice_get columns at ≡ Some column
  counted : n ≡ place + at
  same : column_row name key n column ≡ row

column_of : (name : List ℕ) (key place : ℕ) (columns : List Column) (row : Cells)
    → HasRow (column_rows name key place columns) row → ItsColumn name key place columns row
column_of name key place [] row has = absurd has
column_of name key place (c ∷ cs) row (inl same) = record {
  at = 0;
  n = place;
  column = c;
  is = refl;
  counted = omega arith;
  same = same;
}
column_of name key place (c ∷ cs) row (inr more) =
    let its = column_of name key (place + 1) cs row more in
    let counted = its.counted in record {
      at = suc its.at;
      n = its.n;
      column = its.column;
      is = its.is;
      counted = omega (arith, counted);
      same = its.same;
    }

-- ---- the flags

flags_told : (b not_null : Bool) → (b ≡ true → not_null ≡ true)
    → (flags_of b not_null ≡ 0) ⊎ (flags_of b not_null ≡ 1) ⊎ (flags_of b not_null ≡ 3)
flags_told true not_null keyed = inr (inr refl)
flags_told false true keyed = inr (inl refl)
flags_told false false keyed = inl refl

flags_key : (b not_null : Bool) → flags_of b not_null ≡ 3 → b ≡ true
flags_key true not_null is = refl
flags_key false true is = absurd (omega (arith, is))
flags_key false false is = absurd (omega (arith, is))

same_place : (a b : ℕ) → (a == b) ≡ true → a ≡ b
same_place a b is = at (cases_eq a b)
  where
    at : (a ≡ b) ⊎ (a ≢ b) → a ≡ b
    at (inl same) = same
    at (inr ne) = let off = ne_eqb a b ne in let both : true ≡ false = sym is ∙ off in absurd cc

short_of : (kind : Kind) → IsOfLength kind → length_of kind ≤ 1000
short_of kinds.Int is = lit≤ tt
short_of (kinds.Text most) is = is.1

-- ---- the table

module _ (name : List ℕ) (shape : Shape) (page : ℕ) (named : IsName name) (other : name ≢ catalog_name)
    (new : IsNewShape shape) (names : All (λ (column : Column). IsName column.name) shape.columns)
    (small : page < 2 ^ 32) where
  abbrev rows : List Cells
  rows = rows_at name shape page

  abbrev x : CatalogRows
  x = by_key (rows_at name shape page)

  abbrev first : Cells
  first = table_row (table_at name shape page)

  pub own : HaveOwnKeys (rows_at name shape page)
  own = (no_table_key name name shape.key 0 shape.columns, own_columns name shape.key 0 shape.columns)

  there : (row : Cells) → HasRow (rows_at name shape page) row → by_key (rows_at name shape page) (row_key row) ≡ Some row
  there row has = by_key_at (rows_at name shape page) own row has

  column_there : (at : ℕ) (c : Column) → slice_get shape.columns at ≡ Some c
      → x (column_key name at) ≡ Some (column_row name shape.key at c)
  column_there at c is = there (column_row name shape.key at c)
      (inr (column_in name shape.key 0 shape.columns at at c is (omega arith)))

  -- a row under the key of a column is that column's
  record AtColumn (table : List ℕ) (at : ℕ) (row : Cells) : Type 0 where
    table_same : name ≡ table
    column : Column
    is : slice_get shape.columns at ≡ Some column
    same : column_row name shape.key at column ≡ row

  at_column : (table : List ℕ) (at : ℕ) (row : Cells) → x (column_key table at) ≡ Some row → AtColumn table at row
  at_column table at row found = by (has_row (rows_at name shape page) (column_key table at) row found)
    where
      by : HasRow (rows_at name shape page) row × (row_key row ≡ column_key table at) → AtColumn table at row
      by (inl same, key) =
          let letters : 84 ≡ 67 = ap letter (ap row_key same ∙ key) in absurd (omega (arith, letters))
      by (inr more, key) = record {
        table_same = both.0;
        column = its.column;
        is = ap (slice_get shape.columns) here ∙ its.is;
        same = ap (λ (n : ℕ). column_row name shape.key n its.column) (sym both.1) ∙ its.same;
      }
        where
          its : ItsColumn name shape.key 0 shape.columns row
          its = column_of name shape.key 0 shape.columns row more

          both : (name ≡ table) × (its.n ≡ at)
          both = column_key_equal name table its.n at (ap row_key its.same ∙ key)

          here : at ≡ its.at
          here = let a = both.1 in let b = its.counted in omega (arith, a, b)

  no_index : (n : List ℕ) (row : Cells) → x (index_key n) ≡ Some row → ⊥
  no_index n row found = by (has_row (rows_at name shape page) (index_key n) row found)
    where
      by : HasRow (rows_at name shape page) row × (row_key row ≡ index_key n) → ⊥
      by (inl same, key) = let letters : 84 ≡ 73 = ap letter (ap row_key same ∙ key) in omega (arith, letters)
      by (inr more, key) =
          let its = column_of name shape.key 0 shape.columns row more in
          let letters : 67 ≡ 73 = ap letter (ap row_key its.same ∙ key) in omega (arith, letters)

  no_indexes : AreIndexes x name []
  no_indexes = record { each = tt; whole = λ n row found of. no_index n row found; ascending = tt }

  key_column : (c : Column) × (slice_get shape.columns shape.key ≡ Some c)
  key_column = get_there shape.columns shape.key (key_within shape.columns shape.key new.key)

  key_once : (at : ℕ) → IsKeyColumn x name at → at ≡ shape.key
  key_once at (row, found, three) = same_place at shape.key (flags_key (at == shape.key) its.column.not_null
      (ap said_b its.same ∙ three))
    where
      its : AtColumn name at row
      its = at_column name at row found

  table_lawful : IsTableRow x name (table_row (table_at name shape page))
  table_lawful = record {
    named = named;
    other = other;
    spelled = refl;
    some = let within = key_within shape.columns shape.key new.key in omega (arith, within);
    most = new.most;
    columns = λ at below. let (c, is) = get_there shape.columns at below in
        (column_row name shape.key at c, column_there at c is);
    key = (
      shape.key,
      key_within shape.columns shape.key new.key,
      (
        column_row name shape.key shape.key key_column.0,
        column_there shape.key key_column.0 key_column.1,
        ap (λ (b : Bool). flags_of b key_column.0.not_null) (eq-eqb shape.key shape.key refl),
      ),
      key_once,
    );
    pointer = small;
    root = lit< tt;
    indexes = ([], no_indexes, refl);
  }

  since : (at : ℕ) (c : Column) → slice_get shape.columns at ≡ Some c → c.since ≡ 1
  since at c is = of_all (λ (column : Column). column.since ≡ 1) shape.columns new.first at c is

  column_lawful : (at : ℕ) (c : Column) → slice_get shape.columns at ≡ Some c
      → IsColumnRow x name at (column_row name shape.key at c)
  column_lawful at c is = record {
    of_table = (
      table_row (table_at name shape page),
      there (table_row (table_at name shape page)) (inl refl),
      get_below shape.columns at c is,
    );
    spelled = refl;
    named = of_all (λ (column : Column). IsName column.name) shape.columns names at c is;
    short = short_of c.kind (of_all (λ (column : Column). IsOfLength column.kind) shape.columns new.lengths at c is);
    flags = flags_told (at == shape.key) c.not_null (λ on. key_not_null shape.columns shape.key at c new.key is
        (same_place at shape.key on));
    since = let first_ = since at c is in omega (arith, first_);
    format = subst (λ (n : ℕ). n < 2 ^ 16) (sym (since at c is)) (lit< tt);
    added = inl (since at c is);
    apart = apart;
    later = later;
  }
    where
      apart : (o : ℕ) (column : Cells) → x (column_key name o) ≡ Some column
          → said_name column ≡ said_name (column_row name shape.key at c) → o ≡ at
      apart o column found same = new.apart o at its.column c its.is is (ap said_name its.same ∙ same)
        where
          its : AtColumn name o column
          its = at_column name o column found

      later : (o : ℕ) (column : Cells) → o ≤ at → x (column_key name o) ≡ Some column
          → said_c column ≤ said_c (column_row name shape.key at c)
      later o column before found =
          let a = since at c is in
          let b : said_c column ≡ 1 = ap said_c (sym its.same) ∙ since o its.column its.is in omega (arith, a, b)
        where
          its : AtColumn name o column
          its = at_column name o column found

  lawful : IsCatalog x
  lawful key row found = by (has_row (rows_at name shape page) key row found)
    where
      by : HasRow (rows_at name shape page) row × (row_key row ≡ key) → IsCatalogRow x key row
      by (inl same, at) = inl (
        name,
        sym at ∙ ap row_key (sym same),
        subst (IsTableRow x name) same table_lawful,
      )
      by (inr more, at) = inr (inl (
        name,
        its.at,
        sym at ∙ (ap row_key (sym its.same) ∙ ap (column_key name) here),
        subst (IsColumnRow x name its.at) (ap (λ (n : ℕ). column_row name shape.key n its.column) (sym here)
            ∙ its.same) (column_lawful its.at its.column its.is),
      ))
        where
          its : ItsColumn name shape.key 0 shape.columns row
          its = column_of name shape.key 0 shape.columns row more

          here : its.n ≡ its.at
          here = let same = its.counted in omega (arith, same)

  said : shape_said x name (Some (table_row (table_at name shape page))) ≡ Some shape
  said = ap (λ (n : ℕ). Some (record {
    columns = columns_said x name 0 n;
    key = key_said x name 0 n;
  })) (min-eq_left new.most)
      ∙ (λ i. Some (record {
        columns = columns_there name shape.key x shape.columns 0 (record {
          lengths = new.lengths;
          keyed = λ at column is same. key_not_null shape.columns shape.key at column new.key is (omega (arith, same));
        }) (λ row has. there row (inr has)) i;
        key = key_there name shape.key x shape.columns 0 (omega arith)
            (let within = key_within shape.columns shape.key new.key in omega (arith, within))
            (λ row has. there row (inr has)) i;
      }))

  is_table : IsTable x (table_at name shape page)
  is_table = record {
    row = table_row (table_at name shape page);
    there = there (table_row (table_at name shape page)) (inl refl);
    shape = said;
    pointer = refl;
    others = [];
    are_others = no_indexes;
    indexes = refl;
  }

  whole : (n : List ℕ) (row : Cells) → x (table_key n) ≡ Some row → HasTableOf (table_at name shape page ∷ []) n
  whole n row found = by (has_row (rows_at name shape page) (table_key n) row found)
    where
      by : HasRow (rows_at name shape page) row × (row_key row ≡ table_key n)
          → HasTableOf (table_at name shape page ∷ []) n
      by (inl same, key) = inl (rest_equal 84 84 _ _ (text_equal _ _ (ap row_key same ∙ key)))
      by (inr more, key) =
          let its = column_of name shape.key 0 shape.columns row more in
          let letters : 67 ≡ 84 = ap letter (ap row_key its.same ∙ key) in absurd (omega (arith, letters))

  pub are_tables : AreTables (by_key (rows_at name shape page)) (table_at name shape page ∷ [])
  are_tables = record { lawful = lawful; each = (is_table, tt); whole = whole; ascending = tt }

-- ---- the law

most_there : (columns : List Column) (key : ℕ) → most_of (slice_get columns key) ≡ longest_key columns key
most_there [] key = refl
most_there (c ∷ cs) zero = refl
most_there (c ∷ cs) (suc key) = most_there cs key

-- a new table fits the pages that its shape fits
pub new_table_fits : (size : ℕ) (name : List ℕ) (shape : Shape) (page : ℕ) → FitsPage size shape
    → FitsPages size (table_at name shape page)
new_table_fits size name shape page fits = record {
  rows = fits.rows;
  keys = subst (λ (n : ℕ). n ≤ size / 8) (most_there shape.columns shape.key) fits.keys;
  indexes = tt;
}

-- The rows of a new table are under their own keys, and say it alone.
pub record SayTable (name : List ℕ) (shape : Shape) (page : ℕ) : Type 0 where
  pub keys : HaveOwnKeys (rows_at name shape page)
  pub tables : AreTables (by_key (rows_at name shape page)) (table_at name shape page ∷ [])

abbrev pub RowsSayTable : Type 0
RowsSayTable = (name : List ℕ) (shape : Shape) (page : ℕ) → IsName name → name ≢ catalog_name → IsNewShape shape
    → All (λ (column : Column). IsName column.name) shape.columns → page < 2 ^ 32 → SayTable name shape page

pub rows_say_table : RowsSayTable
rows_say_table name shape page named other new names small = record {
  keys = own name shape page named other new names small;
  tables = are_tables name shape page named other new names small;
}
