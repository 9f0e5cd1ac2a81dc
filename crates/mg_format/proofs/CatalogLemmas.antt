-- The constants of the catalog's data page are the packed rows.
use Rattle.std.proofs.Common.{lit<, lit≤, ◌≡◌, ◌≢◌, ◌≤◌, ◌+◌, ◌==◌, ◌&&◌, not, ℕ, zero, suc, Bool, true, false, List, [], ◌∷◌, ◌++◌, length, get_or, ℤ, refl, sym, ap, ◌∙◌, arith, add-one}
use Rattle.std.proofs.lemmas.Bool.{and_parts, both_ways, eq-eqb}
use Rattle.mg_base.specs.Fields.{byte}
use Rattle.mg_format.specs.declared.catalog.TheConstants.{KEY_ANCHOR, KEY_VERSION, TABLE_ANCHOR, TABLE_VERSION, VALUE_ANCHOR, VALUE_VERSION}
use Rattle.mg_image.specs.Form.{packed_coding}
use Rattle.mg_image.specs.NewDatabase.{IsCatalogBody, IsNewCatalogPage, first_data_page, key_row, record_cells, table_row, value_row}
use Rattle.mg_version.specs.Cells.{cell_bytes}
use Rattle.mg_value.specs.declared.shape.Column.{Column}
use Rattle.mg_value.specs.declared.value.Value.TheVariants.{Int, Null, Text}
use Rattle.mg_model.specs.Catalog.{catalog_shape}
use Rattle.mg_value.specs.Rows.{FitsColumn, FitsKind, columns_of, row_bytes}
use Rattle.mg_rle.specs.Runs.{IsAccepted, Literal, Repeat, Run, StandsFor, TripleAt, AreInOrder, literal_marks, plain_text}

-- at no byte of a literal three equal bytes begin
abbrev clean : List Bool → List ℕ → Bool
clean (mark ∷ marks) (a ∷ b ∷ c ∷ rest) =
    not (mark && (b == a && c == a)) && clean marks (b ∷ c ∷ rest)
clean marks bytes = true

drop_triple : (a : ℕ) (rest : List ℕ) (at : ℕ) → TripleAt (a ∷ rest) (suc at) → TripleAt rest at
drop_triple a rest at triple = record {
  inside = let inside = triple.inside in omega arith;
  second = shifted at triple.second;
  third = later at triple.third;
}
  where
    shifted : (at : ℕ) → byte (a ∷ rest) (suc at + 1) ≡ byte (a ∷ rest) (suc at)
        → byte rest (at + 1) ≡ byte rest at
    shifted at is = rw (add-one at) (rw (add-one (suc at)) at is)

    later : (at : ℕ) → byte (a ∷ rest) (suc at + 2) ≡ byte (a ∷ rest) (suc at)
        → byte rest (at + 2) ≡ byte rest at
    later at is = sym (ap (byte (a ∷ rest)) (two at)) ∙ is
      where
        two : (at : ℕ) → suc at + 2 ≡ suc (at + 2)
        two at = omega arith

too_short : (bytes : List ℕ) (at : ℕ) → length bytes ≤ 2 → TripleAt bytes at → ⊥
too_short bytes at short triple = let inside = triple.inside in omega arith

no_triples : (marks : List Bool) (bytes : List ℕ) → clean marks bytes ≡ true
    → (at : ℕ) → get_or marks at false ≡ true → TripleAt bytes at → ⊥
no_triples [] bytes is at marked triple = absurd cc
no_triples (mark ∷ marks) [] is at marked triple = too_short [] at (omega arith) triple
no_triples (mark ∷ marks) (a ∷ []) is at marked triple = too_short (a ∷ []) at (omega arith) triple
no_triples (mark ∷ marks) (a ∷ b ∷ []) is at marked triple =
    too_short (a ∷ b ∷ []) at (omega arith) triple
no_triples (mark ∷ marks) (a ∷ b ∷ c ∷ rest) is zero marked triple =
    first mark marked (and_parts (not (mark && (b == a && c == a)))
    (clean marks (b ∷ c ∷ rest)) is).0
  where
    first : (mark : Bool) → mark ≡ true → not (mark && (b == a && c == a)) ≡ true → ⊥
    first true yes_ is = on (b == a) (eq-eqb b a triple.second) (c == a) (eq-eqb c a triple.third) is
      where
        on : (x : Bool) → x ≡ true → (y : Bool) → y ≡ true → not (true && (x && y)) ≡ true → ⊥
        on true p true q is = absurd cc
        on true p false q is = absurd cc
        on false p y q is = absurd cc
    first false yes_ is = absurd cc
no_triples (mark ∷ marks) (a ∷ b ∷ c ∷ rest) is (suc at) marked triple =
    no_triples marks (b ∷ c ∷ rest) (and_parts (not (mark && (b == a && c == a)))
    (clean marks (b ∷ c ∷ rest)) is).1 at marked (drop_triple a (b ∷ c ∷ rest) at triple)

accepted : (runs : List Run) → AreInOrder runs
    → clean (literal_marks runs) (plain_text runs) ≡ true → IsAccepted runs
accepted runs order is = record {
  in_order = order;
  no_triple = no_triples (literal_marks runs) (plain_text runs) is;
}

-- ---- the three rows

differ : (a b : ℕ) → (a == b) ≡ false → a ≢ b
differ a b is same = both_ways (a == b) is (eq-eqb a b same)

runs_of_table : List Run
runs_of_table = Literal (2 ∷ 3 ∷ 0 ∷ 84 ∷ 75 ∷ 86 ∷ []) ∷ Repeat 70 0 ∷ Literal (5 ∷ [])
    ∷ Repeat 7 0 ∷ Literal (2 ∷ []) ∷ Repeat 23 0 ∷ []

order_of_table : AreInOrder runs_of_table
unfolding runs_of_table
order_of_table = (
  (lit< tt, lit≤ tt),
  tt,
  (
    (lit≤ tt, lit≤ tt),
    λ less. differ 5 0 refl,
    (
      (lit< tt, lit≤ tt),
      tt,
      (
        (lit≤ tt, lit≤ tt),
        λ less. differ 2 0 refl,
        ((lit< tt, lit≤ tt), tt, ((lit≤ tt, lit≤ tt), tt, tt)),
      ),
    ),
  ),
)

abbrev pub table_body : List ℕ
table_body = 6 ∷ 2 ∷ 3 ∷ 0 ∷ 84 ∷ 75 ∷ 86 ∷ 186 ∷ 0 ∷ 1 ∷ 5 ∷ 249 ∷ 0 ∷ 1 ∷ 2 ∷ 233 ∷ 0 ∷ []

table_stands : StandsFor table_body (row_bytes (columns_of catalog_shape.columns 1) table_row)
unfolding runs_of_table
table_stands = record {
  runs = runs_of_table;
  accepted = accepted runs_of_table order_of_table refl;
  spelled = refl;
  means = refl;
}

-- a row of a column: nine bytes, zeros, its name, zeros, two numbers
runs_of_column : ℕ → ℕ → ℕ → ℕ → ℕ → ℕ → List Run
runs_of_column digit name blanks first later behind =
    Literal (0 ∷ 6 ∷ 0 ∷ 67 ∷ 75 ∷ 86 ∷ 46 ∷ 48 ∷ digit ∷ []) ∷ Repeat 34 0
    ∷ Literal (1 ∷ 0 ∷ name ∷ []) ∷ Repeat blanks 0 ∷ Literal (first ∷ []) ∷ Repeat 7 0
    ∷ Literal (later ∷ []) ∷ Repeat behind 0 ∷ []

order_of_column : (digit name blanks first later behind : ℕ) → 3 ≤ blanks → blanks ≤ 128
    → 3 ≤ behind → behind ≤ 128 → (first == 0) ≡ false → (later == 0) ≡ false
    → AreInOrder (runs_of_column digit name blanks first later behind)
unfolding runs_of_column
order_of_column digit name blanks first later behind least most few many some other = (
  (lit< tt, lit≤ tt),
  tt,
  (
    (lit≤ tt, lit≤ tt),
    λ less. differ 1 0 refl,
    (
      (lit< tt, lit≤ tt),
      tt,
      (
        (least, most),
        λ less. differ first 0 some,
        (
          (lit< tt, lit≤ tt),
          tt,
          (
            (lit≤ tt, lit≤ tt),
            λ less. differ later 0 other,
            ((lit< tt, lit≤ tt), tt, ((few, many), tt, tt)),
          ),
        ),
      ),
    ),
  ),
)

abbrev pub key_body : List ℕ
key_body = 9 ∷ 0 ∷ 6 ∷ 0 ∷ 67 ∷ 75 ∷ 86 ∷ 46 ∷ 48 ∷ 48 ∷ 222 ∷ 0 ∷ 3 ∷ 1 ∷ 0 ∷ 75 ∷ 218 ∷ 0
    ∷ 1 ∷ 3 ∷ 249 ∷ 0 ∷ 1 ∷ 1 ∷ 241 ∷ 0 ∷ []

key_stands : StandsFor key_body (row_bytes (columns_of catalog_shape.columns 1) key_row)
unfolding runs_of_column
key_stands = record {
  runs = runs_of_column 48 75 38 3 1 15;
  accepted = accepted (runs_of_column 48 75 38 3 1 15) (order_of_column 48 75 38 3 1 15 (lit≤ tt)
      (lit≤ tt) (lit≤ tt) (lit≤ tt) refl refl) refl;
  spelled = refl;
  means = refl;
}

abbrev pub value_body : List ℕ
value_body = 9 ∷ 0 ∷ 6 ∷ 0 ∷ 67 ∷ 75 ∷ 86 ∷ 46 ∷ 48 ∷ 49 ∷ 222 ∷ 0 ∷ 3 ∷ 1 ∷ 0 ∷ 86 ∷ 210 ∷ 0
    ∷ 1 ∷ 1 ∷ 249 ∷ 0 ∷ 1 ∷ 1 ∷ 249 ∷ 0 ∷ []

value_stands : StandsFor value_body (row_bytes (columns_of catalog_shape.columns 1) value_row)
unfolding runs_of_column
value_stands = record {
  runs = runs_of_column 49 86 46 1 1 7;
  accepted = accepted (runs_of_column 49 86 46 1 1 7) (order_of_column 49 86 46 1 1 7 (lit≤ tt)
      (lit≤ tt) (lit≤ tt) (lit≤ tt) refl refl) refl;
  spelled = refl;
  means = refl;
}

-- ---- the rows fit the catalog

text_fits : (column : Column) (text : List ℕ) → FitsKind column.kind (Text text)
    → FitsColumn column (Text text)
text_fits column text fits = record { kind = fits; allowed = λ must is. absurd cc }

null_fits : (column : Column) → column.not_null ≡ false → FitsColumn column Null
null_fits column may = record { kind = tt; allowed = λ must. absurd (both_ways column.not_null may must) }

int_fits : (column : Column) (number : ℤ) → FitsKind column.kind (Int number)
    → FitsColumn column (Int number)
int_fits column number fits = record { kind = fits; allowed = λ must is. absurd cc }

pub table_codes : IsCatalogBody packed_coding table_row table_body
table_codes = record {
  values = table_row;
  fits = (
    text_fits _ _ (lit≤ tt),
    (
      null_fits _ refl,
      (int_fits _ _ tt, (int_fits _ _ tt, (int_fits _ _ tt, (int_fits _ _ tt, tt)))),
    ),
  );
  stands = table_stands;
  whole = refl;
}

pub key_codes : IsCatalogBody packed_coding key_row key_body
key_codes = record {
  values = key_row;
  fits = (
    text_fits _ _ (lit≤ tt),
    (
      text_fits _ _ (lit≤ tt),
      (int_fits _ _ tt, (int_fits _ _ tt, (int_fits _ _ tt, (int_fits _ _ tt, tt)))),
    ),
  );
  stands = key_stands;
  whole = refl;
}

pub value_codes : IsCatalogBody packed_coding value_row value_body
value_codes = record {
  values = value_row;
  fits = (
    text_fits _ _ (lit≤ tt),
    (
      text_fits _ _ (lit≤ tt),
      (int_fits _ _ tt, (int_fits _ _ tt, (int_fits _ _ tt, (int_fits _ _ tt, tt)))),
    ),
  );
  stands = value_stands;
  whole = refl;
}

-- ---- the cells

pub cells_are : TABLE_ANCHOR ∷ TABLE_VERSION ∷ KEY_ANCHOR ∷ KEY_VERSION ∷ VALUE_ANCHOR
    ∷ VALUE_VERSION ∷ []
    ≡ record_cells 0 table_body ++ record_cells 2 key_body ++ record_cells 4 value_body
unfolding cell_bytes
cells_are = refl

-- the page that is made
pub catalog_made : (size : ℕ) (page : List ℕ) (cells : List (List ℕ))
    → cells ≡ record_cells 0 table_body ++ record_cells 2 key_body ++ record_cells 4 value_body
    → page ≡ first_data_page size 4 3 cells → IsNewCatalogPage packed_coding size page
catalog_made size page cells are is = record {
  table = table_body;
  key = key_body;
  value = value_body;
  codes_table = table_codes;
  codes_key = key_codes;
  codes_value = value_codes;
  bytes = is ∙ ap (first_data_page size 4 3) are;
}
