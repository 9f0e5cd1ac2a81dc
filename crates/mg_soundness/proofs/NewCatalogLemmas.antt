-- The bodies of the rows of a new database's catalog.
use Rattle.std.proofs.Common.{◌≡◌, refl, sym, ap, ◌∙◌, subst, ◌≤◌, ◌+◌, ◌*◌, ◌-◌, arith, lit≤, ℕ, Bool, true, false, List, [], ◌∷◌, ◌++◌, length, append-nil, length-append, Result, Ok, Err}
use Rattle.std.specs.Prelude.{IfOk, IsTrue, None, ◌↔◌, replicate}
use Rattle.std.specs.List.{sum_by}
use Rattle.std.proofs.lemmas.List.{length-replicate}
use Rattle.mg_base.specs.Fields.{length-new_page, new_page}
use Rattle.mg_rle.specs.Runs.{AreInOrder, Literal, Repeat, Run, StandsFor, packed_text, plain_text}
use Rattle.mg_rle.specs.Writing.{AppendsPacked}
use Rattle.mg_rowcode.specs.Faults.{DecodesTo}
use Rattle.mg_value.specs.Rows.{FitsColumn, RowFits, row_bytes}
use Rattle.mg_value.specs.declared.shape.Column.{Column}
use Rattle.mg_value.specs.declared.shape.Shape.{Shape}
use Rattle.mg_slots.specs.declared.page.TheConstants.{SLOTS_AT, SLOT_LEN}
use Rattle.mg_version.specs.Cells.{cell_bytes}
use Rattle.mg_version.specs.declared.cell.Cell.TheVariants as cells
use Rattle.mg_value.specs.declared.shape.Kind.TheVariants as kinds
use Rattle.mg_value.specs.declared.value.Value.{Value}
use Rattle.mg_value.specs.declared.value.Value.TheVariants.{Null, Text}
use Rattle.mg_model.specs.Catalog.{catalog_column, catalog_shape}
use Rattle.mg_image.specs.Form.{IsPlainRow, Row}
use Rattle.mg_image.specs.NewDatabase.{IsNewCatalogPage, IsNewPage, first_data_page, key_row, record_cells, table_row, value_row, with_cells}
use Rattle.mg_reading.specs.declared.rows.RowCoding.{RowCoding}
use Rattle.mg_reading.specs.declared.rows.RowCoding.TheVariants.{Plain, Packed}
use Rattle.mg_reading.specs.Codings.{coding_of}
use Rattle.mg_soundness.specs.NewCatalog.{AreCatalogCells, IsOnlyBody, IsOnlyCatalogPage}

-- ---- a row of the catalog has a value for each column

length_fits : (columns : List Column) (row : List Value) → RowFits columns row
    → length row ≡ length columns
length_fits [] [] fits = refl
length_fits [] (v ∷ vs) fits = absurd fits
length_fits (c ∷ cs) [] fits = absurd fits
length_fits (c ∷ cs) (v ∷ vs) fits =
    let rest = length_fits cs vs fits.1 in omega (arith, rest)

no_more : (row : Row) (count : ℕ) → count ≡ 0 → row ≡ row ++ replicate count Null
no_more row count none = rw (none, append-nil) refl

whole_row : (row : Row) → RowFits catalog_shape.columns row
    → row ≡ row ++ replicate (length catalog_shape.columns - length row) Null
whole_row row fits =
    let len : length row ≡ 6 = length_fits catalog_shape.columns row fits in
    no_more row (length catalog_shape.columns - length row) (omega (arith, len))

-- ---- packed bodies

runs_short : (runs : List Run) → AreInOrder runs
    → length (packed_text runs) ≤ 2 * length (plain_text runs)
runs_short [] order = omega arith
runs_short (Literal bytes ∷ later) order =
    let rest = runs_short later order.2 in let some = order.0.0 in
    omega (
      arith,
      length-append bytes (packed_text later),
      length-append bytes (plain_text later),
      rest,
      some,
    )
runs_short (Repeat count byte ∷ later) order =
    let rest = runs_short later order.2 in let least = order.0.0 in
    let plain : length (replicate count byte) ≡ count = length-replicate {A = ℕ} count byte in
    omega (arith, length-append (replicate count byte) (plain_text later), rest, least, plain)

short_packed : (packed plain : List ℕ) → StandsFor packed plain
    → length packed ≤ 2 * length plain
short_packed packed plain is =
    let short = runs_short is.runs is.accepted.in_order in
    let packed_is = ap (λ (x : List ℕ). length x) is.spelled in
    let plain_is = ap (λ (x : List ℕ). length x) is.means in omega (arith, short, packed_is, plain_is)

-- a text has one packed text, and a packed text one plain one
abbrev OnePacked : Type 0
OnePacked = (plain first second : List ℕ) → StandsFor first plain → StandsFor second plain
    → first ≡ second

abbrev OnePlain : Type 0
OnePlain = (packed first second : List ℕ) → StandsFor packed first → StandsFor packed second
    → first ≡ second

-- the packed text of a row is a text of its own
pub stands_packed : (row : Row) (new : List ℕ)
    → AppendsPacked [] new (row_bytes catalog_shape.columns row)
    → StandsFor new (row_bytes catalog_shape.columns row)
stands_packed row new is =
    subst (λ (p : List ℕ). StandsFor p (row_bytes catalog_shape.columns row)) (sym is.appended)
    is.stands

pub packed_len : (row : Row) (new : List ℕ)
    → length (row_bytes catalog_shape.columns row) ≤ 108
    → StandsFor new (row_bytes catalog_shape.columns row) → length new ≤ 216
packed_len row new len is =
    let short = short_packed new (row_bytes catalog_shape.columns row) is in
    omega (arith, short, len)

pub only_packed : OnePacked → (row : Row) (new : List ℕ) → RowFits catalog_shape.columns row
    → length (row_bytes catalog_shape.columns row) ≤ 108
    → StandsFor new (row_bytes catalog_shape.columns row) → IsOnlyBody Packed row new
only_packed one row new fits len stands = record {
  codes = record { values = row; fits = fits; stands = stands; whole = whole_row row fits };
  only = λ other is. only other is;
  short = packed_len row new len stands;
}
  where
    only : (other : List ℕ) → DecodesTo catalog_shape.columns 1 other row → other ≡ new
    only other is =
        let same : row ≡ is.values = is.whole ∙ sym (whole_row is.values is.fits) in
        one (row_bytes catalog_shape.columns row) other new
        (subst (λ (r : Row). StandsFor other (row_bytes catalog_shape.columns r)) (sym same)
        is.stands) stands

-- ---- plain bodies

pub only_plain : OnePlain → (row : Row) (packed plain : List ℕ)
    → RowFits catalog_shape.columns row → length (row_bytes catalog_shape.columns row) ≤ 108
    → StandsFor packed (row_bytes catalog_shape.columns row) → StandsFor packed plain
    → IsOnlyBody Plain row plain
only_plain one row packed plain fits len stands also = record {
  codes = record { values = row; fits = fits; spelled = same; whole = whole_row row fits };
  only = λ other is. only other is;
  short = let long = ap (λ (x : List ℕ). length x) same in omega (arith, long, len);
}
  where
    same : plain ≡ row_bytes catalog_shape.columns row
    same = one packed plain (row_bytes catalog_shape.columns row) also stands

    only : (other : List ℕ) → IsPlainRow catalog_shape.columns 1 other row → other ≡ plain
    only other is =
        let whole : row ≡ is.values = is.whole ∙ sym (whole_row is.values is.fits) in
        is.spelled ∙ (ap (row_bytes catalog_shape.columns) (sym whole) ∙ sym same)

pub plain_bodies : {A E : Type 0} (items : A → List ℕ) → OnePlain → (row : Row)
    (packed : List ℕ) → RowFits catalog_shape.columns row
    → length (row_bytes catalog_shape.columns row) ≤ 108
    → StandsFor packed (row_bytes catalog_shape.columns row) → (r : Result A E)
    → IfOk r (λ plain. StandsFor packed (items plain))
    → IfOk r (λ body. IsOnlyBody Plain row (items body))
plain_bodies items one row packed fits len stands (Ok plain) is =
    only_plain one row packed (items plain) fits len stands is
plain_bodies items one row packed fits len stands (Err e) is = tt

-- what was packed of a row under the catalog's shape
pub stands_of : (shape : Shape) (row : Row) (old new : List ℕ) → shape ≡ catalog_shape → old ≡ []
    → AppendsPacked old new (row_bytes shape.columns row)
    → StandsFor new (row_bytes catalog_shape.columns row)
stands_of shape row old new is none packed = stands_packed row new
    (subst (λ (xs : List ℕ). AppendsPacked xs new (row_bytes catalog_shape.columns row)) none
    (subst (λ (s : Shape). AppendsPacked old new (row_bytes s.columns row)) is packed))

-- ---- the three rows fit the catalog

text_fits : (name text : List ℕ) (most : ℕ) (not_null : Bool) → length text ≤ most
    → FitsColumn (catalog_column name (kinds.Text most) not_null) (Text text)
text_fits name text most not_null short =
    record { kind = short; allowed = λ is none. let no : Text text ≡ Null = none in cc }

pub table_fits : RowFits catalog_shape.columns table_row
table_fits = (
  text_fits _ _ 40 true (lit≤ tt),
  (
    record { kind = tt; allowed = λ is. absurd cc },
    (
      record { kind = tt; allowed = λ is. absurd cc },
      (
        record { kind = tt; allowed = λ is. absurd cc },
        (record { kind = tt; allowed = λ is. absurd cc }, (record { kind = tt; allowed = λ is. absurd cc }, tt)),
      ),
    ),
  ),
)

pub key_fits : RowFits catalog_shape.columns key_row
key_fits = (
  text_fits _ _ 40 true (lit≤ tt),
  (
    text_fits _ _ 31 false (lit≤ tt),
    (
      record { kind = tt; allowed = λ is. absurd cc },
      (
        record { kind = tt; allowed = λ is. absurd cc },
        (record { kind = tt; allowed = λ is. absurd cc }, (record { kind = tt; allowed = λ is. absurd cc }, tt)),
      ),
    ),
  ),
)

pub value_fits : RowFits catalog_shape.columns value_row
value_fits = (
  text_fits _ _ 40 true (lit≤ tt),
  (
    text_fits _ _ 31 false (lit≤ tt),
    (
      record { kind = tt; allowed = λ is. absurd cc },
      (
        record { kind = tt; allowed = λ is. absurd cc },
        (record { kind = tt; allowed = λ is. absurd cc }, (record { kind = tt; allowed = λ is. absurd cc }, tt)),
      ),
    ),
  ),
)

pub table_len : length (row_bytes catalog_shape.columns table_row) ≤ 108
table_len = lit≤ tt

pub key_len : length (row_bytes catalog_shape.columns key_row) ≤ 108
key_len = lit≤ tt

pub value_len : length (row_bytes catalog_shape.columns value_row) ≤ 108
value_len = lit≤ tt

-- ---- the cells, and the page

anchor_len : (slot : ℕ) → length (cell_bytes (cells.Anchor (record {
  rec = record { page = record { 0 = 4 }; slot = slot };
  tx = record { 0 = 0 };
}))) ≡ 11
unfolding cell_bytes
anchor_len slot = refl

version_len : (body : List ℕ) → length (cell_bytes (cells.Version (record {
  primary = false;
  deleted = false;
  format = 1;
  tx = record { 0 = 0 };
  back = None;
  body = body;
}))) ≡ 8 + length body
unfolding cell_bytes
version_len body = omega arith

-- the cells have room on a page of the least size
pub cells_fit : (coding : RowCoding) (cells : List (List ℕ)) → AreCatalogCells coding cells
    → SLOTS_AT + SLOT_LEN * length cells + sum_by (λ cell. length cell) cells ≤ 1024
cells_fit coding cells are =
    let table = are.of_table.short in let key = are.of_key.short in
    let value = are.of_value.short in
    rw are.cells_are (omega (
      arith,
      anchor_len 1,
      anchor_len 3,
      anchor_len 5,
      version_len are.table,
      version_len are.key,
      version_len are.value,
      table,
      key,
      value,
    ))

-- and the page with these cells is the only one
pub only_page : (coding : RowCoding) (size : ℕ) (cells : List (List ℕ)) (page : List ℕ)
    → AreCatalogCells coding cells → page ≡ first_data_page size 4 3 cells
    → IsOnlyCatalogPage coding size page
only_page coding size cells page are is other = (to, back)
  where
    page_is : page ≡ first_data_page size 4 3
        (record_cells 0 are.table ++ record_cells 2 are.key ++ record_cells 4 are.value)
    page_is = is ∙ ap (first_data_page size 4 3) are.cells_are

    to : IsNewCatalogPage (coding_of coding) size other → other ≡ page
    to new = new.bytes ∙ (same ∙ sym page_is)
      where
        same : first_data_page size 4 3
            (record_cells 0 new.table ++ record_cells 2 new.key ++ record_cells 4 new.value)
            ≡ first_data_page size 4 3
            (record_cells 0 are.table ++ record_cells 2 are.key ++ record_cells 4 are.value)
        same = rw (
          are.of_table.only new.table new.codes_table,
          are.of_key.only new.key new.codes_key,
          are.of_value.only new.value new.codes_value,
        ) refl

    back : other ≡ page → IsNewCatalogPage (coding_of coding) size other
    back same = record {
      table = are.table;
      key = are.key;
      value = are.value;
      codes_table = are.of_table.codes;
      codes_key = are.of_key.codes;
      codes_value = are.of_value.codes;
      bytes = same ∙ page_is;
    }

pub page_fits : (coding : RowCoding) (cells found : List (List ℕ)) (len : ℕ)
    → AreCatalogCells coding cells → found ≡ cells → 1024 ≤ len
    → SLOTS_AT + SLOT_LEN * length found + sum_by (λ cell. length cell) found ≤ len
page_fits coding cells found len are is least =
    let fits = cells_fit coding cells are in rw is (omega (arith, fits, least))

-- a page that is told from that of a new database
pub same_new_page : (coding : RowCoding) (size len n : ℕ) (page made : List ℕ) (b : Bool)
    → len ≡ size
    → ((c : RowCoding) (p : List ℕ) → IsNewPage (coding_of c) len n p ↔ (p ≡ made))
    → (IsTrue b ↔ (page ≡ made)) → IsTrue b ↔ IsNewPage (coding_of coding) size n page
same_new_page coding size len n page made b is new test =
    subst (λ (k : ℕ). IsTrue b ↔ IsNewPage (coding_of coding) k n page) is both
  where
    both : IsTrue b ↔ IsNewPage (coding_of coding) len n page
    both = (λ t. (new coding page).1 (test.0 t), λ p. test.1 ((new coding page).0 p))

-- the page that was made
pub page_made : (len : ℕ) (mid made : List ℕ) (found cells : List (List ℕ))
    → made ≡ with_cells mid 0 (length mid) found → mid ≡ new_page len 4 5 3 0 → found ≡ cells
    → made ≡ first_data_page len 4 3 cells
page_made len mid made found cells is mid_is found_is =
    is ∙ (ap (λ (xs : List (List ℕ)). with_cells mid 0 (length mid) xs) found_is
    ∙ (ap (λ (m : List ℕ). with_cells m 0 (length m) cells) mid_is
    ∙ ap (λ (n : ℕ). with_cells (new_page len 4 5 3 0) 0 n cells) (length-new_page len 4 5 3 0)))
