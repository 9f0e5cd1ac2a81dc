-- The rows of a sound image fit the columns of their tables.
use Rattle.std.proofs.Common.{◌≡◌, ◌≢◌, ◌⊎◌, inl, inr, ap, sym, subst, ◌∙◌, refl, arith, ◌+◌, ◌-◌, ◌≤◌, ℕ, zero, suc, Bool, true, false, List, [], ◌∷◌, ◌++◌, Option, None, Some, length}
use Rattle.std.proofs.lemmas.Bool.{false≢true}
use Rattle.std.specs.Str.{bytes_eq}
use Rattle.std.specs.Cmp.Lexicographic.{same_text}
use Rattle.std.specs.Prelude.{◌==◌, if◌then◌else◌, map, nat_le, nat_lt, pos, replicate, take}
use Rattle.std.specs.List.{prefix_len}
use Rattle.mg_base.specs.Fields.{byte}
use Rattle.mg_base.specs.declared.numbers.RecId.{RecId}
use Rattle.mg_base.specs.declared.transaction.TxState.{TxState}
use Rattle.mg_value.specs.Values.{bytes_of}
use Rattle.mg_image.specs.Catalog.{catalog_table}
use Rattle.mg_image.specs.Inventory.{header_of}
use Rattle.mg_value.specs.declared.shape.Column.{Column}
use Rattle.mg_value.specs.declared.shape.Shape.{Shape}
use Rattle.mg_value.specs.declared.value.Value.{Value}
use Rattle.mg_value.specs.declared.value.Value.TheVariants.{Int, Null}
use Rattle.mg_value.specs.Rows.{RowFits, columns_of}
use Rattle.mg_catalog.specs.LawfulLaws.{column_lawful}
use Rattle.mg_model.specs.Catalog.{CatalogRows, catalog_name, catalog_shape, column_key, column_said, columns_said, count_said, said_b, said_c, shape_said, told_cells, with_column}
use Rattle.mg_model.specs.CatalogRules.{IsCatalog, IsColumnRow, IsTable}
use Rattle.mg_model.specs.Changes.{Cells}
use Rattle.mg_model.specs.declared.table.Table.{Table}
use Rattle.mg_image.specs.declared.entry.Entry.{Entry}
use Rattle.mg_image.specs.Form.{Coding, Form, Pages, Row}
use Rattle.mg_image.specs.Held.{told_row}
use Rattle.mg_image.specs.RecordRules.{Each, Facts, IsVersion, columns_for, table_in}
use Rattle.mg_image.specs.Records.{Reading, record_key, shown, writer}
use Rattle.mg_image.specs.Sound.{IsSoundBy, facts_by}
use Rattle.mg_image.specs.Tables.{Layout, stands_of}
use Rattle.mg_image_overlay_laws.specs.tables.TableOwners.{IsOneOf, has_stand, named_other, one_each}

-- ---- columns that came later may be NULL

-- each of these columns may be NULL
abbrev pub EachNull : List Column → Type 0
EachNull [] = Unit {0}
EachNull (c ∷ cs) = (c.not_null ≡ false) × EachNull cs

-- so may each from the first one on that came later than its table
abbrev pub LaterAreNull : List Column → Type 0
LaterAreNull [] = Unit {0}
LaterAreNull (c ∷ cs) = (nat_le c.since 1 ≡ false → EachNull (c ∷ cs)) × LaterAreNull cs

module _ (rows : CatalogRows) (lawful : IsCatalog rows) (table : List ℕ) where
  -- A column at a place or before it came later.
  record CameLater (place : ℕ) : Type 0 where
    other : ℕ
    row : Cells
    before : other ≤ place
    there : rows (column_key table other) ≡ Some row
    later : nat_le (said_c row) 1 ≡ false

  above : (n : ℕ) → nat_le n 1 ≡ false → 2 ≤ n
  above zero is = absurd cc
  above (suc zero) is = absurd cc
  above (suc (suc n)) is = omega arith

  null_there : (place : ℕ) (row : Cells) → CameLater place → rows (column_key table place) ≡ Some row
      → (column_said row).not_null ≡ false
  null_there place row came there = by it.added
    where
      it : IsColumnRow rows table place row
      it = column_lawful rows lawful table place row there

      more : 2 ≤ said_c row
      more =
          let least : 2 ≤ said_c came.row = above (said_c came.row) came.later in
          let after : said_c came.row ≤ said_c row = it.later came.other came.row came.before came.there in
          omega (arith, least, after)

      by : (said_c row ≡ 1) ⊎ (said_b row ≡ 0) → (column_said row).not_null ≡ false
      by (inl first) = absurd (omega (arith, more, first))
      by (inr none) = ap (nat_lt 0) none

  on : (place : ℕ) → CameLater place → CameLater (place + 1)
  on place came = record {
    other = came.other;
    row = came.row;
    before = let less = came.before in omega (arith, less);
    there = came.there;
    later = came.later;
  }

  nulls_from : (place count : ℕ) → CameLater place → EachNull (columns_said rows table place count)
  nulls_from place zero came = tt
  nulls_from place (suc count) came =
      at (rows (column_key table place)) refl (nulls_from (place + 1) count (on place came))
    where
      at : (row : Option Cells) → rows (column_key table place) ≡ row
          → EachNull (columns_said rows table (place + 1) count)
          → EachNull (with_column row (columns_said rows table (place + 1) count))
      at None none more = more
      at (Some row) there more = (null_there place row came there, more)

  pub later_null : (place count : ℕ) → LaterAreNull (columns_said rows table place count)
  later_null place zero = tt
  later_null place (suc count) = at (rows (column_key table place)) refl (later_null (place + 1) count)
    where
      at : (row : Option Cells) → rows (column_key table place) ≡ row
          → LaterAreNull (columns_said rows table (place + 1) count)
          → LaterAreNull (with_column row (columns_said rows table (place + 1) count))
      at None none more = more
      at (Some row) there more = (λ late. nulls late, more)
        where
          nulls : nat_le (said_c row) 1 ≡ false
              → EachNull (column_said row ∷ columns_said rows table (place + 1) count)
          nulls late =
              let came : CameLater place = record {
                other = place;
                row = row;
                before = omega arith;
                there = there;
                later = late;
              } in (null_there place row came there, nulls_from (place + 1) count (on place came))

-- ---- rows of the first format

null_fits : (columns : List Column) → EachNull columns → RowFits columns (replicate (length columns) Null)
null_fits [] each = tt
null_fits (c ∷ cs) each = (
  record {
    kind = tt;
    allowed = λ not_. absurd (false≢true (sym each.0 ∙ not_));
  },
  null_fits cs each.1,
)

first_split : (c : Column) (cs : List Column) (b : Bool) → nat_le c.since 1 ≡ b
    → columns_of (c ∷ cs) 1 ≡ (if b then c ∷ columns_of cs 1 else [])
first_split c cs true is =
    let n : ℕ = prefix_len (λ column. nat_le column.since 1) cs in
    let one : 1 + n ≡ suc n = omega arith in
    rw is (ap (λ (k : ℕ). take k (c ∷ cs)) one)
first_split c cs false is = rw is refl

-- a row of the first format, with NULL in the later columns, fits all
pub first_fits : (columns : List Column) (values : List Value) → LaterAreNull columns
    → RowFits (columns_of columns 1) values
    → RowFits columns (values ++ replicate (length columns - length values) Null)
first_fits [] [] later fits = tt
first_fits [] (v ∷ vs) later fits = absurd fits
first_fits (c ∷ cs) [] later fits =
    let count : suc (length cs) ≡ suc (length cs) - 0 = omega arith in
    subst (λ (n : ℕ). RowFits (c ∷ cs) (replicate n Null)) count (at (nat_le c.since 1) refl
    (subst (λ (x : List Column). RowFits x []) (first_split c cs (nat_le c.since 1) refl) fits))
  where
    at : (b : Bool) → nat_le c.since 1 ≡ b → RowFits (if b then c ∷ columns_of cs 1 else []) []
        → RowFits (c ∷ cs) (replicate (length (c ∷ cs)) Null)
    at true first fits_ = absurd fits_
    at false late fits_ = null_fits (c ∷ cs) (later.0 late)
first_fits (c ∷ cs) (v ∷ vs) later fits =
    let count : length cs - length vs ≡ suc (length cs) - suc (length vs) = omega arith in
    subst (λ (n : ℕ). RowFits (c ∷ cs) (v ∷ vs ++ replicate n Null)) count (at (nat_le c.since 1)
    (subst (λ (x : List Column). RowFits x (v ∷ vs)) (first_split c cs (nat_le c.since 1) refl) fits)
    (λ more. first_fits cs vs later.1 more))
  where
    at : (b : Bool) → RowFits (if b then c ∷ columns_of cs 1 else []) (v ∷ vs)
        → (RowFits (columns_of cs 1) vs
        → RowFits cs (vs ++ replicate (length cs - length vs) Null))
        → RowFits (c ∷ cs) (v ∷ vs ++ replicate (length cs - length vs) Null)
    at true fits_ more = (fits_.0, more fits_.1)
    at false fits_ more = absurd fits_

-- what a coding says of rows
abbrev pub SpellsFitting : Coding → Type 0
SpellsFitting coding = (columns : List Column) (format : ℕ) (body : List ℕ) (row : Row)
    → LaterAreNull columns → coding.format columns format → coding.row_spelled columns format body row
    → RowFits columns row

-- ---- rows of the catalog as they are told

told_fits : (row : Row) → RowFits catalog_shape.columns row
    → RowFits catalog_shape.columns (told_cells row)
told_fits [] fits = absurd fits
told_fits (k ∷ []) fits = absurd fits.1
told_fits (k ∷ n ∷ []) fits = absurd fits.1.1
told_fits (k ∷ n ∷ a ∷ []) fits = absurd fits.1.1.1
told_fits (k ∷ n ∷ a ∷ b ∷ []) fits = absurd fits.1.1.1.1
told_fits (k ∷ n ∷ a ∷ b ∷ c ∷ []) fits = absurd fits.1.1.1.1.1
told_fits (k ∷ n ∷ a ∷ b ∷ c ∷ d ∷ e ∷ more) fits = absurd fits.1.1.1.1.1.1
told_fits (k ∷ n ∷ a ∷ b ∷ c ∷ d ∷ []) fits = by (letter == 84) (letter == 73)
  where
    letter : ℕ
    letter = byte (bytes_of k) 0

    zero_ : Value
    zero_ = Int (pos 0)

    by : (x y : Bool) → RowFits catalog_shape.columns
        (if x then k ∷ n ∷ zero_ ∷ b ∷ zero_ ∷ d ∷ [] else (if y then k ∷ n ∷ zero_ ∷ b ∷ c ∷ d ∷ []
        else k ∷ n ∷ a ∷ b ∷ c ∷ d ∷ []))
    by true y = (
      fits.0,
      (
        fits.1.0,
        (
          record { kind = tt; allowed = λ is none. absurd cc },
          (
            fits.1.1.1.0,
            (record { kind = tt; allowed = λ is none. absurd cc }, fits.1.1.1.1.1),
          ),
        ),
      ),
    )
    by false true = (
      fits.0,
      (fits.1.0, (record { kind = tt; allowed = λ is none. absurd cc }, fits.1.1.1)),
    )
    by false false = fits

-- ---- of versions

-- A version shows this row.
record ShownBy (coding : Coding) (f : Facts) (table : Table) (key : Value) (row : Row) : Type 0 where
  e : Entry
  is : IsVersion coding f table key e
  alive : e.version.deleted ≡ false
  its : e.row ≡ row

shown_by : (coding : Coding) (f : Facts) (table : Table) (key : Value) (committed : ℕ → Bool)
    (es : List Entry) (row : Row) → Each (IsVersion coding f table key) es
    → shown committed es ≡ Some row → ShownBy coding f table key row
shown_by coding f table key committed [] row each is = absurd cc
shown_by coding f table key committed (e ∷ es) row each is =
    at (committed (writer e)) e.version.deleted refl is (shown_by coding f table key committed es row each.1)
  where
    at : (c d : Bool) → e.version.deleted ≡ d
        → (if c then (if d then None else Some e.row) else shown committed es) ≡ Some row
        → (shown committed es ≡ Some row → ShownBy coding f table key row)
        → ShownBy coding f table key row
    at true true deleted is_ more = absurd cc
    at true false alive is_ more = record {
      e = e;
      is = each.0;
      alive = alive;
      its = let it : e.row ≡ row = cc in it;
    }
    at false d deleted is_ more = more is_

module _ (form : Form) (fitting : SpellsFitting form.coding) (size : ℕ) (state : ℕ → TxState)
    (pages : Pages) (layout : Layout) (r : Reading)
    (sound : IsSoundBy form size state pages layout r) where
  abbrev f : Facts
  f = facts_by state pages layout

  abbrev tables : List Table
  tables = map (λ stand. stand.table) layout.tables

  columns_later : (p : RecId) (table : Table) → table_in f p ≡ Some table
      → LaterAreNull table.shape.columns
  columns_later p table of = at (has_stand (stands_of layout) p.page.0 table of)
    where
      at : (layout.catalog.table ≡ table) ⊎ IsOneOf tables table → LaterAreNull table.shape.columns
      at (inl is) = subst (λ (t : Table). LaterAreNull t.shape.columns) (sym sound.catalog ∙ is)
          (no, (no, (no, (no, (no, (no, tt))))))
        where
          no : {A : Type 0} → true ≡ false → A
          no is_ = absurd cc
      at (inr one) =
          let it : IsTable sound.names.all.rows table =
          one_each (IsTable sound.names.all.rows) tables table sound.names.all.are_tables.each one in
          by it
        where
          by : IsTable sound.names.all.rows table → LaterAreNull table.shape.columns
          by it = subst LaterAreNull (said (columns_said sound.names.all.rows table.name 0 (count_said it.row))
              it.shape)
              (later_null sound.names.all.rows sound.names.all.are_tables.lawful table.name 0
              (count_said it.row))
            where
              shape_of : Option Shape → List Column
              shape_of None = []
              shape_of (Some s) = s.columns

              said : (cs : List Column) → shape_said sound.names.all.rows table.name (Some it.row)
                  ≡ Some table.shape
                  → columns_said sound.names.all.rows table.name 0 (count_said it.row)
                  ≡ table.shape.columns
              said cs is = ap shape_of is

  told_so : (p : RecId) (table : Table) (row : Row) → table_in f p ≡ Some table
      → RowFits table.shape.columns row → RowFits table.shape.columns (told_row table row)
  told_so p table row of fits = at (has_stand (stands_of layout) p.page.0 table of)
    where
      not_catalog : table.name ≢ catalog_name → bytes_eq table.name catalog_name ≡ false
      not_catalog other = by (bytes_eq table.name catalog_name) refl
        where
          by : (b : Bool) → bytes_eq table.name catalog_name ≡ b
              → bytes_eq table.name catalog_name ≡ false
          by true is = absurd (other (same_text table.name catalog_name (sym is)))
          by false is = is

      at : (layout.catalog.table ≡ table) ⊎ IsOneOf tables table
          → RowFits table.shape.columns (told_row table row)
      at (inl is) =
          let same : catalog_table (header_of pages).catalog.0 ≡ table = sym sound.catalog ∙ is in
          subst (λ (t : Table). RowFits t.shape.columns (told_row t row)) same
          (told_fits row (subst (λ (t : Table). RowFits t.shape.columns row) (sym same) fits))
      at (inr one) = rw (not_catalog (named_other form size state pages layout r sound table one)) fits

  -- a version that is no deletion has a row that fits its table
  pub version_fits : (p : RecId) (table : Table) (key : Value) (e : Entry) → table_in f p ≡ Some table
      → IsVersion form.coding f table key e → e.version.deleted ≡ false
      → RowFits table.shape.columns (told_row table e.row)
  version_fits p table key e of is alive = told_so p table e.row of
      (fitting table.shape.columns e.version.format e.version.body e.row (columns_later p table of) is.format
      (subst (λ (b : Bool). form.coding.row_spelled (columns_for table b) e.version.format e.version.body
      e.row) alive is.spelled))

  -- and so has what a record shows
  pub shown_fits : (p : RecId) (table : Table) (committed : ℕ → Bool) (row : Row)
      → table_in f p ≡ Some table → shown committed (r p) ≡ Some row
      → RowFits table.shape.columns (told_row table row)
  shown_fits p table committed row of is =
      let it = shown_by form.coding f table (record_key table (r p)) committed (r p) row
      (sound.records.each p table of).each is in
      subst (λ (x : Row). RowFits table.shape.columns (told_row table x)) it.its
      (version_fits p table (record_key table (r p)) it.e of it.is it.alive)
