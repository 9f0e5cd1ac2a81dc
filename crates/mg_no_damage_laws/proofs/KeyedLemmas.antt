-- The column of the key, by the rows of the catalog, and its value in a row.
use Rattle.std.proofs.Common.{◌≡◌, ◌≢◌, ◌∙◌, ◌⊎◌, inl, inr, ◌<◌, ◌≤◌, ◌+◌, ◌++◌, ◌==◌, ℕ, zero, suc, Bool, true, false, List, [], ◌∷◌, Option, Some, map, take, get_or, refl, sym, ap, subst, arith, cond}
use Rattle.std.proofs.lemmas.Bool.{eq-eqb, le-leb, lt-leb, lt-ltb}
use Rattle.std.specs.List.{prefix_len}
use Rattle.std.specs.Prelude.{None, nat_le}
use Rattle.mg_catalog.specs.LawfulLaws.{column_lawful, table_lawful}
use Rattle.mg_catalog.specs.TableLaws.{some_shape}
use Rattle.mg_image.specs.RecordRules.{allowing_null, columns_for, erased_from}
use Rattle.mg_image.specs.Tables.{Stand}
use Rattle.mg_image_opening_laws.specs.Fits.{LaterAreNull, first_fits, later_null}
use Rattle.mg_image_overlay_laws.specs.tables.TableOwners.{IsOneOf, one_each}
use Rattle.mg_model.specs.Catalog.{CatalogRows, catalog_shape, column_key, columns_said, count_said, is_key_row, key_said, said_b, said_c, says_key, shape_said, with_column}
use Rattle.mg_model.specs.CatalogRules.{IsCatalog, IsKeyColumn, IsTable, IsTableRow}
use Rattle.mg_model.specs.Changes.{Cells}
use Rattle.mg_model.specs.declared.table.Table.{Table}
use Rattle.mg_image_overlay_laws.specs.tables.OneTable.{one_standing}
use Rattle.mg_rowcode.specs.Faults.{DecodesTo}
use Rattle.mg_value.specs.Rows.{RowFits, columns_of}
use Rattle.mg_value.specs.declared.shape.Column.{Column}
use Rattle.mg_value.specs.declared.shape.Shape.{Shape}
use Rattle.mg_value.specs.declared.value.Value.{Value}
use Rattle.mg_value.specs.declared.value.Value.TheVariants.{Null}
use Rattle.mg_no_damage_laws.specs.Keyed.{IsKeyAt, IsKeyed, LaterColumnsAllowNull, RowsAreKeyed, RowsFit, TablesAreKeyed}

-- ---- the value of the key

-- the columns of the first format, where the first one is there
opens : (column : Column) (columns : List Column) → column.since ≤ 1
    → columns_of (column ∷ columns) 1 ≡ column ∷ columns_of columns 1
opens column columns there = rw (le-leb column.since 1 there)
    (ap (λ (n : ℕ). take n (column ∷ columns)) (one (prefix_len (λ (c : Column). nat_le c.since 1) columns)))
  where
    one : (n : ℕ) → 1 + n ≡ suc n
    one n = omega arith

value_there : (columns : List Column) (at : ℕ) (values more : List Value) → IsKeyAt columns at
    → RowFits (columns_of columns 1) values → get_or (values ++ more) at Null ≢ Null
value_there [] at values more keyed fits = absurd keyed
value_there (column ∷ columns) zero values more keyed fits =
    by values (subst (λ (cs : List Column). RowFits cs values) (opens column columns keyed.0) fits)
  where
    by : (vs : List Value) → RowFits (column ∷ columns_of columns 1) vs → get_or (vs ++ more) 0 Null ≢ Null
    by [] fits_ = absurd fits_
    by (v ∷ vs) fits_ = fits_.0.allowed keyed.1
value_there (column ∷ columns) (suc at) values more keyed fits =
    by values (subst (λ (cs : List Column). RowFits cs values) (opens column columns keyed.0) fits)
    (λ vs fits_. value_there columns at vs more keyed.1 fits_)
  where
    by : (vs : List Value) → RowFits (column ∷ columns_of columns 1) vs
        → ((later : List Value) → RowFits (columns_of columns 1) later → get_or (later ++ more) at Null ≢ Null)
        → get_or (vs ++ more) (suc at) Null ≢ Null
    by [] fits_ further = absurd fits_
    by (v ∷ vs) fits_ further = further vs fits_.1

-- a deletion has its key
erased_keyed : (columns : List Column) (key at place : ℕ) → key ≡ place + at → IsKeyAt columns at
    → IsKeyAt (erased_from key place columns) at
erased_keyed [] key at place is keyed = absurd keyed
erased_keyed (column ∷ columns) key zero place is keyed =
    subst (λ (c : Column). (c.since ≤ 1) × (c.not_null ≡ true)) (sym its) keyed
  where
    its : cond (place == key) column (allowing_null column) ≡ column
    its = rw (eq-eqb place key (omega (arith, is))) refl
erased_keyed (column ∷ columns) key (suc at) place is keyed = (
  by (place == key),
  erased_keyed columns key at (place + 1) (omega (arith, is)) keyed.1,
)
  where
    by : (b : Bool) → (cond b column (allowing_null column)).since ≤ 1
    by true = keyed.0
    by false = keyed.0

columns_keyed : (table : Table) (deleted : Bool) → IsKeyed table.shape
    → IsKeyAt (columns_for table deleted) table.shape.key
columns_keyed table false keyed = keyed
columns_keyed table true keyed =
    erased_keyed table.shape.columns table.shape.key table.shape.key 0 (omega arith) keyed

pub rows_are_keyed : RowsAreKeyed
rows_are_keyed table v row keyed first gives =
    let codes = gives.coded in
    let fits : RowFits (columns_of (columns_for table v.deleted) 1) codes.values =
    subst (λ (format : ℕ). RowFits (columns_of (columns_for table v.deleted) format) codes.values) first
    codes.fits in
    subst (λ (values : List Value). get_or values table.shape.key Null ≢ Null) (sym codes.whole)
    (value_there (columns_for table v.deleted) table.shape.key codes.values _
    (columns_keyed table v.deleted keyed) fits)

-- ---- the column of the key

module _ (rows : CatalogRows) (lawful : IsCatalog rows) (name : List ℕ) where
  -- each place has a column's row
  abbrev HasColumns : ℕ → ℕ → Type 0
  HasColumns place count = (at : ℕ) → place ≤ at → at < place + count
      → (row : Cells) × (rows (column_key name at) ≡ Some row)

  -- the row of the key's column
  pub record IsKeyRow (key : ℕ) : Type 0 where
    pub row : Cells
    pub there : rows (column_key name key) ≡ Some row
    pub flags : said_b row ≡ 3
    pub alone : (other : ℕ) → IsKeyColumn rows name other → other ≡ key

  first_format : (key : ℕ) (is : IsKeyRow key) → said_c is.row ≡ 1
  first_format key is = at (column_lawful rows lawful name key is.row is.there).added
    where
      at : (said_c is.row ≡ 1) ⊎ (said_b is.row ≡ 0) → said_c is.row ≡ 1
      at (inl one) = one
      at (inr none) = let flags = is.flags in absurd (omega (arith, flags, none))

  -- no column up to the key's came later
  sooner : (key : ℕ) → IsKeyRow key → (at : ℕ) → at ≤ key → (row : Cells)
      → rows (column_key name at) ≡ Some row → said_c row ≤ 1
  sooner key is at before row there =
      let no_later = (column_lawful rows lawful name key is.row is.there).later at row before there in
      let one = first_format key is in omega (arith, no_later, one)

  -- another column's row does not say the key
  other_row : (key at : ℕ) → IsKeyRow key → at ≢ key → (row : Cells) → rows (column_key name at) ≡ Some row
      → says_key row ≡ false
  other_row key at is ne row there = by (column_lawful rows lawful name at row there).flags
    where
      by : (said_b row ≡ 0) ⊎ ((said_b row ≡ 1) ⊎ (said_b row ≡ 3)) → says_key row ≡ false
      by (inl none) = lt-leb 2 (said_b row) (omega (arith, none))
      by (inr (inl one)) = lt-leb 2 (said_b row) (omega (arith, one))
      by (inr (inr three)) = absurd (ne (is.alone at (row, there, three)))

  keyed_from : (count place distance : ℕ) → distance < count → HasColumns place count
      → IsKeyRow (place + distance) → IsKeyAt (columns_said rows name place count) distance
  keyed_from zero place distance below has is = absurd (omega (arith, below))
  keyed_from (suc count) place zero below has is = by (has place (omega arith) (omega arith))
    where
      here : rows (column_key name place) ≡ Some is.row
      here = subst (λ (k : ℕ). rows (column_key name k) ≡ Some is.row) (omega arith) is.there

      by : (row : Cells) × (rows (column_key name place) ≡ Some row)
          → IsKeyAt (with_column (rows (column_key name place)) (columns_said rows name (place + 1) count)) 0
      by any = subst (λ (o : Option Cells).
          IsKeyAt (with_column o (columns_said rows name (place + 1) count)) 0) (sym here) (
            (let one = first_format (place + 0) is in omega (arith, one)),
            lt-ltb 0 (said_b is.row) (let flags = is.flags in omega (arith, flags)),
          )
  keyed_from (suc count) place (suc distance) below has is = by (has place (omega arith) (omega arith))
      (keyed_from count (place + 1) distance (omega (arith, below))
      (λ at least most. has at (omega (arith, least)) (omega (arith, most)))
      (subst IsKeyRow (further distance) is))
    where
      further : (d : ℕ) → place + suc d ≡ place + 1 + d
      further d = omega arith

      by : (row : Cells) × (rows (column_key name place) ≡ Some row)
          → IsKeyAt (columns_said rows name (place + 1) count) distance
          → IsKeyAt (with_column (rows (column_key name place)) (columns_said rows name (place + 1) count))
          (suc distance)
      by (row, there) more = subst (λ (o : Option Cells).
          IsKeyAt (with_column o (columns_said rows name (place + 1) count)) (suc distance)) (sym there)
          (sooner (place + suc distance) is place (omega arith) row there, more)

  key_from : (count place distance : ℕ) → distance < count → HasColumns place count
      → IsKeyRow (place + distance) → key_said rows name place count ≡ place + distance
  key_from zero place distance below has is = absurd (omega (arith, below))
  key_from (suc count) place zero below has is =
      ap (λ (b : Bool). cond b place (key_said rows name (place + 1) count)) says ∙ omega arith
    where
      says : is_key_row (rows (column_key name place)) ≡ true
      says = ap is_key_row (subst (λ (k : ℕ). rows (column_key name k) ≡ Some is.row) (omega arith) is.there)
          ∙ le-leb 2 (said_b is.row) (let flags = is.flags in omega (arith, flags))
  key_from (suc count) place (suc distance) below has is =
      by (has place (omega arith) (omega arith))
      (key_from count (place + 1) distance (omega (arith, below))
      (λ at least most. has at (omega (arith, least)) (omega (arith, most)))
      (subst IsKeyRow (further distance) is))
    where
      further : (d : ℕ) → place + suc d ≡ place + 1 + d
      further d = omega arith

      by : (row : Cells) × (rows (column_key name place) ≡ Some row)
          → key_said rows name (place + 1) count ≡ place + 1 + distance
          → key_said rows name place (suc count) ≡ place + suc distance
      by (row, there) more = ap (λ (b : Bool). cond b place (key_said rows name (place + 1) count))
          (ap is_key_row there ∙ other_row (place + suc distance) place is (λ same. omega (arith, same)) row there)
          ∙ (more ∙ sym (further distance))

named_keyed : (rows : CatalogRows) (lawful : IsCatalog rows) (table : Table) → IsTable rows table
    → IsKeyed table.shape
named_keyed rows lawful table is = at (table_lawful rows lawful table.name is.row is.there)
  where
    at : IsTableRow rows table.name is.row → IsKeyed table.shape
    at its = by its.key
      where
        all : count_said is.row ≡ said_b is.row
        all = let most = its.most in omega (arith, most)

        there : HasColumns rows lawful table.name 0 (count_said is.row)
        there at least below = its.columns at (omega (arith, below, all))

        by : (place : ℕ) × (place < said_b is.row) × IsKeyColumn rows table.name place
            × ((other : ℕ) → IsKeyColumn rows table.name other → other ≡ place) → IsKeyed table.shape
        by (place, below, (row, there_, flags), alone) =
            subst IsKeyed (some_shape _ table.shape is.shape)
            (subst (IsKeyAt (columns_said rows table.name 0 (count_said is.row))) (sym key)
            (keyed_from rows lawful table.name (count_said is.row) 0 place inside there its_row))
          where
            inside : place < count_said is.row
            inside = omega (arith, below, all)

            nothing : place ≡ 0 + place
            nothing = omega arith

            its_row : IsKeyRow rows lawful table.name (0 + place)
            its_row = subst (IsKeyRow rows lawful table.name) nothing
                (record { row = row; there = there_; flags = flags; alone = alone })

            key : key_said rows table.name 0 (count_said is.row) ≡ place
            key = key_from rows lawful table.name (count_said is.row) 0 place inside there its_row ∙ sym nothing

catalog_keyed : IsKeyed catalog_shape
catalog_keyed = (omega arith, refl)

pub tables_are_keyed : TablesAreKeyed
tables_are_keyed size state pages layout r sound table of = at (one_standing layout table of)
  where
    at : (layout.catalog.table ≡ table) ⊎ IsOneOf (map (λ (s : Stand). s.table) layout.tables) table
        → IsKeyed table.shape
    at (inl same) = subst (λ (t : Table). IsKeyed t.shape) (sym sound.catalog ∙ same) catalog_keyed
    at (inr one) = named_keyed sound.names.all.rows sound.names.all.are_tables.lawful table
        (one_each (IsTable sound.names.all.rows) (map (λ (s : Stand). s.table) layout.tables) table
        sound.names.all.are_tables.each one)

-- ---- columns that came later

named_later : (rows : CatalogRows) (lawful : IsCatalog rows) (table : Table) → IsTable rows table
    → LaterAreNull table.shape.columns
named_later rows lawful table is = subst LaterAreNull
    (columns_same (columns_said rows table.name 0 (count_said is.row)) is.shape)
    (later_null rows lawful table.name 0 (count_said is.row))
  where
    columns_in : Option Shape → List Column
    columns_in None = []
    columns_in (Some shape) = shape.columns

    columns_same : (columns : List Column) → shape_said rows table.name (Some is.row) ≡ Some table.shape
        → columns_said rows table.name 0 (count_said is.row) ≡ table.shape.columns
    columns_same columns same = ap columns_in same

catalog_later : LaterAreNull catalog_shape.columns
catalog_later = (no, (no, (no, (no, (no, (no, tt))))))
  where
    no : {A : Type 0} → true ≡ false → A
    no is = absurd cc

pub later_columns_allow_null : LaterColumnsAllowNull
later_columns_allow_null size state pages layout r sound table of = at (one_standing layout table of)
  where
    at : (layout.catalog.table ≡ table) ⊎ IsOneOf (map (λ (s : Stand). s.table) layout.tables) table
        → LaterAreNull table.shape.columns
    at (inl same) = subst (λ (t : Table). LaterAreNull t.shape.columns) (sym sound.catalog ∙ same) catalog_later
    at (inr one) = named_later sound.names.all.rows sound.names.all.are_tables.lawful table
        (one_each (IsTable sound.names.all.rows) (map (λ (s : Stand). s.table) layout.tables) table
        sound.names.all.are_tables.each one)

pub rows_fit : RowsFit
rows_fit table v row later first alive gives =
    let codes : DecodesTo table.shape.columns v.format v.body row =
    subst (λ (b : Bool). DecodesTo (columns_for table b) v.format v.body row) alive gives.coded in
    let fits : RowFits (columns_of table.shape.columns 1) codes.values =
    subst (λ (format : ℕ). RowFits (columns_of table.shape.columns format) codes.values) first codes.fits in
    subst (RowFits table.shape.columns) (sym codes.whole) (first_fits table.shape.columns codes.values later fits)
