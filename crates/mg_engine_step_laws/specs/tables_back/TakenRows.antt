-- Rows of a catalog without those of whole tables: they are lawful, and name the tables that are left.
use Rattle.std.proofs.Common.{◌≡◌, inl, inr, ap, sym, ◌∙◌, refl, ◌+◌, ◌<◌, ℕ, zero, suc, Bool, true, false, List, [], ◌∷◌, Option, None, Some}
use Rattle.std.specs.Prelude.{if◌then◌else◌}
use Rattle.mg_value.specs.declared.value.Value.{Value}
use Rattle.mg_catalog.specs.NameLaws.{After, ascend_join, ascend_split, before_trans}
use Rattle.mg_model.specs.Catalog.{CatalogRows, column_key, columns_said, count_said, index_key, is_key_row, key_said, said_b, said_name, shape_said, table_key, with_column}
use Rattle.mg_model.specs.CatalogRules.{AreIndexes, AreTables, Ascend, EachIndex, EachTable, HasTableOf, IsBefore, IsCatalog, IsCatalogRow, IsColumnRow, IsIndexOf, IsIndexRow, IsKeyColumn, IsTable, IsTableRow, table_names}
use Rattle.mg_model.specs.Changes.{Cells}
use Rattle.mg_model.specs.declared.table.Index.{Index}
use Rattle.mg_model.specs.declared.table.Table.{Table}

-- ---- what is left

-- a row is left, unless its key is gone
abbrev pub row_left : Bool → Option Cells → Option Cells
row_left true row = None
row_left false row = row

-- rows without those of some keys
abbrev pub rows_left : (Value → Bool) → CatalogRows → CatalogRows
rows_left gone rows key = row_left (gone key) (rows key)

-- tables without those whose own key is gone
abbrev pub tables_left : (Value → Bool) → List Table → List Table
tables_left gone [] = []
tables_left gone (t ∷ ts) = if gone (table_key t.name) then tables_left gone ts else t ∷ tables_left gone ts

-- The keys that are gone are of whole tables: a row of a column or of an index goes with that of its table.
pub record AreWhole (gone : Value → Bool) (rows : CatalogRows) : Type 0 where
  pub columns : (name : List ℕ) (place : ℕ) (row : Cells) → rows (column_key name place) ≡ Some row
      → gone (column_key name place) ≡ gone (table_key name)
  pub indexes : (name : List ℕ) (row : Cells) → rows (index_key name) ≡ Some row
      → gone (index_key name) ≡ gone (table_key (said_name row))

-- ---- the law

-- Where whole tables go from the rows of a catalog, what is left names the other tables.
abbrev pub TablesAreLeft : Type 0
TablesAreLeft = (gone : Value → Bool) (rows : CatalogRows) (tables : List Table) → AreWhole gone rows
    → AreTables rows tables → AreTables (rows_left gone rows) (tables_left gone tables)

-- ---- tables

pub each_left : (gone : Value → Bool) (P Q : Table → Type 0) (ts : List Table)
    → ((t : Table) → gone (table_key t.name) ≡ false → P t → Q t) → EachTable P ts → EachTable Q (tables_left gone ts)
each_left gone P Q [] gives each = tt
each_left gone P Q (t ∷ ts) gives each = at (gone (table_key t.name)) refl (each_left gone P Q ts gives each.1)
  where
    at : (b : Bool) → gone (table_key t.name) ≡ b → EachTable Q (tables_left gone ts)
        → EachTable Q (if b then tables_left gone ts else t ∷ tables_left gone ts)
    at true is more = more
    at false is more = (gives t is each.0, more)

has_left : (gone : Value → Bool) (ts : List Table) (name : List ℕ) → gone (table_key name) ≡ false
    → HasTableOf ts name → HasTableOf (tables_left gone ts) name
has_left gone [] name off has_ = has_
has_left gone (t ∷ ts) name off (inl same) = at (gone (table_key t.name)) refl
  where
    at : (b : Bool) → gone (table_key t.name) ≡ b
        → HasTableOf (if b then tables_left gone ts else t ∷ tables_left gone ts) name
    at true is = let both : true ≡ false = sym is ∙ (ap (λ (n : List ℕ). gone (table_key n)) same ∙ off) in absurd cc
    at false is = inl same
has_left gone (t ∷ ts) name off (inr more) = at (gone (table_key t.name)) (has_left gone ts name off more)
  where
    at : (b : Bool) → HasTableOf (tables_left gone ts) name
        → HasTableOf (if b then tables_left gone ts else t ∷ tables_left gone ts) name
    at true there = there
    at false there = inr there

after_skip : (a b : List ℕ) (names : List (List ℕ)) → IsBefore a b → After b names → After a names
after_skip a b [] before after = tt
after_skip a b (first ∷ names) before after = before_trans a b first before after

after_left : (gone : Value → Bool) (a : List ℕ) (ts : List Table) → After a (table_names ts)
    → Ascend (table_names ts) → After a (table_names (tables_left gone ts))
after_left gone a [] after ascend = tt
after_left gone a (t ∷ ts) after ascend = at (gone (table_key t.name))
    (after_left gone a ts (after_skip a t.name (table_names ts) after (ascend_split t.name (table_names ts) ascend).0)
    (ascend_split t.name (table_names ts) ascend).1)
  where
    at : (b : Bool) → After a (table_names (tables_left gone ts))
        → After a (table_names (if b then tables_left gone ts else t ∷ tables_left gone ts))
    at true more = more
    at false more = after

ascend_left : (gone : Value → Bool) (ts : List Table) → Ascend (table_names ts)
    → Ascend (table_names (tables_left gone ts))
ascend_left gone [] ascend = tt
ascend_left gone (t ∷ ts) ascend = at (gone (table_key t.name))
    (ascend_left gone ts (ascend_split t.name (table_names ts) ascend).1)
  where
    at : (b : Bool) → Ascend (table_names (tables_left gone ts))
        → Ascend (table_names (if b then tables_left gone ts else t ∷ tables_left gone ts))
    at true more = more
    at false more = ascend_join t.name (table_names (tables_left gone ts))
        (after_left gone t.name ts (ascend_split t.name (table_names ts) ascend).0
        (ascend_split t.name (table_names ts) ascend).1) more

-- ---- rows

module _ (gone : Value → Bool) (rows : CatalogRows) where
  pub row_was : (key : Value) (row : Cells) → rows_left gone rows key ≡ Some row
      → (gone key ≡ false) × (rows key ≡ Some row)
  row_was key row is = at (gone key) refl is
    where
      at : (b : Bool) → gone key ≡ b → row_left b (rows key) ≡ Some row → (gone key ≡ false) × (rows key ≡ Some row)
      at true off is_ = let both : None ≡ Some row = is_ in absurd cc
      at false off is_ = (off, is_)

  pub row_stays : (key : Value) (row : Cells) → gone key ≡ false → rows key ≡ Some row
      → rows_left gone rows key ≡ Some row
  row_stays key row off is = ap (λ (b : Bool). row_left b (rows key)) off ∙ is

  module _ (whole : AreWhole gone rows) where
    column_stays : (name : List ℕ) → gone (table_key name) ≡ false → (place : ℕ) (row : Cells)
        → rows (column_key name place) ≡ Some row → rows_left gone rows (column_key name place) ≡ Some row
    column_stays name off place row is =
        row_stays (column_key name place) row (whole.columns name place row is ∙ off) is

    each_index : (name : List ℕ) → gone (table_key name) ≡ false → (is : List Index)
        → EachIndex (IsIndexOf rows name) is → EachIndex (IsIndexOf (rows_left gone rows) name) is
    each_index name off [] each = tt
    each_index name off (i ∷ is) each = (
      record {
        row = each.0.row;
        there = row_stays (index_key i.name) each.0.row (whole.indexes i.name each.0.row each.0.there
            ∙ (ap (λ (n : List ℕ). gone (table_key n)) each.0.of_table ∙ off)) each.0.there;
        of_table = each.0.of_table;
        column = each.0.column;
        root = each.0.root;
      },
      each_index name off is each.1,
    )

    indexes_stay : (name : List ℕ) → gone (table_key name) ≡ false → (is : List Index) → AreIndexes rows name is
        → AreIndexes (rows_left gone rows) name is
    indexes_stay name off is are = record {
      each = each_index name off is are.each;
      whole = λ index row has_ named. are.whole index row (row_was (index_key index) row has_).1 named;
      ascending = are.ascending;
    }

    table_row : (name : List ℕ) (row : Cells) → gone (table_key name) ≡ false → IsTableRow rows name row
        → IsTableRow (rows_left gone rows) name row
    table_row name row off is = record {
      named = is.named;
      other = is.other;
      spelled = is.spelled;
      some = is.some;
      most = is.most;
      columns = λ place below. column place (is.columns place below);
      key = key is.key;
      pointer = is.pointer;
      root = is.root;
      indexes = (is.indexes.0, indexes_stay name off is.indexes.0 is.indexes.1, is.indexes.2);
    }
      where
        column : (place : ℕ) → (column : Cells) × (rows (column_key name place) ≡ Some column)
            → (column : Cells) × (rows_left gone rows (column_key name place) ≡ Some column)
        column place (c, has_) = (c, column_stays name off place c has_)

        key : (place : ℕ) × (place < said_b row) × IsKeyColumn rows name place
            × ((other : ℕ) → IsKeyColumn rows name other → other ≡ place)
            → (place : ℕ) × (place < said_b row) × IsKeyColumn (rows_left gone rows) name place
            × ((other : ℕ) → IsKeyColumn (rows_left gone rows) name other → other ≡ place)
        key (place, below, (c, has_, three), one) = (
          place,
          below,
          (c, column_stays name off place c has_, three),
          λ other it. one other (it.0, (row_was (column_key name other) it.0 it.1).1, it.2),
        )

    column_row : (name : List ℕ) (place : ℕ) (row : Cells) → gone (column_key name place) ≡ false
        → rows (column_key name place) ≡ Some row → IsColumnRow rows name place row
        → IsColumnRow (rows_left gone rows) name place row
    column_row name place row off there is = record {
      of_table = (
        is.of_table.0,
        row_stays (table_key name) is.of_table.0 (sym (whole.columns name place row there) ∙ off) is.of_table.1,
        is.of_table.2,
      );
      spelled = is.spelled;
      named = is.named;
      short = is.short;
      flags = is.flags;
      since = is.since;
      format = is.format;
      added = is.added;
      apart = λ other column has_ same. is.apart other column (row_was (column_key name other) column has_).1 same;
      later = λ other column before has_. is.later other column before
          (row_was (column_key name other) column has_).1;
    }

    index_row : (name : List ℕ) (row : Cells) → gone (index_key name) ≡ false → rows (index_key name) ≡ Some row
        → IsIndexRow rows name row → IsIndexRow (rows_left gone rows) name row
    index_row name row off there is = record {
      named = is.named;
      spelled = is.spelled;
      root = is.root;
      rooted = is.rooted;
      of_table = (
        is.of_table.0,
        row_stays (table_key (said_name row)) is.of_table.0 (sym (whole.indexes name row there) ∙ off) is.of_table.1,
        is.of_table.2,
      );
    }

    lawful_left : IsCatalog rows → IsCatalog (rows_left gone rows)
    lawful_left lawful key row is = at (row_was key row is).0 (row_was key row is).1
        (lawful key row (row_was key row is).1)
      where
        at : gone key ≡ false → rows key ≡ Some row → IsCatalogRow rows key row
            → IsCatalogRow (rows_left gone rows) key row
        at off has_ (inl (name, its, of)) = inl (name, its, table_row name row (sym (ap gone its) ∙ off) of)
        at off has_ (inr (inl (name, place, its, of))) = inr (inl (
          name,
          place,
          its,
          column_row name place row (sym (ap gone its) ∙ off) (sym (ap rows its) ∙ has_) of,
        ))
        at off has_ (inr (inr (name, its, of))) =
            inr (inr (name, its, index_row name row (sym (ap gone its) ∙ off) (sym (ap rows its) ∙ has_) of))

    -- ---- a table that is left

    column_same : (name : List ℕ) → gone (table_key name) ≡ false → (place : ℕ)
        → rows_left gone rows (column_key name place) ≡ rows (column_key name place)
    column_same name off place = at (rows (column_key name place)) refl (gone (column_key name place))
      where
        at : (a : Option Cells) → rows (column_key name place) ≡ a → (b : Bool)
            → rows_left gone rows (column_key name place) ≡ rows (column_key name place)
        at (Some row) is b = column_stays name off place row is ∙ sym is
        at None is b = ap (row_left (gone (column_key name place))) is ∙ (none (gone (column_key name place)) ∙ sym is)
          where
            none : (d : Bool) → row_left d None ≡ None
            none true = refl
            none false = refl

    columns_same : (name : List ℕ) → gone (table_key name) ≡ false → (place count : ℕ)
        → columns_said (rows_left gone rows) name place count ≡ columns_said rows name place count
    columns_same name off place zero = refl
    columns_same name off place (suc count) =
        ap (λ (c : Option Cells). with_column c (columns_said (rows_left gone rows) name (place + 1) count))
        (column_same name off place)
        ∙ ap (with_column (rows (column_key name place))) (columns_same name off (place + 1) count)

    key_same : (name : List ℕ) → gone (table_key name) ≡ false → (place count : ℕ)
        → key_said (rows_left gone rows) name place count ≡ key_said rows name place count
    key_same name off place zero = refl
    key_same name off place (suc count) =
        ap (λ (c : Option Cells). if is_key_row c then place else key_said (rows_left gone rows) name (place + 1) count)
        (column_same name off place)
        ∙ ap (λ (n : ℕ). if is_key_row (rows (column_key name place)) then place else n)
        (key_same name off (place + 1) count)

    shape_same : (name : List ℕ) (row : Cells) → gone (table_key name) ≡ false
        → shape_said (rows_left gone rows) name (Some row) ≡ shape_said rows name (Some row)
    shape_same name row off = λ i. Some (record {
      columns = columns_same name off 0 (count_said row) i;
      key = key_same name off 0 (count_said row) i;
    })

    table_stays : (t : Table) → gone (table_key t.name) ≡ false → IsTable rows t → IsTable (rows_left gone rows) t
    table_stays t off is = record {
      row = is.row;
      there = row_stays (table_key t.name) is.row off is.there;
      shape = shape_same t.name is.row off ∙ is.shape;
      pointer = is.pointer;
      others = is.others;
      are_others = indexes_stay t.name off is.others is.are_others;
      indexes = is.indexes;
    }

pub tables_are_left : TablesAreLeft
tables_are_left gone rows tables whole are = record {
  lawful = lawful_left gone rows whole are.lawful;
  each = each_left gone (IsTable rows) (IsTable (rows_left gone rows)) tables (table_stays gone rows whole) are.each;
  whole = λ name row is. has_left gone tables name (row_was gone rows (table_key name) row is).0
      (are.whole name row (row_was gone rows (table_key name) row is).1);
  ascending = ascend_left gone tables are.ascending;
}
