-- Rows of a catalog with whole tables: some rows of a lawful catalog are a lawful one where each table is there with all
-- its columns and indexes or not at all, and so it is in a catalog as a history has it, without page numbers.
use Rattle.std.proofs.Common.{◌≡◌, ◌<◌, ◌++◌, inl, inr, refl, sym, ap, ◌∙◌, subst, ℕ, Bool, true, false, List, Option, None, Some, cond}
use Rattle.std.specs.Prelude.{IsSome, is_some}
use Rattle.std.proofs.lemmas.Bool.{false≢true}
use Rattle.mg_value.specs.declared.value.Value.{Value}
use Rattle.mg_value.specs.declared.value.Value.TheVariants.{Null}
use Rattle.mg_model.specs.declared.change.Change.{Change}
use Rattle.mg_model.specs.Catalog.{CatalogRows, catalog_name, column_key, index_key, said_a, said_b, said_c, said_d, said_name, table_key, told_cells, told_if_there}
use Rattle.mg_model.specs.CatalogRules.{IsCatalog, IsCatalogRow, IsColumnRow, IsIndexRow, IsKeyColumn, IsTableRow, catalog_row}
use Rattle.mg_model.specs.Changes.{Cells, has_change, row_at}
use Rattle.mg_model.specs.Openings.{IsToldCatalog}
use Rattle.mg_model.specs.RowLaws.{row_at-append}
use Rattle.mg_catalog.specs.LawfulLaws.{column_lawful, index_lawful, table_lawful}
use Rattle.mg_catalog.specs.TableLaws.{some_row}
use Rattle.mg_engine_step_laws.specs.tables_back.WholeIndexes.{HasIndexRows, indexes_whole, name_told, part_indexes, stored_row}

-- a row that is there can be given
pub row_there : (x : Option Cells) → IsSome x → (row : Cells) × (x ≡ Some row)
row_there None is = absurd (false≢true is)
row_there (Some row) is = (row, refl)

-- ---- some rows of a lawful catalog

module _ (all part : CatalogRows) (lawful : IsCatalog all)
    (within : (key : Value) (row : Cells) → part key ≡ Some row → all key ≡ Some row)
    (tables : (table : List ℕ) (place : ℕ) → IsSome (part (column_key table place))
    → IsSome (part (table_key table)))
    (columns : (name : List ℕ) (row : Cells) → part (table_key name) ≡ Some row → (place : ℕ)
    → place < said_b row → IsSome (part (column_key name place)))
    (owners : (name : List ℕ) (row : Cells) → part (index_key name) ≡ Some row
    → IsSome (part (table_key (said_name row))))
    (indexes : (name : List ℕ) (row : Cells) → part (table_key name) ≡ Some row → HasIndexRows all part name) where
  one_row : (key : Value) (a b : Cells) → part key ≡ Some a → all key ≡ Some b → a ≡ b
  one_row key a b here also = some_row a b (sym (within key a here) ∙ also)

  key_within : (name : List ℕ) (place : ℕ) → IsKeyColumn part name place → IsKeyColumn all name place
  key_within name place (row, is, says) = (row, within (column_key name place) row is, says)

  table_part : (name : List ℕ) (row : Cells) → part (table_key name) ≡ Some row → IsTableRow all name row
      → IsTableRow part name row
  table_part name row here its = record {
    named = its.named;
    other = its.other;
    spelled = its.spelled;
    some = its.some;
    most = its.most;
    columns = λ place below. row_there (part (column_key name place)) (columns name row here place below);
    key = (its.key.0, its.key.1, its_key, λ other is. its.key.3 other (key_within name other is));
    pointer = its.pointer;
    root = its.root;
    indexes = (
      its.indexes.0,
      part_indexes part all within name (indexes name row here) its.indexes.0 its.indexes.1,
      its.indexes.2,
    );
  }
    where
      its_key : IsKeyColumn part name its.key.0
      its_key = let found = row_there (part (column_key name its.key.0))
          (columns name row here its.key.0 its.key.1) in (
            found.0,
            found.1,
            ap said_b (one_row (column_key name its.key.0) found.0 its.key.2.0 found.1 its.key.2.1)
                ∙ its.key.2.2,
          )

  column_part : (table : List ℕ) (place : ℕ) (row : Cells) → part (column_key table place) ≡ Some row
      → IsColumnRow all table place row → IsColumnRow part table place row
  column_part table place row here its = record {
    of_table = (
      found.0,
      found.1,
      subst (λ (c : Cells). place < said_b c)
          (sym (one_row (table_key table) found.0 its.of_table.0 found.1 its.of_table.1)) its.of_table.2,
    );
    spelled = its.spelled;
    named = its.named;
    short = its.short;
    flags = its.flags;
    since = its.since;
    format = its.format;
    added = its.added;
    apart = λ other column is same. its.apart other column (within (column_key table other) column is) same;
    later = λ other column before is. its.later other column before (within (column_key table other) column is);
  }
    where
      found : (t : Cells) × (part (table_key table) ≡ Some t)
      found = row_there (part (table_key table)) (tables table place (ap is_some here))

  index_part : (name : List ℕ) (row : Cells) → part (index_key name) ≡ Some row → IsIndexRow all name row
      → IsIndexRow part name row
  index_part name row here its = record {
    named = its.named;
    spelled = its.spelled;
    root = its.root;
    rooted = its.rooted;
    of_table = (
      found.0,
      found.1,
      subst (λ (c : Cells). said_b row < said_b c)
          (sym (one_row (table_key (said_name row)) found.0 its.of_table.0 found.1 its.of_table.1)) its.of_table.2,
    );
  }
    where
      found : (t : Cells) × (part (table_key (said_name row)) ≡ Some t)
      found = row_there (part (table_key (said_name row))) (owners name row here)

  pub part_lawful : IsCatalog part
  part_lawful key row here = at (lawful key row (within key row here))
    where
      at : IsCatalogRow all key row → IsCatalogRow part key row
      at (inl (name, keyed, its)) = inl (name, keyed, table_part name row (ap part (sym keyed) ∙ here) its)
      at (inr (inl (table, place, keyed, its))) = inr (inl (
        table,
        place,
        keyed,
        column_part table place row (ap part (sym keyed) ∙ here) its,
      ))
      at (inr (inr (name, keyed, its))) = inr (inr (name, keyed, index_part name row (ap part (sym keyed) ∙ here) its))

-- ---- a catalog as a history has it

told_some : (x : Option Cells) → is_some (told_if_there x) ≡ is_some x
told_some None = refl
told_some (Some row) = refl

-- the row of a table says as many columns without its page numbers
table_told : (table : List ℕ) (a b c d : ℕ)
    → said_b (told_cells (catalog_row (table_key table) Null a b c d)) ≡ b
table_told table a b c d = refl

pub count_told : (rows : CatalogRows) (name : List ℕ) (row : Cells) → IsTableRow rows name row
    → said_b (told_cells row) ≡ said_b row
count_told rows name row its = ap (λ (x : Cells). said_b (told_cells x)) its.spelled
    ∙ table_told name (said_a row) (said_b row) (said_c row) (said_d row)

module _ (rows : CatalogRows) (is : IsToldCatalog rows) where
  stored_there : (key : Value) → IsSome (rows key) → (row : Cells) × (is.stored key ≡ Some row)
  stored_there key some = row_there (is.stored key)
      (sym (told_some (is.stored key)) ∙ (sym (ap is_some (is.told key)) ∙ some))

  -- a column has its table
  pub told_table : (table : List ℕ) (place : ℕ) → IsSome (rows (column_key table place))
      → (t : Cells) × (rows (table_key table) ≡ Some t) × (place < said_b t)
  told_table table place some = (
    told_cells its.of_table.0,
    is.told (table_key table) ∙ ap told_if_there its.of_table.1,
    subst (λ (n : ℕ). place < n) (sym (count_told is.stored table its.of_table.0
        (table_lawful is.stored is.lawful table its.of_table.0 its.of_table.1))) its.of_table.2,
  )
    where
      column : (row : Cells) × (is.stored (column_key table place) ≡ Some row)
      column = stored_there (column_key table place) some

      its : IsColumnRow is.stored table place column.0
      its = column_lawful is.stored is.lawful table place column.0 column.1

  -- and a table its columns
  pub told_column : (name : List ℕ) (row : Cells) → rows (table_key name) ≡ Some row → (place : ℕ)
      → place < said_b row → IsSome (rows (column_key name place))
  told_column name row here place below =
      ap is_some (is.told (column_key name place) ∙ ap told_if_there column.1)
    where
      table : (t : Cells) × (is.stored (table_key name) ≡ Some t)
      table = stored_there (table_key name) (ap is_some here)

      its : IsTableRow is.stored name table.0
      its = table_lawful is.stored is.lawful name table.0 table.1

      same : told_cells table.0 ≡ row
      same = some_row (told_cells table.0) row
          (sym (ap told_if_there table.1) ∙ (sym (is.told (table_key name)) ∙ here))

      column : (c : Cells) × (is.stored (column_key name place) ≡ Some c)
      column = its.columns place (subst (λ (n : ℕ). place < n)
          (ap said_b (sym same) ∙ count_told is.stored name table.0 its) below)

  -- and an index its table
  pub told_owner : (name : List ℕ) (row : Cells) → rows (index_key name) ≡ Some row
      → IsSome (rows (table_key (said_name row)))
  told_owner name row here = ap is_some (is.told (table_key (said_name row)) ∙ ap told_if_there
      (ap (λ (n : List ℕ). is.stored (table_key n)) (sym called) ∙ its.of_table.1))
    where
      found : (other : Cells) × (is.stored (index_key name) ≡ Some other) × (told_cells other ≡ row)
      found = stored_row rows is (index_key name) row here

      its : IsIndexRow is.stored name found.0
      its = index_lawful is.stored is.lawful name found.0 found.1

      called : said_name found.0 ≡ said_name row
      called = sym (name_told is.stored name found.0 its) ∙ ap said_name found.2

-- ---- rows of one's own over a base

-- One's own rows are new to the database. They are laid over a base, which may be an older state of the database: where
-- the catalogs of the base, of the database, and of the database with one's own rows are lawful, one sees whole
-- tables.
module _ (its base whole : List Change) (base_is : IsToldCatalog (row_at base catalog_name))
    (whole_is : IsToldCatalog (row_at whole catalog_name))
    (with_is : IsToldCatalog (row_at (its ++ whole) catalog_name))
    (new : (key : Value) → has_change its catalog_name key ≡ true
    → IsSome (row_at its catalog_name key) × (row_at whole catalog_name key ≡ None))
    (older : (key : Value) (row : Cells) → row_at base catalog_name key ≡ Some row
    → row_at whole catalog_name key ≡ Some row) where
  over_rest : (key : Value) (b : Bool) → has_change its catalog_name key ≡ b → (rest : List Change)
      → row_at (its ++ rest) catalog_name key
      ≡ cond b (row_at its catalog_name key) (row_at rest catalog_name key)
  over_rest key b has rest = row_at-append its rest catalog_name key
      ∙ ap (λ (x : Bool). cond x (row_at its catalog_name key) (row_at rest catalog_name key)) has

  -- one's own rows are seen, over whatever
  its_seen : (key : Value) → has_change its catalog_name key ≡ true → (rest : List Change)
      → IsSome (row_at (its ++ rest) catalog_name key)
  its_seen key has rest = ap is_some (over_rest key true has rest) ∙ (new key has).0

  -- and those of the base
  base_seen : (key : Value) → IsSome (row_at base catalog_name key)
      → IsSome (row_at (its ++ base) catalog_name key)
  base_seen key some = at (has_change its catalog_name key) refl
    where
      at : (b : Bool) → has_change its catalog_name key ≡ b → IsSome (row_at (its ++ base) catalog_name key)
      at true has = its_seen key has base
      at false none = ap is_some (over_rest key false none base) ∙ some

  not_new : (key : Value) → has_change its catalog_name key ≡ true
      → IsSome (row_at whole catalog_name key) → ⊥
  not_new key has some = false≢true (sym (ap is_some (new key has).1) ∙ some)

  pub seen_table : (table : List ℕ) (place : ℕ)
      → IsSome (row_at (its ++ base) catalog_name (column_key table place))
      → IsSome (row_at (its ++ base) catalog_name (table_key table))
  seen_table table place some = at (has_change its catalog_name (column_key table place)) refl
    where
      at : (b : Bool) → has_change its catalog_name (column_key table place) ≡ b
          → IsSome (row_at (its ++ base) catalog_name (table_key table))
      at false none =
          let found = told_table (row_at base catalog_name) base_is table place
          (sym (ap is_some (over_rest (column_key table place) false none base)) ∙ some) in
          base_seen (table_key table) (ap is_some found.1)
      at true has = by (has_change its catalog_name (table_key table)) refl
          (told_table (row_at (its ++ whole) catalog_name) with_is table place
          (its_seen (column_key table place) has whole))
        where
          by : (b : Bool) → has_change its catalog_name (table_key table) ≡ b
              → (t : Cells) × (row_at (its ++ whole) catalog_name (table_key table) ≡ Some t)
              × (place < said_b t)
              → IsSome (row_at (its ++ base) catalog_name (table_key table))
          by true also found = its_seen (table_key table) also base
          by false none (t, there, below) = absurd (not_new (column_key table place) has
              (told_column (row_at whole catalog_name) whole_is table t
              (sym (over_rest (table_key table) false none whole) ∙ there) place below))

  pub seen_column : (name : List ℕ) (row : Cells)
      → row_at (its ++ base) catalog_name (table_key name) ≡ Some row → (place : ℕ)
      → place < said_b row → IsSome (row_at (its ++ base) catalog_name (column_key name place))
  seen_column name row here place below = at (has_change its catalog_name (table_key name)) refl
    where
      at : (b : Bool) → has_change its catalog_name (table_key name) ≡ b
          → IsSome (row_at (its ++ base) catalog_name (column_key name place))
      at false none = base_seen (column_key name place) (told_column (row_at base catalog_name) base_is name row
          (sym (over_rest (table_key name) false none base) ∙ here) place below)
      at true has = by (has_change its catalog_name (column_key name place)) refl
          (told_column (row_at (its ++ whole) catalog_name) with_is name row
          (over_rest (table_key name) true has whole ∙ (sym (over_rest (table_key name) true has base) ∙ here))
          place below)
        where
          by : (b : Bool) → has_change its catalog_name (column_key name place) ≡ b
              → IsSome (row_at (its ++ whole) catalog_name (column_key name place))
              → IsSome (row_at (its ++ base) catalog_name (column_key name place))
          by true also found = its_seen (column_key name place) also base
          by false none found =
              let table = told_table (row_at whole catalog_name) whole_is name place
              (sym (ap is_some (over_rest (column_key name place) false none whole)) ∙ found) in
              absurd (not_new (table_key name) has (ap is_some table.1))

  -- a row of the base is not one's own, and is seen as it is
  its_not : (key : Value) → IsSome (row_at whole catalog_name key) → has_change its catalog_name key ≡ false
  its_not key some = at (has_change its catalog_name key) refl
    where
      at : (b : Bool) → has_change its catalog_name key ≡ b → has_change its catalog_name key ≡ false
      at false none = none
      at true has = absurd (not_new key has some)

  kept_over : (key : Value) (row : Cells) → row_at whole catalog_name key ≡ Some row
      → (rest : List Change) → row_at (its ++ rest) catalog_name key ≡ row_at rest catalog_name key
  kept_over key row is rest = over_rest key false (its_not key (ap is_some is)) rest

  whole_over : (key : Value) (row : Cells) → row_at whole catalog_name key ≡ Some row
      → row_at (its ++ whole) catalog_name key ≡ Some row
  whole_over key row is = kept_over key row is whole ∙ is

  base_over : (key : Value) (row : Cells) → row_at base catalog_name key ≡ Some row
      → row_at (its ++ base) catalog_name key ≡ Some row
  base_over key row is = kept_over key row (older key row is) base ∙ is

  -- one's own row is the same over whatever
  own_over : (key : Value) (row : Cells) → has_change its catalog_name key ≡ true → (rest more : List Change)
      → row_at (its ++ rest) catalog_name key ≡ Some row → row_at (its ++ more) catalog_name key ≡ Some row
  own_over key row has rest more is = over_rest key true has more ∙ (sym (over_rest key true has rest) ∙ is)

  -- ---- indexes are whole

  -- a table of the database has no index of one's own
  none_added : (table : List ℕ) (row : Cells) → row_at whole catalog_name (table_key table) ≡ Some row
      → (name : List ℕ) (index : Cells) → row_at (its ++ whole) catalog_name (index_key name) ≡ Some index
      → said_name index ≡ table → has_change its catalog_name (index_key name) ≡ false
  none_added table row here name index is of_table = its_not (index_key name) (ap is_some
      (indexes_whole (row_at whole catalog_name) (row_at (its ++ whole) catalog_name) whole_is with_is table row here
      (whole_over (table_key table) row here) (λ n r there called. whole_over (index_key n) r there) name index is
      of_table))

  -- who sees an index sees its table
  pub seen_owner : (name : List ℕ) (row : Cells) → row_at (its ++ base) catalog_name (index_key name) ≡ Some row
      → IsSome (row_at (its ++ base) catalog_name (table_key (said_name row)))
  seen_owner name row is = at (has_change its catalog_name (index_key name)) refl
    where
      at : (b : Bool) → has_change its catalog_name (index_key name) ≡ b
          → IsSome (row_at (its ++ base) catalog_name (table_key (said_name row)))
      at false none = base_seen (table_key (said_name row)) (told_owner (row_at base catalog_name) base_is name row
          (sym (over_rest (index_key name) false none base) ∙ is))
      at true has = by (has_change its catalog_name (table_key (said_name row))) refl
          (row_there (row_at (its ++ whole) catalog_name (table_key (said_name row)))
          (told_owner (row_at (its ++ whole) catalog_name) with_is name row with_index))
        where
          with_index : row_at (its ++ whole) catalog_name (index_key name) ≡ Some row
          with_index = own_over (index_key name) row has base whole is

          by : (b : Bool) → has_change its catalog_name (table_key (said_name row)) ≡ b
              → (t : Cells) × (row_at (its ++ whole) catalog_name (table_key (said_name row)) ≡ Some t)
              → IsSome (row_at (its ++ base) catalog_name (table_key (said_name row)))
          by true also found = its_seen (table_key (said_name row)) also base
          by false none (t, there) = absurd (false≢true (sym (none_added (said_name row) t
              (sym (over_rest (table_key (said_name row)) false none whole) ∙ there) name row with_index refl) ∙ has))

  -- an index of a table of one's own is one's own
  own_index : (table : List ℕ) → has_change its catalog_name (table_key table) ≡ true → (name : List ℕ) (row : Cells)
      → row_at (its ++ whole) catalog_name (index_key name) ≡ Some row → said_name row ≡ table
      → row_at (its ++ base) catalog_name (index_key name) ≡ Some row
  own_index table has name row there of_table = at (has_change its catalog_name (index_key name)) refl
    where
      at : (b : Bool) → has_change its catalog_name (index_key name) ≡ b
          → row_at (its ++ base) catalog_name (index_key name) ≡ Some row
      at true also = own_over (index_key name) row also whole base there
      at false none = absurd (not_new (table_key table) has (subst (λ (n : List ℕ).
          IsSome (row_at whole catalog_name (table_key n))) of_table (told_owner (row_at whole catalog_name) whole_is
          name row (sym (over_rest (index_key name) false none whole) ∙ there))))

  -- and who sees a table sees the rows of its indexes, as another catalog has them in which all rows are that are seen
  pub seen_indexes : (all : CatalogRows) → IsToldCatalog all
      → ((key : Value) (row : Cells) → row_at (its ++ base) catalog_name key ≡ Some row → all key ≡ Some row)
      → (table : List ℕ) (row : Cells) → row_at (its ++ base) catalog_name (table_key table) ≡ Some row
      → HasIndexRows all (row_at (its ++ base) catalog_name) table
  seen_indexes all all_is seen_all table row here name index is of_table =
      at (has_change its catalog_name (table_key table)) refl
    where
      at : (b : Bool) → has_change its catalog_name (table_key table) ≡ b
          → row_at (its ++ base) catalog_name (index_key name) ≡ Some index
      at false none = base_over (index_key name) index (indexes_whole (row_at base catalog_name) all base_is all_is table
          row (sym (over_rest (table_key table) false none base) ∙ here) (seen_all (table_key table) row here)
          (λ n r there called. seen_all (index_key n) r (base_over (index_key n) r there)) name index is of_table)
      at true has = own_index table has name index (indexes_whole (row_at (its ++ whole) catalog_name) all with_is all_is
          table row (own_over (table_key table) row has base whole here) (seen_all (table_key table) row here)
          (λ n r there called. seen_all (index_key n) r (own_index table has n r there called)) name index is of_table)
          of_table
