-- The rows of a list are lawful; what a lawful row then is.
use Rattle.std.proofs.Common.{◌≡◌, ◌≢◌, ◌⊎◌, inl, inr, ◌∙◌, ap, sym, subst, refl, ℕ, zero, suc, ◌+◌, ◌-◌, ◌<◌, ◌≤◌, arith, List, [], ◌∷◌, ◌++◌, length, append_assoc, take, Some, None, Option, get_or, false}
use Rattle.std.proofs.lemmas.Bool.{cases_lt}
use Rattle.std.proofs.lemmas.List.{get_or_read, take_more}
use Rattle.mg_value.specs.declared.value.Value.{Value}
use Rattle.mg_value.specs.declared.shape.Column.{Column}
use Rattle.mg_model.specs.declared.table.Index.{Index}
use Rattle.mg_model.specs.declared.table.Table.{Table}
use Rattle.mg_model.specs.Changes.{Cells}
use Rattle.mg_model.specs.Catalog.{CatalogRows, column_key, columns_said, count_said, is_key_row, key_said, said_a, said_b, said_c, table_key, with_column}
use Rattle.mg_model.specs.CatalogRules.{AreTables, Ascend, EachTable, HasTableOf, IsCatalog, IsCatalogRow, IsTable, primary_index, table_names}
use Rattle.mg_catalog.specs.ByKey.{HasKey, HasRow, by_key, row_key}
use Rattle.mg_catalog.specs.FirstBad.{IsLawfulAt}
use Rattle.mg_catalog.specs.IndexLaws.{among_are}
use Rattle.mg_catalog.specs.KeyLaws.{has_key, has_row, key_found}
use Rattle.mg_catalog.specs.LawfulLaws.{table_lawful}
use Rattle.mg_catalog.specs.Names.{HasName, all_indexes, names_from}
use Rattle.mg_catalog.specs.NameLaws.{from_ascends, from_each, from_whole}
use Rattle.mg_catalog.specs.TableIndexes.{indexes_among}

-- ---- each row is lawful

pub lawful_at : (rows : List Cells) (at : ℕ) (row : Cells) → at < length rows
    → row ≡ get_or rows at row → IsCatalogRow (by_key rows) (row_key row) row → IsLawfulAt rows at
lawful_at rows at row below is lawful =
    let P : Cells → Type 0 = λ r. IsCatalogRow (by_key rows) (row_key r) r in
    subst P (get_or_read rows at row below is []) lawful

pub unlawful_at : (rows : List Cells) (at : ℕ) (row : Cells) → at < length rows
    → row ≡ get_or rows at row → (IsCatalogRow (by_key rows) (row_key row) row → ⊥)
    → IsLawfulAt rows at → ⊥
unlawful_at rows at row below is none lawful =
    let P : Cells → Type 0 = λ r. IsCatalogRow (by_key rows) (row_key r) r in
    none (subst P (sym (get_or_read rows at row below is [])) lawful)

pub lawful_more : (rows : List Cells) (at : ℕ)
    → ((before : ℕ) → before < at → IsLawfulAt rows before) → IsLawfulAt rows at
    → (before : ℕ) → before < at + 1 → IsLawfulAt rows before
lawful_more rows at each here before below = by_place (cases_lt before at)
  where
    by_place : (before < at) ⊎ (at ≤ before) → IsLawfulAt rows before
    by_place (inl less) = each before less
    by_place (inr more) =
        let same : at ≡ before = omega arith in
        let P : ℕ → Type 0 = λ n. IsLawfulAt rows n in subst P same here

row_placed : (rows : List Cells) (row : Cells) → HasRow rows row
    → (at : ℕ) × (at < length rows) × (get_or rows at [] ≡ row)
row_placed [] row has = absurd has
row_placed (first ∷ rows) row (inl is) = (0, omega arith, is)
row_placed (first ∷ rows) row (inr later) = next (row_placed rows row later)
  where
    next : (at : ℕ) × (at < length rows) × (get_or rows at [] ≡ row)
        → (at : ℕ) × (at < length (first ∷ rows)) × (get_or (first ∷ rows) at [] ≡ row)
    next (at, below, is) = (suc at, omega arith, is)

pub all_lawful : (rows : List Cells)
    → ((at : ℕ) → at < length rows → IsLawfulAt rows at) → IsCatalog (by_key rows)
all_lawful rows each key row is = by_place (has_row rows key row is)
  where
    moved : (at : ℕ) × (at < length rows) × (get_or rows at [] ≡ row) → row_key row ≡ key
        → IsCatalogRow (by_key rows) key row
    moved (at, below, found) of_key =
        let P : Cells → Type 0 = λ r. IsCatalogRow (by_key rows) (row_key r) r in
        let Q : Value → Type 0 = λ k. IsCatalogRow (by_key rows) k row in
        subst Q of_key (subst P found (each at below))

    by_place : HasRow rows row × (row_key row ≡ key) → IsCatalogRow (by_key rows) key row
    by_place both = moved (row_placed rows row both.0) both.1

-- ---- the columns of a table, one place after another

with_append : (o : Option Cells) (columns : List Column)
    → with_column o [] ++ columns ≡ with_column o columns
with_append None columns = refl
with_append (Some row) columns = refl

columns_here : (rows : CatalogRows) (table : List ℕ) (place count : ℕ) → place < count
    → columns_said rows table place (count - place)
    ≡ with_column (rows (column_key table place))
    (columns_said rows table (place + 1) (count - (place + 1)))
columns_here rows table place count below =
    let e : count - place ≡ suc (count - (place + 1)) = omega arith in rw e refl

pub columns_step : (rows : CatalogRows) (table : List ℕ) (place count : ℕ)
    (old new all : List Column) → place < count
    → old ++ columns_said rows table place (count - place) ≡ all
    → new ≡ old ++ with_column (rows (column_key table place)) []
    → new ++ columns_said rows table (place + 1) (count - (place + 1)) ≡ all
columns_step rows table place count old new all below is added =
    ap (λ (xs : List Column). xs ++ columns_said rows table (place + 1) (count - (place + 1)))
    added
    ∙ (append_assoc old (with_column (rows (column_key table place)) [])
    (columns_said rows table (place + 1) (count - (place + 1)))
    ∙ (ap (λ (xs : List Column). old ++ xs)
    (with_append (rows (column_key table place))
    (columns_said rows table (place + 1) (count - (place + 1)))
    ∙ sym (columns_here rows table place count below)) ∙ is))

pub key_step : (rows : CatalogRows) (table : List ℕ) (place count all : ℕ) → place < count
    → is_key_row (rows (column_key table place)) ≡ false
    → key_said rows table place (count - place) ≡ all
    → key_said rows table (place + 1) (count - (place + 1)) ≡ all
key_step rows table place count all below other is =
    let here : key_said rows table place (count - place)
    ≡ key_said rows table (place + 1) (count - (place + 1)) =
    (let e : count - place ≡ suc (count - (place + 1)) = omega arith in
    rw (e, other) refl) in
    sym here ∙ is

-- ---- a table

pub table_is : (rows : List Cells) (table : Table) (row : Cells) → IsCatalog (by_key rows)
    → by_key rows (table_key table.name) ≡ Some row
    → table.shape ≡ record {
      columns = columns_said (by_key rows) table.name 0 (said_b row);
      key = key_said (by_key rows) table.name 0 (said_b row);
    }
    → table.pointer.0 ≡ said_a row
    → table.indexes ≡ primary_index table.name table.shape.key (said_c row)
    ++ indexes_among (by_key rows) table.name (all_indexes rows)
    → IsTable (by_key rows) table
table_is rows table row catalog there shape pointer indexes = record {
  row = row;
  there = there;
  shape = let most = (table_lawful (by_key rows) catalog table.name row there).most in
      let e : count_said row ≡ said_b row = omega arith in
      rw e (ap Some (sym shape));
  pointer = pointer;
  others = indexes_among (by_key rows) table.name (all_indexes rows);
  are_others = among_are rows table.name;
  indexes = indexes;
}

-- the primary index and the others, as they are added to none
pub indexes_are : (result all some none primary given others : List Index) → result ≡ all
    → all ≡ some ++ given → some ≡ none ++ primary → none ≡ [] → given ≡ others
    → result ≡ primary ++ others
indexes_are result all some none primary given others is added begun empty same =
    is ∙ (added ∙ (ap (λ (xs : List Index). xs ++ given)
    (begun ∙ ap (λ (xs : List Index). xs ++ primary) empty)
    ∙ ap (λ (xs : List Index). primary ++ xs) same))

-- ---- the tables in the order of their names

pub table_there : (rows : List Cells) (names : List (List ℕ)) (name : List ℕ)
    → names ≡ names_from 84 rows [] → HasName names name → by_key rows (table_key name) ≢ None
table_there rows names name are has none =
    at (from_each 84 rows [] name (let P : List (List ℕ) → Type 0 = λ ns. HasName ns name in
    subst P are has))
  where
    at : HasKey rows (table_key name) ⊎ HasName [] name → ⊥
    at (inl there) = let found = (key_found rows (table_key name) there).1 in absurd cc
    at (inr never) = never

pub name_there : (names : List (List ℕ)) (i : ℕ) (name : List ℕ) → i < length names
    → name ≡ get_or names i name → HasName names name
name_there [] i name below is = absurd (omega arith)
name_there (first ∷ names) zero name below is = inl (sym is)
name_there (first ∷ names) (suc i) name below is =
    inr (name_there names i name (omega arith) is)

each_push : (P : Table → Type 0) (tables : List Table) (table : Table) → EachTable P tables
    → P table → EachTable P (tables ++ table ∷ [])
each_push P [] table each here = (here, tt)
each_push P (first ∷ tables) table each here = (each.0, each_push P tables table each.1 here)

names_push : (tables : List Table) (table : Table)
    → table_names (tables ++ table ∷ []) ≡ table_names tables ++ table.name ∷ []
names_push [] table = refl
names_push (first ∷ tables) table =
    ap (λ (ns : List (List ℕ)). first.name ∷ ns) (names_push tables table)

-- the tables of the first of these names
abbrev pub AreFirst : CatalogRows → List (List ℕ) → ℕ → List Table → Type 0
AreFirst rows names count tables =
    EachTable (IsTable rows) tables × (table_names tables ≡ take count names)

pub first_more : (rows : CatalogRows) (names : List (List ℕ)) (i : ℕ) (old new : List Table)
    (table : Table) (name : List ℕ) → i < length names → AreFirst rows names i old
    → IsTable rows table → table.name ≡ name → name ≡ get_or names i name
    → new ≡ old ++ table ∷ [] → AreFirst rows names (i + 1) new
first_more rows names i old new table name below first is named at_place pushed = (
  let P : List Table → Type 0 = λ ts. EachTable (IsTable rows) ts in
      subst P (sym pushed) (each_push (IsTable rows) old table first.0 is),
  ap table_names pushed ∙ (names_push old table
      ∙ (ap (λ (ns : List (List ℕ)). ns ++ table.name ∷ []) first.1
      ∙ (ap (λ (n : List ℕ). take i names ++ n ∷ [])
      (named ∙ get_or_read names i name below at_place [])
      ∙ sym (take_more names i [] below)))),
)

has_table : (tables : List Table) (name : List ℕ) → HasName (table_names tables) name
    → HasTableOf tables name
has_table [] name has = absurd has
has_table (table ∷ tables) name (inl is) = inl is
has_table (table ∷ tables) name (inr later) = inr (has_table tables name later)

pub tables_are : (rows : List Cells) (names : List (List ℕ)) (tables : List Table)
    → IsCatalog (by_key rows) → names ≡ names_from 84 rows []
    → EachTable (IsTable (by_key rows)) tables → table_names tables ≡ names
    → AreTables (by_key rows) tables
tables_are rows names tables catalog are each named = record {
  lawful = catalog;
  each = each;
  whole = λ name row is. has_table tables name
      (let P : List (List ℕ) → Type 0 = λ ns. HasName ns name in
      subst P (sym (named ∙ are))
      (from_whole 84 rows [] name (has_key rows (table_key name) row is)));
  ascending = let P : List (List ℕ) → Type 0 = λ ns. Ascend ns in
      subst P (sym (named ∙ are)) (from_ascends 84 rows [] tt);
}
