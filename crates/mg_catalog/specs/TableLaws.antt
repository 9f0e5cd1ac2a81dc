-- Laws of the tables that the rows of a catalog name.
use Rattle.std.proofs.Common.{◌≡◌, inl, inr, ◌∙◌, ap, sym, subst, refl, ℕ, zero, suc, ◌+◌, ◌<◌, ◌≤◌, arith, List, [], ◌∷◌, ◌++◌, length, Some, get_or}
use Rattle.mg_value.specs.declared.value.Value.{Value}
use Rattle.mg_value.specs.declared.shape.Shape.{Shape}
use Rattle.mg_value.specs.declared.shape.TheConstants.{MOST_COLUMNS}
use Rattle.mg_model.specs.declared.table.Index.{Index}
use Rattle.mg_model.specs.declared.table.Table.{Table}
use Rattle.mg_model.specs.Changes.{Cells}
use Rattle.mg_model.specs.Catalog.{CatalogRows, column_key, columns_said, count_said, said_a, said_b, said_c, shape_said, table_key}
use Rattle.mg_model.specs.CatalogRules.{AreIndexes, AreTables, EachTable, HasTableOf, IsCatalog, IsTable, IsTableRow, primary_index, table_names}
use Rattle.mg_catalog.specs.declared.fault.CatFault.TheVariants.{BadTable}
use Rattle.mg_catalog.specs.ByKey.{HasKey, HaveOwnKeys, by_key, row_key}
use Rattle.mg_catalog.specs.FirstBad.{IsFirstBad}
use Rattle.mg_catalog.specs.IndexLaws.{indexes_once}
use Rattle.mg_catalog.specs.KeyLaws.{same_key_other, same_key_self}
use Rattle.mg_catalog.specs.LawfulLaws.{table_lawful}
use Rattle.mg_catalog.specs.NameLaws.{ascending_once}
use Rattle.mg_catalog.specs.Names.{HasName}

-- ---- there is one list of tables

table_named : (ts : List Table) (name : List ℕ) → HasTableOf ts name
    → HasName (table_names ts) name
table_named [] name has = absurd has
table_named (t ∷ ts) name (inl here) = inl here
table_named (t ∷ ts) name (inr later) = inr (table_named ts name later)

named_table : (ts : List Table) (name : List ℕ) → HasName (table_names ts) name
    → HasTableOf ts name
named_table [] name has = absurd has
named_table (t ∷ ts) name (inl here) = inl here
named_table (t ∷ ts) name (inr later) = inr (named_table ts name later)

table_equal : (s t : Table) → s.name ≡ t.name → s.shape ≡ t.shape → s.pointer.0 ≡ t.pointer.0
    → s.indexes ≡ t.indexes → s ≡ t
table_equal s t names shapes pointers indexes k = record {
  name = names k;
  shape = shapes k;
  pointer = record { 0 = pointers k };
  indexes = indexes k;
}

pub some_shape : (a b : Shape) → Some a ≡ Some b → a ≡ b
some_shape a b e = cc

pub some_row : (a b : Cells) → Some a ≡ Some b → a ≡ b
some_row a b e = cc

-- two tables of one name that the rows say are one
table_same : (rows : CatalogRows) (s t : Table) → IsTable rows s → IsTable rows t
    → s.name ≡ t.name → s ≡ t
table_same rows s t one other same = at rows_same
  where
    rows_same : one.row ≡ other.row
    rows_same = some_row one.row other.row (sym one.there
        ∙ (ap (λ (n : List ℕ). rows (table_key n)) same ∙ other.there))

    at : one.row ≡ other.row → s ≡ t
    at is = finish shapes others
      where
        shapes : s.shape ≡ t.shape
        shapes = some_shape s.shape t.shape (sym one.shape
            ∙ (ap (λ (n : List ℕ). shape_said rows n (Some one.row)) same
            ∙ (ap (λ (r : Cells). shape_said rows t.name (Some r)) is ∙ other.shape)))

        others : one.others ≡ other.others
        others = indexes_once rows t.name one.others other.others
            (let P : List ℕ → Type 0 = λ n. AreIndexes rows n one.others in
            subst P same one.are_others) other.are_others

        finish : s.shape ≡ t.shape → one.others ≡ other.others → s ≡ t
        finish shape_is others_are = table_equal s t same shape_is
            (one.pointer ∙ (ap said_a is ∙ sym other.pointer))
            (one.indexes
            ∙ (ap (λ (n : List ℕ). primary_index n s.shape.key (said_c one.row) ++ one.others) same
            ∙ (ap (λ (h : Shape). primary_index t.name h.key (said_c one.row) ++ one.others) shape_is
            ∙ (ap (λ (r : Cells). primary_index t.name t.shape.key (said_c r) ++ one.others) is
            ∙ (ap (λ (xs : List Index). primary_index t.name t.shape.key (said_c other.row) ++ xs)
            others_are ∙ sym other.indexes)))))

tables_same : (rows : CatalogRows) (ss ts : List Table) → EachTable (IsTable rows) ss
    → EachTable (IsTable rows) ts → table_names ss ≡ table_names ts → ss ≡ ts
tables_same rows [] [] each other same = refl
tables_same rows [] (t ∷ ts) each other same = absurd cc
tables_same rows (s ∷ ss) [] each other same = absurd cc
tables_same rows (s ∷ ss) (t ∷ ts) each other same =
    at (table_same rows s t each.0 other.0 (first s.name t.name _ _ same))
    (tables_same rows ss ts each.1 other.1 (rest s.name t.name _ _ same))
  where
    first : (a b : List ℕ) (xs ys : List (List ℕ)) → a ∷ xs ≡ b ∷ ys → a ≡ b
    first a b xs ys e = cc

    rest : (a b : List ℕ) (xs ys : List (List ℕ)) → a ∷ xs ≡ b ∷ ys → xs ≡ ys
    rest a b xs ys e = cc

    at : s ≡ t → ss ≡ ts → s ∷ ss ≡ t ∷ ts
    at here later = cc

table_there : (rows : CatalogRows) (ss ts : List Table) → EachTable (IsTable rows) ss
    → AreTables rows ts → (name : List ℕ) → HasTableOf ss name → HasTableOf ts name
table_there rows [] ts each other name has = absurd has
table_there rows (s ∷ ss) ts each other name (inl here) =
    let P : List ℕ → Type 0 = λ n. HasTableOf ts n in
    subst P here (other.whole s.name each.0.row each.0.there)
table_there rows (s ∷ ss) ts each other name (inr later) =
    table_there rows ss ts each.1 other name later

-- the rows of a catalog name one list of tables
pub tables_once : (rows : CatalogRows) (ss ts : List Table) → AreTables rows ss
    → AreTables rows ts → ss ≡ ts
tables_once rows ss ts one other = tables_same rows ss ts one.each other.each
    (ascending_once (table_names ss) (table_names ts) one.ascending other.ascending
    (λ name has. table_named ts name
    (table_there rows ss ts one.each other name (named_table ss name has)))
    (λ name has. table_named ss name
    (table_there rows ts ss other.each one name (named_table ts name has))))

-- ---- tables are small

-- as many columns as there are places, where each has a row
columns_all : (rows : CatalogRows) (name : List ℕ) (place count : ℕ)
    → ((p : ℕ) → place ≤ p → p < place + count
    → (column : Cells) × (rows (column_key name p) ≡ Some column))
    → length (columns_said rows name place count) ≡ count
columns_all rows name place zero each = refl
columns_all rows name place (suc count) each =
    here (each place (omega arith) (omega arith))
    (columns_all rows name (place + 1) count (λ p least below. each p (omega arith) (omega arith)))
  where
    here : (column : Cells) × (rows (column_key name place) ≡ Some column)
        → length (columns_said rows name (place + 1) count) ≡ count
        → length (columns_said rows name place (suc count)) ≡ suc count
    here (column, there) later = rw there (ap (λ (n : ℕ). suc n) later)

-- a table has as many columns as its row says
pub columns_count : (rows : CatalogRows) (t : Table) → IsCatalog rows → (is : IsTable rows t)
    → length t.shape.columns ≡ said_b is.row
columns_count rows t catalog is = at (table_lawful rows catalog t.name is.row is.there)
  where
    at : IsTableRow rows t.name is.row → length t.shape.columns ≡ said_b is.row
    at lawful =
        let most = lawful.most in
        let few : count_said is.row ≡ said_b is.row = omega arith in
        ap (λ (h : Shape). length h.columns) (sym (some_shape _ t.shape is.shape))
        ∙ (columns_all rows t.name 0 (count_said is.row)
        (λ p least below. lawful.columns p (omega arith)) ∙ few)

each_small : (rows : CatalogRows) (tables : List Table) → IsCatalog rows
    → EachTable (IsTable rows) tables
    → EachTable (λ t. length t.shape.columns ≤ MOST_COLUMNS) tables
each_small rows [] catalog each = tt
each_small rows (t ∷ ts) catalog each =
    (small each.0, each_small rows ts catalog each.1)
  where
    small : IsTable rows t → length t.shape.columns ≤ MOST_COLUMNS
    small is = rw (columns_count rows t catalog is)
        (table_lawful rows catalog t.name is.row is.there).most

-- each table has at most 64 columns
pub tables_are_small : (rows : CatalogRows) (tables : List Table) → AreTables rows tables
    → EachTable (λ t. length t.shape.columns ≤ MOST_COLUMNS) tables
tables_are_small rows tables are = each_small rows tables are.lawful are.each

-- ---- where no two rows have one key, a bad row refutes the catalog

-- a row of a list has its key in the list
key_at : (rows : List Cells) (at : ℕ) → at < length rows
    → HasKey rows (row_key (get_or rows at []))
key_at [] at below = absurd (omega arith)
key_at (first ∷ rows) zero below = inl refl
key_at (first ∷ rows) (suc at) below = inr (key_at rows at (omega arith))

-- where no two rows have one key, the row at a place is the first of its key
pub own_row : (rows : List Cells) → HaveOwnKeys rows → (at : ℕ) → at < length rows
    → by_key rows (row_key (get_or rows at [])) ≡ Some (get_or rows at [])
own_row [] own at below = absurd (omega arith)
own_row (first ∷ rows) own zero below = rw (same_key_self (row_key first)) refl
own_row (first ∷ rows) own (suc at) below =
    later (key_at rows at (omega arith)) (own_row rows own.1 at (omega arith))
  where
    later : HasKey rows (row_key (get_or rows at []))
        → by_key rows (row_key (get_or rows at [])) ≡ Some (get_or rows at [])
        → by_key (first ∷ rows) (row_key (get_or rows at [])) ≡ Some (get_or rows at [])
    later has is = rw (same_key_other (row_key first) (row_key (get_or rows at []))
        (λ same. own.0 (let P : Value → Type 0 = λ k. HasKey rows k in subst P (sym same) has))) is

-- a bad row refutes that the rows of a catalog, each with a key of its own, are lawful
pub bad_refutes : (rows : List Cells) (at : ℕ) → HaveOwnKeys rows → IsFirstBad rows (BadTable at)
    → IsCatalog (by_key rows) → ⊥
bad_refutes rows at own bad catalog =
    bad.1 (catalog (row_key (get_or rows at [])) (get_or rows at []) (own_row rows own at bad.0))

-- so these rows name no tables
pub no_tables : (rows : List Cells) (at : ℕ) → HaveOwnKeys rows → IsFirstBad rows (BadTable at)
    → (tables : List Table) → AreTables (by_key rows) tables → ⊥
no_tables rows at own bad tables are = bad_refutes rows at own bad are.lawful
