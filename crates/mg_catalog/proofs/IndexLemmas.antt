-- What adding the index of a name to those of a table adds, and how large the numbers of lawful rows are.
use Rattle.std.proofs.Common.{◌≡◌, ◌∙◌, ap, sym, refl, ℕ, ◌<◌, ◌≤◌, ◌^◌, arith, Bool, true, false, cond, List, [], ◌∷◌, ◌++◌, length, append_assoc, append-nil, Some, None, Option}
use Rattle.std.proofs.lemmas.List.{nil_from_length}
use Rattle.mg_model.specs.declared.table.Index.{Index}
use Rattle.mg_model.specs.Changes.{Cells, same_name}
use Rattle.mg_model.specs.Catalog.{CatalogRows, index_key, said_a, said_b, said_c, said_name, table_key}
use Rattle.mg_model.specs.CatalogRules.{IsCatalog}
use Rattle.mg_catalog.specs.LawfulLaws.{index_lawful, table_lawful}
use Rattle.mg_catalog.specs.TableIndexes.{index_said, indexes_among, with_index}

-- ---- one name

pub none_added : (old : List Index) (table name : List ℕ) (o : Option Cells) → o ≡ None
    → old ≡ old ++ with_index table name o []
none_added old table name o is =
    sym (ap (λ (x : Option Cells). old ++ with_index table name x []) is ∙ append-nil old)

pub other_added : (old : List Index) (table name found : List ℕ) (row : Cells) (o : Option Cells)
    → o ≡ Some row → found ≡ said_name row → same_name found table ≡ false
    → old ≡ old ++ with_index table name o []
other_added old table name found row o is named other =
    sym (ap (λ (x : Option Cells). old ++ with_index table name x []) is
    ∙ ap (λ (t : Bool). old ++ cond t (index_said name row ∷ []) [])
    (ap (λ (n : List ℕ). same_name n table) (sym named) ∙ other)
    ∙ append-nil old)

pub index_added : (old new : List Index) (table name found : List ℕ) (row : Cells) (o : Option Cells)
    (i : Index) → o ≡ Some row → found ≡ said_name row → same_name found table ≡ true
    → i ≡ index_said name row → new ≡ old ++ i ∷ [] → new ≡ old ++ with_index table name o []
index_added old new table name found row o i is named same made put =
    put ∙ ap (λ (x : Index). old ++ x ∷ []) made
    ∙ sym (ap (λ (x : Option Cells). old ++ with_index table name x []) is
    ∙ ap (λ (t : Bool). old ++ cond t (index_said name row ∷ []) [])
    (ap (λ (n : List ℕ). same_name n table) (sym named) ∙ same))

-- ---- one name after another

index_append : (table name : List ℕ) (o : Option Cells) (is : List Index)
    → with_index table name o [] ++ is ≡ with_index table name o is
index_append table name None is = refl
index_append table name (Some row) is = at (same_name (said_name row) table)
  where
    at : (t : Bool) → cond t (index_said name row ∷ []) [] ++ is ≡ cond t (index_said name row ∷ is) is
    at true = refl
    at false = refl

pub indexes_step : (rows : CatalogRows) (table name given : List ℕ) (rest later : List (List ℕ))
    (old new all : List Index) → given ≡ name → rest ≡ name ∷ later
    → old ++ indexes_among rows table rest ≡ all
    → new ≡ old ++ with_index table given (rows (index_key given)) []
    → new ++ indexes_among rows table later ≡ all
indexes_step rows table name given rest later old new all same front is added =
    ap (λ (xs : List Index). xs ++ indexes_among rows table later) added
    ∙ append_assoc old (with_index table given (rows (index_key given)) []) (indexes_among rows table later)
    ∙ ap (λ (xs : List Index). old ++ xs)
    (index_append table given (rows (index_key given)) (indexes_among rows table later))
    ∙ ap (λ (n : List ℕ). old ++ indexes_among rows table (n ∷ later)) same
    ∙ sym (ap (λ (ns : List (List ℕ)). old ++ indexes_among rows table ns) front) ∙ is

pub indexes_end : (rows : CatalogRows) (table : List ℕ) (rest : List (List ℕ)) (old all : List Index)
    → length rest ≡ 0 → old ++ indexes_among rows table rest ≡ all → old ≡ all
indexes_end rows table rest old all none is =
    sym (ap (λ (ns : List (List ℕ)). old ++ indexes_among rows table ns) (nil_from_length rest none)
    ∙ append-nil old) ∙ is

-- ---- the numbers of lawful rows

pub table_most : (rows : CatalogRows) → IsCatalog rows → (name : List ℕ) (row : Cells) (n : ℕ)
    → rows (table_key name) ≡ Some row → n ≡ said_b row → n ≤ 64
table_most rows catalog name row n there is =
    let most = (table_lawful rows catalog name row there).most in omega (arith, most, is)

pub table_pointer : (rows : CatalogRows) → IsCatalog rows → (name : List ℕ) (row : Cells) (n : ℕ)
    → rows (table_key name) ≡ Some row → n ≡ said_a row → n < 2 ^ 32
table_pointer rows catalog name row n there is =
    let small = (table_lawful rows catalog name row there).pointer in omega (arith, small, is)

pub table_root : (rows : CatalogRows) → IsCatalog rows → (name : List ℕ) (row : Cells) (n : ℕ)
    → rows (table_key name) ≡ Some row → n ≡ said_c row → n < 2 ^ 32
table_root rows catalog name row n there is =
    let small = (table_lawful rows catalog name row there).root in omega (arith, small, is)

pub index_column : (rows : CatalogRows) → IsCatalog rows → (name : List ℕ) (row : Cells)
    → rows (index_key name) ≡ Some row → said_b row < 2 ^ 16
index_column rows catalog name row there =
    let of_table = (index_lawful rows catalog name row there).of_table in
    let most = (table_lawful rows catalog (said_name row) of_table.0 of_table.1).most in
    omega (arith, of_table.2, most)
