-- Laws of what statements compute of rows, as they are claimed.
use Rattle.std.specs.Prelude.{◌≡◌, ℕ, ◌==◌, true, false, List, [], map, filter, Option, Some, None, Ok}
use Rattle.std.specs.List.{list_any}
use Rattle.std.specs.List.Sorted.{IsPermutation}
use Rattle.mg_expr.specs.declared.expr.Expr.{Expr}
use Rattle.mg_expr.specs.Trees.{Tree}
use Rattle.mg_statements.specs.Plain.{tree_in}
use Rattle.mg_expr.specs.Typing.{sort_of}
use Rattle.mg_plan.specs.Types.{fit_places}
use Rattle.mg_value.specs.declared.shape.Column.{Column}
use Rattle.mg_value.specs.Rows.{RowFits}
use Rattle.mg_model.specs.Changes.{Cells, KeyedRows}
use Rattle.mg_model.specs.RowLaws.{IsAscending}
use Rattle.mg_model.specs.Answers.{passes}
use Rattle.mg_rows.specs.Found.{found, found_keyed, without_keys}
use Rattle.mg_rows.specs.Orders.{value_at, keyed_cmp, AreSorted}
use Rattle.mg_rows.specs.NewRows.{new_row, inserted, updated}
use Rattle.mg_rows.specs.NewRowLaws.{EachFrom}

-- rows that are visited in any order, kept and sorted by their keys are found in key order
abbrev pub FoundInAnyOrder : Type 0
FoundInAnyOrder =
    (f : Option Tree) (visited ordered kept sorted : KeyedRows)
    → IsPermutation visited ordered → IsAscending ordered
    → found_keyed f visited ≡ Some kept → AreSorted keyed_cmp kept sorted
    → found_keyed f ordered ≡ Some sorted

-- a fault at one of the rows is one in each order
abbrev pub FaultsInAnyOrder : Type 0
FaultsInAnyOrder =
    (f : Option Tree) (visited ordered : KeyedRows) → IsPermutation visited ordered
    → found_keyed f visited ≡ None → found_keyed f ordered ≡ None

-- the rows that are found are the same without their keys
abbrev pub FoundWithoutKeys : Type 0
FoundWithoutKeys =
    (f : Option Tree) (rows : KeyedRows)
    → found f (map (λ r. r.1) rows) ≡ without_keys (found_keyed f rows)

-- what is found is what the machine answers to a search with this filter
abbrev pub FoundAsAnswered : Type 0
FoundAsAnswered =
    (e : Option Expr) (rows kept : List Cells) → found (tree_in e) rows ≡ Some kept
    → filter (passes e) rows ≡ kept

-- the row that an INSERT makes fits the columns, where its expressions fit those at their places
abbrev pub InsertedFits : Type 0
InsertedFits =
    (columns : List Column) (places : List ℕ) (ts : List Tree) (made : Cells)
    → fit_places columns places (map (λ t. sort_of t []) ts) ≡ true
    → inserted columns places ts ≡ Ok made → RowFits columns made

-- a row that an UPDATE makes fits the columns, where the old one does too
abbrev pub UpdatedFits : Type 0
UpdatedFits =
    (columns : List Column) (places : List ℕ) (ts : List Tree) (row made : Cells)
    → RowFits columns row → fit_places columns places (map (λ t. sort_of t columns) ts) ≡ true
    → new_row columns places ts row ≡ Ok made → RowFits columns made

-- it has its old key, where no column at the key's place is set
abbrev pub KeyStays : Type 0
KeyStays =
    (columns : List Column) (places : List ℕ) (ts : List Tree) (key : ℕ) (row made : Cells)
    → list_any (λ p. p == key) places ≡ false → new_row columns places ts row ≡ Ok made
    → value_at key made ≡ value_at key row

-- an UPDATE makes a row of each of the old ones, in their order
abbrev pub UpdatedEach : Type 0
UpdatedEach =
    (columns : List Column) (places : List ℕ) (ts : List Tree) (rows made : List Cells)
    → updated columns places ts rows ≡ Ok made
    → EachFrom (λ row made. new_row columns places ts row ≡ Ok made) rows made
