-- The rows that a SELECT of expressions answers.
use Rattle.std.specs.Prelude.{◌≡◌, ℕ, List, [], ◌∷◌, Option, Some, None, Result, Ok, Err}
use Rattle.mg_expr.specs.declared.fault.EvalFault.{EvalFault}
use Rattle.mg_expr.specs.declared.fault.EvalFault.TheVariants as faults
use Rattle.mg_expr.specs.Trees.{Tree}
use Rattle.mg_expr.specs.Meaning.{value_in, says}
use Rattle.mg_model.specs.Changes.{Cells}
use Rattle.mg_value.specs.declared.value.Value.{Value}
use Rattle.mg_rows.specs.declared.ordering.OrderBy.{OrderBy}
use Rattle.mg_rows.specs.Orders.{column_cmp, AreSorted}

-- one in front of others, where all are there
abbrev pub with_front : {A : Type 0} → Option A → Option (List A) → Option (List A)
with_front None others = None
with_front (Some one) None = None
with_front (Some one) (Some others) = Some (one ∷ others)

-- what each of several things gives, in their order; none where one of them gives nothing
abbrev pub each_of : {A B : Type 0} → (A → Option B) → List A → Option (List B)
each_of f [] = Some []
each_of f (x ∷ xs) = with_front (f x) (each_of f xs)

-- the value of an expression at a row, none where its arithmetic faults
abbrev pub tree_value : Tree → Cells → Option Value
tree_value t row = value_in (says t row)

-- the values of several expressions at a row, none where one of them faults
abbrev pub each_value : List Tree → Cells → Option Cells
each_value ts row = each_of (λ t. tree_value t row) ts

-- what a SELECT gives of a row: the values of its expressions, or for `*` the whole row
abbrev pub selected : Option (List Tree) → Cells → Option Cells
selected None row = Some row
selected (Some ts) row = each_value ts row

-- what it gives of each of several rows, none where it faults at one of them
abbrev pub each_selected : Option (List Tree) → List Cells → Option (List Cells)
each_selected values rows = each_of (selected values) rows

-- the rows found, in the order of a SELECT: without ORDER BY as they were found
abbrev pub IsInOrder : Option OrderBy → ℕ → List Cells → List Cells → Type 0
IsInOrder None key found sorted = sorted ≡ found
IsInOrder (Some by) key found sorted = AreSorted (column_cmp by key) found sorted

-- the rows that are answered: those found, in the SELECT's order, and of each what it gives
pub record IsSelection (values : Option (List Tree)) (by : Option OrderBy) (key : ℕ)
    (found rows : List Cells) : Type 0 where
  pub sorted : List Cells
  pub order : IsInOrder by key found sorted
  pub gives : each_selected values sorted ≡ Some rows

-- the answer of a SELECT: these rows, and a fault of arithmetic exactly where it faults at one
abbrev pub Selects : Option (List Tree) → Option OrderBy → ℕ → List Cells
    → Result (List Cells) EvalFault → Type 0
Selects values by key found (Ok rows) = IsSelection values by key found rows
Selects values by key found (Err faults.Arithmetic) = each_selected values found ≡ None
Selects values by key found (Err faults.Memory) = Unit {0}
