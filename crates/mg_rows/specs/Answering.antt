-- What a bound SELECT answers of the rows that it found.
use Rattle.std.specs.Prelude.{◌≡◌, ℕ, List, [], ◌∷◌, get_or, Option, Some, None, Result, Ok, Err}
use Rattle.mg_expr.specs.declared.fault.EvalFault.{EvalFault}
use Rattle.mg_expr.specs.declared.fault.EvalFault.TheVariants as evals
use Rattle.mg_statements.specs.declared.statement.Sorted.{Sorted}
use Rattle.mg_statements.specs.Plain.{Total, Plain, Totals, Select}
use Rattle.mg_model.specs.Changes.{Cells}
use Rattle.mg_rows.specs.declared.ordering.OrderBy.{OrderBy}
use Rattle.mg_rows.specs.Selecting.{Selects}
use Rattle.mg_rows.specs.Totals.{totals_over}

-- the order of a SELECT: its column is at the one place that its bound statement has
abbrev pub order_of : Option Sorted → List ℕ → Option OrderBy
order_of None places = None
order_of (Some sorted) places =
    Some (record { place = get_or places 0 0; descending = sorted.descending })

-- the one row of a SELECT of totals, none where one of them faults
abbrev pub TotalsAnswer : List Total → List Cells → Result (List Cells) EvalFault → Type 0
TotalsAnswer totals rows (Ok given) = (row : Cells) × (totals_over totals rows ≡ Some row) × (given ≡ row ∷ [])
TotalsAnswer totals rows (Err evals.Arithmetic) = totals_over totals rows ≡ None
TotalsAnswer totals rows (Err evals.Memory) = Unit {0}

-- what a bound SELECT gives of the rows that it found
abbrev pub Answers : Plain → List ℕ → ℕ → List Cells → Result (List Cells) EvalFault → Type 0
Answers (Totals table totals filter) places key rows given = TotalsAnswer totals rows given
Answers (Select table values filter sorted) places key rows given =
    Selects values (order_of sorted places) key rows given
Answers s places key rows given = ⊥
