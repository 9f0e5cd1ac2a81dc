-- Totals over the rows that a SELECT finds.
use Rattle.std.specs.Prelude.{ℤ, pos, ◌+ℤ◌, List, [], ◌∷◌, length, Option, Some, None}
use Rattle.mg_value.specs.declared.value.Value.{Value}
use Rattle.mg_value.specs.declared.value.Value.TheVariants.{Null, Int, Text}
use Rattle.mg_expr.specs.Meaning.{within}
use Rattle.mg_statements.specs.Plain.{Total, Count, SumOf}
use Rattle.mg_model.specs.Changes.{Cells}
use Rattle.mg_rows.specs.Selecting.{each_of, tree_value}

-- the numbers among values: NULL is skipped
abbrev pub numbers_in : List Value → List ℤ
numbers_in [] = []
numbers_in (Null ∷ values) = numbers_in values
numbers_in (Int n ∷ values) = n ∷ numbers_in values
numbers_in (Text text ∷ values) = numbers_in values

abbrev pub sum_of : List ℤ → ℤ
sum_of [] = pos 0
sum_of (n ∷ numbers) = n +ℤ sum_of numbers

-- the SUM of numbers: NULL where there are none, and a fault where the whole leaves 64 bits
abbrev pub summed : List ℤ → Option Value
summed [] = Some Null
summed (n ∷ numbers) = within (sum_of (n ∷ numbers))

-- the SUM of values, none where there are none
abbrev pub sum_if : Option (List Value) → Option Value
sum_if None = None
sum_if (Some values) = summed (numbers_in values)

-- a total over rows, none where it faults
abbrev pub total_over : List Cells → Total → Option Value
total_over rows Count = Some (Int (pos (length rows)))
total_over rows (SumOf t) = sum_if (each_of (tree_value t) rows)

-- the one row that a SELECT of totals answers, none where one of them faults
abbrev pub totals_over : List Total → List Cells → Option Cells
totals_over totals rows = each_of (total_over rows) totals
