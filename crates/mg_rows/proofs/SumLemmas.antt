-- A sum over rows, as it is added up one by one.
use Rattle.std.proofs.Common.{ℤ, ◌+ℤ◌, List, Option, Some, None}
use Rattle.mg_value.specs.declared.value.Value.{Value}
use Rattle.mg_expr.specs.Meaning.{within}
use Rattle.mg_rows.specs.Totals.{numbers_in, sum_of, summed}

-- the sum of the numbers so far, if there are any, and of others
abbrev pub summed_from : Option ℤ → List ℤ → Option Value
summed_from None numbers = summed numbers
summed_from (Some sum) numbers = within (sum +ℤ sum_of numbers)

abbrev pub sum_rest : Option ℤ → Option (List Value) → Option Value
sum_rest sum None = None
sum_rest sum (Some values) = summed_from sum (numbers_in values)
