use Rattle.std.proofs.Common.{◌≡◌, ◌++◌, replicate}
use Rattle.mg_value.specs.declared.value.Value.TheVariants.{Null}
use Rattle.mg_rowcode.proofs.row.push_nulls.Given as goal

abbrev pub invariant-loop : goal.invariant-loop
invariant-loop l = l.values.items ≡ l.initial.values.items ++ replicate l.counter Null
