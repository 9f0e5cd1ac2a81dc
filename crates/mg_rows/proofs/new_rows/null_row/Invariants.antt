use Rattle.std.proofs.Common.{◌≡◌, replicate}
use Rattle.mg_value.specs.declared.value.Value.TheVariants.{Null}
use Rattle.mg_rows.proofs.new_rows.null_row.Given as goal

abbrev pub invariant-loop : goal.invariant-loop
invariant-loop l = l.values.items ≡ replicate l.index Null
