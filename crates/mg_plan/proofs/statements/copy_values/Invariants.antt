use Rattle.std.proofs.Common.{◌≡◌, map, take}
use Rattle.mg_expr.specs.Trees.{tree_of}
use Rattle.mg_plan.proofs.statements.copy_values.Given as goal

abbrev pub invariant-loop-value : goal.invariant-loop-value
invariant-loop-value l = map tree_of l.copied.items ≡ map tree_of (take l.value-index l.values)
