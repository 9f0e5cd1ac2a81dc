use Rattle.std.proofs.Common.{◌≡◌, map, take}
use Rattle.mg_expr.specs.Trees.{tree_of, part_tree}
use Rattle.mg_plan.specs.Binding.{bound, bound_part}
use Rattle.mg_plan.proofs.binding.+binding.Given as goal

abbrev pub invariant-bind_each-loop-part : goal.invariant-bind_each-loop-part
invariant-bind_each-loop-part l = map tree_of l.bound.items ≡ map (λ t. bound t l.columns) (map tree_of (take l.part-index l.parts))

abbrev pub invariant-bind_parts-loop-part : goal.invariant-bind_parts-loop-part
invariant-bind_parts-loop-part l = map part_tree l.bound.items ≡ map (bound_part l.columns) (take l.part-index l.parts)
