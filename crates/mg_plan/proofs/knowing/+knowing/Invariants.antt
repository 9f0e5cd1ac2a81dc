use Rattle.std.proofs.Common.{◌≡◌, drop}
use Rattle.std.specs.List.{list_all}
use Rattle.mg_plan.specs.Binding.{knows, knows_part}
use Rattle.mg_plan.proofs.knowing.+knowing.Given as goal

abbrev pub invariant-knows_each-loop-part : goal.invariant-knows_each-loop-part
invariant-knows_each-loop-part l = list_all (knows l.columns) (drop l.part-index l.parts) ≡ list_all (knows l.columns) l.parts

abbrev pub invariant-knows_parts-loop-part : goal.invariant-knows_parts-loop-part
invariant-knows_parts-loop-part l = list_all (knows_part l.columns) (drop l.part-index l.parts) ≡ list_all (knows_part l.columns) l.parts
