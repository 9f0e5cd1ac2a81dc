use Rattle.std.proofs.Common.{◌≡◌, length}
use Rattle.mg_undo.specs.Undo.{from_goal}
use Rattle.mg_undo.proofs.points.drop_to_goal.Given as goal

abbrev pub invariant-loop-point : goal.invariant-loop-point
invariant-loop-point l = from_goal l.name l.points.items ≡ from_goal l.name l.initial.points.items

abbrev pub decreases-loop-point : goal.decreases-loop-point
decreases-loop-point l = length l.points.items
