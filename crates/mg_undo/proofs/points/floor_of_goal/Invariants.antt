use Rattle.std.proofs.Common.{◌≡◌, drop}
use Rattle.mg_undo.specs.Undo.{from_goal}
use Rattle.mg_undo.proofs.points.floor_of_goal.Given as goal

abbrev pub invariant-loop-i : goal.invariant-loop-i
invariant-loop-i l = from_goal l.name (drop l.i l.points.items) ≡ from_goal l.name l.points.items
