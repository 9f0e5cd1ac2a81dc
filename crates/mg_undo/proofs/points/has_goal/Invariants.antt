use Rattle.std.proofs.Common.{◌≡◌, drop}
use Rattle.std.specs.List.{list_any}
use Rattle.mg_undo.specs.Undo.{is_goal}
use Rattle.mg_undo.proofs.points.has_goal.Given as goal

abbrev pub invariant-loop-i : goal.invariant-loop-i
invariant-loop-i l =
    list_any (is_goal l.name) (drop l.i l.points.items) ≡ list_any (is_goal l.name) l.points.items
