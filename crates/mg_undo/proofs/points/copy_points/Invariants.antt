use Rattle.std.proofs.Common.{◌≡◌, ◌≤◌, drop, length}
use Rattle.mg_undo.proofs.points.copy_points.Given as goal

-- the oldest points are copied
abbrev pub invariant-loop-left : goal.invariant-loop-left
invariant-loop-left l = (l.copy.items ≡ drop l.left l.fn.points.items) × (l.left ≤ length l.fn.points.items)

abbrev pub decreases-loop-left : goal.decreases-loop-left
decreases-loop-left l = l.left
