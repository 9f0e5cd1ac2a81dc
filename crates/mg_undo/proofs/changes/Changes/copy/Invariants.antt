use Rattle.std.proofs.Common.{◌≡◌, ◌≤◌, drop, length}
use Rattle.mg_undo.proofs.changes.Changes.copy.Given as goal

-- the oldest changes are copied
abbrev pub invariant-loop-left : goal.invariant-loop-left
invariant-loop-left l = (l.copy ≡ drop l.left l.fn.self) × (l.left ≤ length l.fn.self)

abbrev pub decreases-loop-left : goal.decreases-loop-left
decreases-loop-left l = l.left
