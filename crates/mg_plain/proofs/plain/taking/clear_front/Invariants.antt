-- What is left to clear makes the same.
use Rattle.std.proofs.Common.{◌≡◌, ◌≤◌, length}
use Rattle.mg_plain.specs.TakenBack.{cleared}
use Rattle.mg_plain.proofs.plain.taking.clear_front.Given as goal

abbrev pub invariant-loop-left : goal.invariant-loop-left
invariant-loop-left l =
    (cleared l.by l.left l.steps.items ≡ cleared l.by l.count l.fn.steps.items) × (l.left ≤ length l.steps.items)

abbrev pub decreases-loop-left : goal.decreases-loop-left
decreases-loop-left l = l.left
