use Rattle.std.specs.Prelude.{◌≡◌, ◌≤◌, ◌-◌, [], length, replicate}
use Rattle.mg_floor.specs.Boards.{lists}
use Rattle.mg_floor.proofs.board.no_answers.Given as goal

abbrev pub invariant-loop-alloc : goal.invariant-loop-alloc
invariant-loop-alloc l = (lists l.answers.items ≡ replicate (length l.answers.items) []) × (length l.answers.items ≤ l.sessions)

abbrev pub decreases-loop-alloc : goal.decreases-loop-alloc
decreases-loop-alloc l = l.sessions - length l.answers.items
