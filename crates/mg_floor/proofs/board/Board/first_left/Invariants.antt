use Rattle.std.specs.Prelude.{◌<◌, ◌≤◌, ℕ, [], get_or, length}
use Rattle.mg_floor.proofs.board.Board.first_left.Given as goal

-- each session before has passed all its lines
abbrev pub invariant-loop-session : goal.invariant-loop-session
invariant-loop-session l = (k : ℕ) → k < l.session → length (get_or l.self.scripts.items k []) ≤ get_or l.self.places.items k 0
