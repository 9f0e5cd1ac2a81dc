use Rattle.std.specs.Prelude.{◌≡◌, ◌++◌, length}
use Rattle.mg_floor.specs.Scripts.{own_of}
use Rattle.mg_floor.proofs.lines.own_lines.Given as goal

abbrev pub invariant-loop-line : goal.invariant-loop-line
invariant-loop-line l = l.own.items ++ own_of l.session.0 l.rest ≡ own_of l.session.0 l.lines

abbrev pub decreases-loop-line : goal.decreases-loop-line
decreases-loop-line l = length l.rest
