use Rattle.std.specs.Prelude.{◌≡◌, ◌++◌, ◌-◌}
use Rattle.mg_floor.specs.Scripts.{cut_from}
use Rattle.mg_floor.proofs.lines.by_session.Given as goal

abbrev pub invariant-loop-session : goal.invariant-loop-session
invariant-loop-session l = l.scripts.items ++ cut_from (16 - l.session) l.session l.lines ≡ cut_from 16 0 l.lines
