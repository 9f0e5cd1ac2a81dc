use Rattle.std.proofs.Common.{◌-◌}
use Rattle.mg_collecting.specs.Passing.{HasPassed}
use Rattle.mg_collecting.proofs.passing.drop_unneeded.Given as goal

abbrev pub invariant-loop-step : goal.invariant-loop-step
invariant-loop-step g l = HasPassed g.D.Disk.meaning l.fn.store l.store (g.S.States.state_of l.states) l.live l.fn.rec
    l.gone l.at (l.fn.count - l.step)
