use Rattle.std.proofs.Common.{◌≡◌, ◌-◌}
use Rattle.mg_model.specs.Answers.{leads_to}
use Rattle.mg_waits.specs.Waits.{edges_in}
use Rattle.mg_waits.proofs.waits.Waits.leads_within.Given as goal

-- from where the way has come to, the rest of the steps tell
abbrev pub invariant-loop-step : goal.invariant-loop-step
invariant-loop-step l =
    leads_to (edges_in l.self) (l.most - l.step) l.at l.to
    ≡ leads_to (edges_in l.self) l.most l.from l.to
