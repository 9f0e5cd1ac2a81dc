-- The changes so far, and those of the steps that are left.
use Rattle.std.proofs.Common.{◌≡◌, ◌++◌, drop}
use Rattle.mg_model.specs.Machine.{changes_by}
use Rattle.mg_plain.proofs.lookup.own_changes.Given as goal

abbrev pub invariant-loop-step : goal.invariant-loop-step
invariant-loop-step l =
    l.changes.items ++ changes_by l.by (drop l.step-index l.steps) ≡ changes_by l.by l.steps
