-- The steps that are left decide.
use Rattle.std.proofs.Common.{◌≡◌, drop}
use Rattle.mg_plain.specs.Lookups.{change_at}
use Rattle.mg_model.specs.Machine.{changes_by}
use Rattle.mg_plain.proofs.lookup.own_change.Given as goal

abbrev pub invariant-loop-step : goal.invariant-loop-step
invariant-loop-step l = change_at (changes_by l.by (drop l.step-index l.steps)) l.table l.key ≡ change_at (changes_by l.by l.steps) l.table l.key
