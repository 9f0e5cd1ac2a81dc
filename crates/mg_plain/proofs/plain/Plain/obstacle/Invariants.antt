-- The steps that are left decide.
use Rattle.std.proofs.Common.{◌≡◌, drop}
use Rattle.mg_model.specs.Answers.{newest_by, can_hinder, changes_key, obstacle}
use Rattle.mg_plain.specs.Kept.{kept}
use Rattle.mg_plain.specs.Keeping.{told_in}
use Rattle.mg_plain.proofs.plain.Plain.obstacle.Given as goal

abbrev pub invariant-loop-step : goal.invariant-loop-step
invariant-loop-step l =
    (newest_by (can_hinder (told_in (kept l.self)) l.t) (changes_key l.table l.key) (drop l.step-index l.step-items)
    ≡ obstacle (told_in (kept l.self)) l.t l.table l.key)
    × (l.step-items ≡ l.self.steps.items)
