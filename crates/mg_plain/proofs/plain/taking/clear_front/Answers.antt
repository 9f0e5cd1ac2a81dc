-- One step is cleared.
use Rattle.std.proofs.Common.{◌≡◌, ◌∙◌, ◌+◌, ◌-◌, ap, ℕ, arith}
use Rattle.mg_plain.specs.TakenBack.{cleared}
use Rattle.mg_plain.proofs.TakenBackLemmas.{cleared_one, one_long}
use Rattle.mg_plain.proofs.plain.taking.clear_front.Goals as goal

pub loop-left-preserved : goal.loop-left-preserved
loop-left-preserved c =
    let left = c.loop-left.left in
    let within = c.loop-left.invariant.1 in
    let some = c.loop-left-test.true in
    let same : left - 1 + 1 ≡ left = omega arith in (
      ap (cleared c.args.by (left - 1)) c.clear_one.ensures
          ∙ (cleared_one c.args.by (left - 1) c.loop-left.steps.items (omega arith)
          ∙ (ap (λ (m : ℕ). cleared c.args.by m c.loop-left.steps.items) same ∙ c.loop-left.invariant.0)),
      rw c.clear_one.ensures (one_long c.args.by (left - 1) c.loop-left.steps.items (omega arith)),
    )
