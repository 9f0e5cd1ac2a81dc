-- The step at a place decides, or those behind it do.
use Rattle.std.proofs.Common.{◌∙◌, sym, ap, List}
use Rattle.mg_model.specs.declared.change.Step.{Step}
use Rattle.mg_model.specs.Answers.{newest_by, can_hinder, changes_key}
use Rattle.mg_plain.specs.Keeping.{told_in}
use Rattle.mg_plain.specs.Kept.{kept}
use Rattle.mg_plain.proofs.NewestLemmas.{newest_here, newest_unable, newest_idle, newest_end}
use Rattle.mg_plain.proofs.plain.Plain.obstacle.Goals.{else-can_hinder-via-then-can_hinder+else-changes_key, else-can_hinder-via-else-can_hinder}
use Rattle.mg_plain.proofs.plain.Plain.obstacle.Goals as goal

pub loop-step-init : goal.loop-step-init
loop-step-init c =
    let who = can_hinder (told_in (kept c.args.self.now)) c.args.t in
    let what = changes_key c.args.table.now c.args.key.now in (
      ap (λ (steps : List Step). newest_by who what steps) c.deref-step-items.ensures.value,
      c.deref-step-items.ensures.value,
    )

pub loop-step-preserved : goal.loop-step-preserved
loop-step-preserved c =
    let who = can_hinder (told_in (kept c.args.self.now)) c.args.t in
    let what = changes_key c.args.table.now c.args.key.now in
    elim c.else-can_hinder.branch [
      | else-can_hinder-via-then-can_hinder+else-changes_key w ↦ (
        newest_idle who what c.deref-step-items.result.now c.loop-step.step-index c.step-item.result
            c.loop-step-test.true c.step-item.is (sym c.can_hinder.ensures ∙ w.if-can_hinder.true)
            (sym w.changes_key.ensures ∙ w.if-changes_key.false) ∙ c.loop-step.invariant.0,
        c.loop-step.invariant.1,
      )
      | else-can_hinder-via-else-can_hinder w ↦ (
        newest_unable who what c.deref-step-items.result.now c.loop-step.step-index c.step-item.result
            c.loop-step-test.true c.step-item.is (sym c.can_hinder.ensures ∙ w.if-can_hinder.false)
            ∙ c.loop-step.invariant.0,
        c.loop-step.invariant.1,
      )
    ]

pub returns-then-changes_key : goal.returns-then-changes_key
returns-then-changes_key c =
    let who = can_hinder (told_in (kept c.args.self.now)) c.args.t in
    let what = changes_key c.args.table.now c.args.key.now in
    sym (newest_here who what c.deref-step-items.result.now c.loop-step.step-index c.step-item.result
    c.loop-step-test.true c.step-item.is (sym c.can_hinder.ensures ∙ c.if-can_hinder.true)
    (sym c.changes_key.ensures ∙ c.if-changes_key.true)) ∙ c.loop-step.invariant.0

pub returns : goal.returns
returns c =
    let who = can_hinder (told_in (kept c.args.self.now)) c.args.t in
    let what = changes_key c.args.table.now c.args.key.now in
    sym (newest_end who what c.deref-step-items.result.now c.loop-step.step-index c.loop-step-test.false)
    ∙ c.loop-step.invariant.0
