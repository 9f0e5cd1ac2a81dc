-- The last step counts first.
use Rattle.std.proofs.Common.{◌∙◌, ap, Option, ℕ}
use Rattle.mg_model.specs.Answers.{least_from, is_open_other, changes_table}
use Rattle.mg_plain.specs.Keeping.{told_in}
use Rattle.mg_plain.specs.Kept.{kept}
use Rattle.mg_plain.proofs.KeyLemmas.{least_left}
use Rattle.mg_plain.proofs.plain.Plain.least_claimant.Goals as goal

pub loop-last-preserved : goal.loop-last-preserved
loop-last-preserved c =
    let who = is_open_other (told_in (kept c.args.self.now)) c.args.t in
    let what = changes_table c.args.table.now in
    ap (λ (least : Option ℕ). least_from who what least c.in-Some.before.now) c.with_claimant-least.ensures
    ∙ (least_left who what c.loop-last.least c.loop-last.rest.now c.in-Some.before.now c.in-Some.last.now c.in-Some.ensures.cases.0
    ∙ c.loop-last.invariant)
