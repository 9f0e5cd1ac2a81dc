-- The verdict on the obstacle.
use Rattle.std.proofs.Common.{◌∙◌, ap, List, ℕ}
use Rattle.mg_model.specs.declared.answer.Answer.TheVariants.{Fine}
use Rattle.mg_plain.specs.Keeping.{told_in}
use Rattle.mg_plain.specs.Kept.{kept}
use Rattle.mg_model.specs.Answers.{obstacle}
use Rattle.mg_plain.proofs.AnswerLemmas.{past_some}
use Rattle.mg_plain.proofs.plain.Plain.answer_key.Goals as goal

pub returns-in-Some : goal.returns-in-Some
returns-in-Some c =
    c.verdict.ensures ∙ past_some (told_in (kept c.args.self.now)) c.args.t c.in-Some.by
    (obstacle (told_in (kept c.args.self.now)) c.args.t c.args.table.now c.args.key.now) Fine
    (c.in-Some.ensures ∙ ap (λ (name : List ℕ). obstacle (told_in (kept c.args.self.now)) c.args.t name c.args.key.now) c.as_slice.ensures.bytes)
