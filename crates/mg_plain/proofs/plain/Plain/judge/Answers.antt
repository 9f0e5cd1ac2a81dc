-- Each kind of event has its answer.
use Rattle.std.proofs.Common.{◌≡◌, sym, subst}
use Rattle.std.specs.Result.{IfOk}
use Rattle.mg_model.specs.declared.event.Event.{Event}
use Rattle.mg_model.specs.Answers.{answer_by, answer_of}
use Rattle.mg_plain.specs.Keeping.{told_in}
use Rattle.mg_plain.specs.Kept.{kept}
use Rattle.mg_plain.proofs.plain.Plain.judge.Goals as goal

pub returns-in-Insert : goal.returns-in-Insert
returns-in-Insert c =
    subst (λ (e : Event). IfOk c.answer_of-in-Insert.result (λ a. a ≡ answer_by (told_in (kept c.args.self.now)) e)) (sym c.in-Insert.is)
    (subst (λ (e : Event). IfOk c.answer_of-in-Insert.result (λ a. a ≡ answer_of (told_in (kept c.args.self.now)) c.in-Insert.t.0 e)) c.in-Insert.is c.answer_of-in-Insert.ensures)
