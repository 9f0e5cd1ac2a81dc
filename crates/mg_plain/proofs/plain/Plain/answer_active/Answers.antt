-- Each kind of event has its answer.
use Rattle.std.proofs.Common.{◌≡◌, sym, subst}
use Rattle.std.specs.Result.{IfOk}
use Rattle.mg_value.specs.declared.value.Value.{Value}
use Rattle.mg_model.specs.declared.event.Event.{Event}
use Rattle.mg_model.specs.Answers.{answer_active, answer_insert, answer_give}
use Rattle.mg_plain.specs.Keeping.{told_in}
use Rattle.mg_plain.specs.Kept.{kept}
use Rattle.mg_plain.proofs.plain.Plain.answer_active.Goals as goal

pub returns-in-Claim : goal.returns-in-Claim
returns-in-Claim c =
    subst (λ (e : Event). IfOk c.answer_claim.result (λ a. a ≡ answer_active (told_in (kept c.args.self.now)) c.args.t e)) (sym c.in-Claim.is) c.answer_claim.ensures

pub returns-in_ok-key-in-Insert : goal.returns-in_ok-key-in-Insert
returns-in_ok-key-in-Insert c =
    subst (λ (e : Event). IfOk c.answer_insert.result (λ a. a ≡ answer_active (told_in (kept c.args.self.now)) c.args.t e)) (sym c.in-Insert.is)
    (subst (λ (key : Value). IfOk c.answer_insert.result (λ a. a ≡ answer_insert (told_in (kept c.args.self.now)) c.args.t c.in-Insert.table key)) c.in_ok-key-in-Insert.ensures c.answer_insert.ensures)

pub returns-in-Change : goal.returns-in-Change
returns-in-Change c =
    subst (λ (e : Event). IfOk c.answer_give.result (λ a. a ≡ answer_active (told_in (kept c.args.self.now)) c.args.t e)) (sym c.in-Change.is)
    (subst (λ (key : Value). IfOk c.answer_give.result (λ a. a ≡ answer_give (told_in (kept c.args.self.now)) c.args.t c.in-Change.table key)) c.value.ensures.value c.answer_give.ensures)

pub returns-in-Erase : goal.returns-in-Erase
returns-in-Erase c =
    subst (λ (e : Event). IfOk c.answer_give-in-Erase.result (λ a. a ≡ answer_active (told_in (kept c.args.self.now)) c.args.t e)) (sym c.in-Erase.is)
    (subst (λ (key : Value). IfOk c.answer_give-in-Erase.result (λ a. a ≡ answer_give (told_in (kept c.args.self.now)) c.args.t c.in-Erase.table key)) c.value-in-Erase.ensures.value c.answer_give-in-Erase.ensures)
