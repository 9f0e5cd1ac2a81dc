-- The machine's answer, and what is then kept.
use Rattle.std.proofs.Common.{◌≡◌, ◌∙◌, sym, ap, subst, ◌∷◌, Option, ℕ}
use Rattle.mg_base.specs.declared.numbers.TxNo.{TxNo}
use Rattle.mg_model.specs.History.{entry}
use Rattle.mg_model.specs.Answers.{Told, answer_by}
use Rattle.mg_plain.specs.Keeping.{Keeping, StandsFor, told_in, noted_in}
use Rattle.mg_plain.specs.Kept.{kept}
use Rattle.mg_plain.proofs.StandsLemmas.{told_same}
use Rattle.mg_plain.proofs.AnsweredLemmas.{stands_after}
use Rattle.mg_plain.proofs.plain.Plain.answer.Goals as goal

-- what is noted after the effect
noted_so : {of its : Option ℕ} {on its_on : Option TxNo} {k mid new : Keeping} → new ≡ noted_in of on mid
    → of ≡ its → on ≡ its_on → mid ≡ k → new ≡ noted_in its its_on k
noted_so noted its on same = noted ∙ (λ i. noted_in (its i) (on i) (same i))

pub returns-clause-stands : goal.returns-clause-stands
returns-clause-stands c = λ o h stands.
    let event = c.args.event.now in
    let given = c.in_ok-answer.answer in
    let legal : given ≡ answer_by (told_in (kept c.args.self.now)) event = c.in_ok-answer.ensures in (
      legal ∙ ap (λ (k : Told). answer_by k event) (told_same o h (kept c.args.self.now) stands),
      subst (λ (k : Keeping). StandsFor o (entry event given ∷ h) k)
          (sym (noted_so c.note.ensures c.transaction_of.ensures c.waits_by.ensures c.in_ok-take_effect.ensures.ok))
          (stands_after o h event given (kept c.args.self.now) stands legal),
    )

pub returns-clause-kept : goal.returns-clause-kept
returns-clause-kept c =
    noted_so c.note.ensures c.transaction_of.ensures c.waits_by.ensures c.in_ok-take_effect.ensures.ok
