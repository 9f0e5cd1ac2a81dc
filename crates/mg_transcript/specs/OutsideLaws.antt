-- Refusals that come from outside, and that no event need carry.
use Rattle.std.specs.Prelude.{◌≡◌, ℕ, true, false, Some, refl}
use Rattle.std.proofs.Common.{◌∙◌, ap, sym}
use Rattle.std.proofs.lemmas.Bool.{false≢true}
use Rattle.mg_base.specs.declared.transaction.TxState.TheVariants.{Active}
use Rattle.mg_model.specs.declared.answer.Answer.TheVariants.{No}
use Rattle.mg_model.specs.declared.opening.Opening.{Opening}
use Rattle.mg_model.specs.declared.refusal.Refusal.{Refusal}
use Rattle.mg_model.specs.declared.refusal.Refusal.TheVariants.{DatabaseFull, NotActive}
use Rattle.mg_model.specs.Answers.{is_active}
use Rattle.mg_model.specs.History.{Entries}
use Rattle.mg_model.specs.Legal.{is_outer}
use Rattle.mg_model.specs.Machine.{state_of}
use Rattle.mg_records.specs.Adding.{IsRefused}
use Rattle.mg_records.specs.Asking.{TakesNothing}
use Rattle.mg_transcript.specs.Steps.{is_outside}

-- a call of an active transaction that gives no event is refused by nothing else
pub refused_outside : (o : Opening) (h : Entries) (t : ℕ) (refusal : Refusal) → state_of o h t ≡ Active
    → IsRefused o h t refusal → is_outside refusal ≡ true
refused_outside o h t (NotActive state) active is =
    absurd (false≢true (sym is.1 ∙ ap is_active (sym is.0 ∙ active)))
refused_outside o h t (DatabaseFull limit) active never = absurd never
refused_outside o h t refusal active is = is

-- nor is one from outside that takes no page
pub outer_outside : (refusal : Refusal) → is_outer (No refusal) ≡ true → TakesNothing (Some refusal)
    → is_outside refusal ≡ true
outer_outside (DatabaseFull limit) outer never = absurd never
outer_outside refusal outer nothing = outer
