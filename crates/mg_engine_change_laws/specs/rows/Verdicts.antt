-- What a writer is told of who is in its way, once its own wait is over: it is what the history machine answers.
use Rattle.std.proofs.Common.{◌≡◌, ◌≢◌, ◌⊎◌, inl, inr, ℕ, Bool, true, false, Option, None, Some, sym, ap, ◌∙◌, subst}
use Rattle.std.proofs.lemmas.Bool.{cases_eq}
use Rattle.mg_base.specs.declared.numbers.TxNo.{TxNo}
use Rattle.mg_base.specs.declared.transaction.TxState.{TxState}
use Rattle.mg_base.specs.declared.transaction.TxState.TheVariants.{Active, Committed, Dead, Limbo}
use Rattle.mg_model.specs.WaitLaws.{Leads, arrived, goes_on}
use Rattle.mg_model.specs.declared.answer.Answer.TheVariants.{No}
use Rattle.mg_model.specs.declared.refusal.Refusal.{Refusal}
use Rattle.mg_model.specs.declared.refusal.Refusal.TheVariants.{Memory}
use Rattle.mg_model.specs.Machine.{waited_on}
use Rattle.mg_waits.specs.Machine.{answer_of}
use Rattle.mg_waits.specs.Waits.{Edges, IsVerdict, NowWaits}
use Rattle.mg_waits.specs.declared.verdict.Verdict.{Verdict}
use Rattle.mg_waits.specs.declared.verdict.Verdict.TheVariants as verdicts
use Rattle.mg_core.specs.declared.parts.Core.{Core}
use Rattle.mg_core.specs.Obstacles.{NotesWait, TellsVerdict}
use Rattle.mg_engine_change_laws.specs.rows.Stops.{IsPlain}

-- ---- a wait that is over

module _ (old new : Edges) (t : ℕ) (over : NowWaits old new t None) where
  -- a way to a transaction does not go on from it
  leads_before : (u : ℕ) → Leads new t u → Leads old t u
  leads_before u (arrived is) = arrived is
  leads_before u (goes_on v next more) = at (cases_eq u t) (leads_before v more)
    where
      at : (u ≡ t) ⊎ (u ≢ t) → Leads old t v → Leads old t u
      at (inl same) rest = arrived same
      at (inr ne) rest = goes_on v (sym (over.others u ne) ∙ next) rest

  leads_after : (u : ℕ) → Leads old t u → Leads new t u
  leads_after u (arrived is) = arrived is
  leads_after u (goes_on v next more) = at (cases_eq u t) (leads_after v more)
    where
      at : (u ≡ t) ⊎ (u ≢ t) → Leads new t v → Leads new t u
      at (inl same) rest = arrived same
      at (inr ne) rest = goes_on v (over.others u ne ∙ next) rest

  -- so the verdict is the same before
  pub verdict_before : (by : ℕ) (state : TxState) (wait : Bool) (verdict : Option Verdict)
      → IsVerdict new t by state wait verdict → IsVerdict old t by state wait verdict
  verdict_before by Committed wait verdict is = is
  verdict_before by Limbo wait verdict is = is
  verdict_before by Dead wait verdict is = is
  verdict_before by Active false verdict is = is
  verdict_before by Active true verdict (inl (is, leads)) = inl (is, leads_before by leads)
  verdict_before by Active true verdict (inr (is, none)) = inr (is, λ leads. none (leads_after by leads))

-- ---- what is told

-- a verdict is told by its answer, or memory is wanting to note the wait
pub told_answer : {D : Type 0} (old new : Core D) (t : ℕ) (by : TxNo) (verdict : Verdict) (refusal : Refusal)
    → TellsVerdict old new t by verdict refusal
    → (No refusal ≡ answer_of by.0 (Some verdict)) ⊎ (refusal ≡ Memory)
told_answer old new t by verdicts.Update refusal told = inl (ap No told.0)
told_answer old new t by verdicts.Lock refusal told = inl (ap No told.0)
told_answer old new t by verdicts.Wait refusal (inl notes) = inl (ap No notes.is)
told_answer old new t by verdicts.Wait refusal (inr told) = inr told.0
told_answer old new t by verdicts.Deadlock refusal told = inl (ap No told.0)
told_answer old new t by verdicts.Limbo refusal told = inl (ap No told.0)

-- nothing has changed but that the wait is noted, where that is the answer
pub told_notes : {D : Type 0} (old new : Core D) (t : ℕ) (by : TxNo) (verdict : Verdict) (refusal : Refusal)
    → TellsVerdict old new t by verdict refusal
    → (new ≡ old) × (waited_on (No refusal) ≡ None)
    ⊎ NotesWait old new t by refusal × (waited_on (No refusal) ≡ Some by.0)
told_notes old new t by verdicts.Update refusal told = inl (told.1, ap (λ (r : Refusal). waited_on (No r)) told.0)
told_notes old new t by verdicts.Lock refusal told = inl (told.1, ap (λ (r : Refusal). waited_on (No r)) told.0)
told_notes old new t by verdicts.Wait refusal (inl notes) =
    inr (notes, ap (λ (r : Refusal). waited_on (No r)) notes.is)
told_notes old new t by verdicts.Wait refusal (inr told) =
    inl (told.1, ap (λ (r : Refusal). waited_on (No r)) told.0)
told_notes old new t by verdicts.Deadlock refusal told = inl (told.1, ap (λ (r : Refusal). waited_on (No r)) told.0)
told_notes old new t by verdicts.Limbo refusal told = inl (told.1, ap (λ (r : Refusal). waited_on (No r)) told.0)

-- what is told comes of no fault
pub told_plain : {D : Type 0} (old new : Core D) (t : ℕ) (by : TxNo) (verdict : Verdict) (refusal : Refusal)
    → TellsVerdict old new t by verdict refusal → IsPlain refusal
told_plain old new t by verdicts.Update refusal told = subst IsPlain (sym told.0) tt
told_plain old new t by verdicts.Lock refusal told = subst IsPlain (sym told.0) tt
told_plain old new t by verdicts.Wait refusal (inl notes) = subst IsPlain (sym notes.is) tt
told_plain old new t by verdicts.Wait refusal (inr told) = subst IsPlain (sym told.0) tt
told_plain old new t by verdicts.Deadlock refusal told = subst IsPlain (sym told.0) tt
told_plain old new t by verdicts.Limbo refusal told = subst IsPlain (sym told.0) tt
