-- A commit is answered Ok where its transaction is active and no page write fails.
use Rattle.std.proofs.Common.{◌≡◌, ◌∙◌, inl, inr, ℕ, Ok, Err, refl, sym, ap, subst}
use Rattle.std.proofs.lemmas.Bool.{false≢true}
use Rattle.std.proofs.lemmas.Option.{none-some}
use Rattle.mg_base.specs.declared.numbers.TxNo.{TxNo}
use Rattle.mg_base.specs.declared.transaction.TxState.{TxState}
use Rattle.mg_base.specs.declared.transaction.TxState.TheVariants.{Active}
use Rattle.mg_model.specs.declared.answer.Answer.{Answer}
use Rattle.mg_model.specs.declared.answer.Answer.TheVariants.{Fine, No}
use Rattle.mg_model.specs.declared.event.Event.{Event}
use Rattle.mg_model.specs.declared.event.Event.TheVariants.{Commit, Rollback}
use Rattle.mg_model.specs.declared.opening.Opening.{Opening}
use Rattle.mg_model.specs.declared.refusal.Refusal.TheVariants as refusals
use Rattle.mg_model.specs.Answers.{answer, if_active, is_active}
use Rattle.mg_model.specs.History.{Entries, entry}
use Rattle.mg_model.specs.Legal.{IsLawful}
use Rattle.mg_model.specs.Machine.{state_of}
use Rattle.mg_records.specs.Answered.{EndsAreAnswered, StepsAreAnswered}
use Rattle.mg_records.specs.Meaning.{Means}

-- the answer is no refusal
abbrev IsNoRefusal : Answer → Type 0
IsNoRefusal (No refusal) = ⊥
IsNoRefusal answer = Unit {0}

module _ {R P : Type 0} (m : Means R P) where
  pub steps_answered : {T : Type 0} → StepsAreAnswered m T
  steps_answered old new o h t (Ok x) well answers takes cause = refl
  steps_answered old new o h t (Err (refusals.NotActive state)) well answers takes cause =
      let is = answers o h well.stands in
      absurd (false≢true (sym is.1 ∙ ap is_active (sym is.0 ∙ well.active)))
  steps_answered old new o h t (Err (refusals.DiskWrite n)) well answers takes cause = absurd (well.steady cause.0)
  steps_answered old new o h t (Err (refusals.Offline n)) well answers takes cause =
      absurd (none-some n (sym well.online ∙ cause))
  steps_answered old new o h t (Err refusal) well answers takes cause = absurd takes

  -- an event of an active transaction that the machine answers Fine is not refused by its state
  not_refused : (o : Opening) (h : Entries) (event : Event) (t : ℕ) (state : TxState)
      → answer o h event ≡ if_active (state_of o h t) Fine → state_of o h t ≡ Active
      → IsLawful o h (entry event (No (refusals.NotActive state))) → ⊥
  not_refused o h event t state is active (inl same) =
      subst IsNoRefusal (sym (same ∙ (is ∙ ap (λ (s : TxState). if_active s Fine) active))) tt
  not_refused o h event t state is active (inr outer) = false≢true outer

  ends_answered : (event : TxNo → Event)
      → ((o : Opening) (h : Entries) (t : TxNo) → answer o h (event t) ≡ if_active (state_of o h t.0) Fine)
      → EndsAreAnswered m event
  ends_answered event is old new o h t (Ok x) reserves well adds takes cause = refl
  ends_answered event is old new o h t (Err (refusals.NotActive state)) reserves well adds takes cause =
      absurd (not_refused o h (event t) t.0 state (is o h t) well.active (adds o h well.stands).0)
  ends_answered event is old new o h t (Err (refusals.DiskWrite n)) reserves well adds takes cause = absurd (well.steady cause.0)
  ends_answered event is old new o h t (Err (refusals.Offline n)) reserves well adds takes cause =
      absurd (none-some n (sym well.online ∙ cause))
  ends_answered event is old new o h t (Err refusal) reserves well adds takes cause = absurd (takes reserves)

  pub commits_answered : EndsAreAnswered m Commit
  commits_answered = ends_answered Commit (λ o h t. refl)

  pub rollbacks_answered : EndsAreAnswered m Rollback
  rollbacks_answered = ends_answered Rollback (λ o h t. refl)
