-- In a legal history who is committed outlasts a crash.
use Rattle.mg_base.specs.declared.transaction.TxState.{TxState}
use Rattle.mg_base.specs.declared.transaction.TxState.TheVariants.{Active, Committed, Dead, Limbo}
use Rattle.mg_model.specs.Answers.{answer, if_active, is_committed}
use Rattle.mg_model.specs.History.{Begins, Effect, Ends, Entries, Entry, Gives, Looks, Makes, Marks, Nothing, Saves, TakesBack, effect_of, effect_with}
use Rattle.mg_model.specs.Legal.{IsLawful, IsLegal, MayBegin, is_durable, is_fine, is_lasting, is_outer}
use Rattle.mg_model.specs.LegalLaws.{IsAllowed, lawful_is_allowed}
use Rattle.mg_model.specs.LimboLaws.{up_to_durable, up_to_durable_entry}
use Rattle.mg_model.specs.Machine.{next_number, state_after, state_of}
use Rattle.mg_model.specs.NumberLaws.{undrawn_is_dead}
use Rattle.mg_model.specs.declared.answer.Answer.{Answer}
use Rattle.mg_model.specs.declared.answer.Answer.TheVariants.{Fine, No, Rows, Tx}
use Rattle.mg_model.specs.declared.event.Event.{Event}
use Rattle.mg_model.specs.declared.event.Event.TheVariants.{Begin, Commit, Decide, Prepare, Rollback}
use Rattle.mg_model.specs.declared.opening.Opening.{Opening}
use Rattle.std.proofs.Common.{ap, arith, inl, inr, sym, ◌∙◌}
use Rattle.std.proofs.lemmas.Bool.{eqb-true, false≢true}
use Rattle.std.specs.Prelude.{Bool, [], cond, false, refl, true, ℕ, ◌&&◌, ◌==◌, ◌∷◌, ◌≡◌, ◌⊎◌}

-- an effect ends no committed transaction, and commits none
abbrev LeavesCommitted : Opening → Entries → Effect → Type 0
LeavesCommitted o h (Begins t mode) = Unit {0}
LeavesCommitted o h (Looks t) = Unit {0}
LeavesCommitted o h (Makes t table row) = Unit {0}
LeavesCommitted o h (Gives t table key row) = Unit {0}
LeavesCommitted o h (Marks t) = Unit {0}
LeavesCommitted o h (Saves t name) = Unit {0}
LeavesCommitted o h (TakesBack t point) = Unit {0}
LeavesCommitted o h (Ends t end) =
    (is_committed (state_of o h t) ≡ false) × (is_committed end ≡ false)
LeavesCommitted o h Nothing = Unit {0}

not_committed_from_fine : (s : TxState) → Fine ≡ if_active s Fine → is_committed s ≡ false
not_committed_from_fine Active is = refl
not_committed_from_fine Limbo is = refl
not_committed_from_fine Dead is = refl
not_committed_from_fine Committed is = absurd cc

passing_fine : (o : Opening) (h : Entries) (event : Event) → Fine ≡ answer o h event
    → (is_lasting event && true) ≡ false → LeavesCommitted o h (effect_with event Fine)
passing_fine o h (Rollback t) is passing = (not_committed_from_fine (state_of o h t.0) is, refl)
passing_fine o h (Prepare t) is passing = absurd (false≢true (sym passing))
passing_fine o h (Commit t) is passing = absurd (false≢true (sym passing))
passing_fine o h (Decide t commit) is passing = absurd (false≢true (sym passing))
passing_fine o h event is passing = tt

passing_tx : (o : Opening) (h : Entries) (event : Event) (t : ℕ)
    → LeavesCommitted o h (effect_with event (Tx (record { 0 = t })))
passing_tx o h (Begin session mode) t = tt
passing_tx o h event t = tt

passing_leaves : (o : Opening) (h : Entries) (e : Entry) → IsLawful o h e → is_durable e ≡ false
    → LeavesCommitted o h (effect_of e)
passing_leaves o h e lawful passing = at e.answer lawful passing
  where
    at : (said : Answer) → (said ≡ answer o h e.event) ⊎ (is_outer said ≡ true)
        → (is_lasting e.event && is_fine said) ≡ false
        → LeavesCommitted o h (effect_with e.event said)
    at Fine (inl is) passing = passing_fine o h e.event is passing
    at Fine (inr outer) passing = absurd (false≢true outer)
    at (Tx t) lawful passing = passing_tx o h e.event t.0
    at (Rows rows) lawful passing = tt
    at (No refusal) lawful passing = tt

committed_after : (o : Opening) (h : Entries) (f : Effect) (t : ℕ) → LeavesCommitted o h f
    → ((u : ℕ) → u ≡ next_number o h → state_of o h u ≡ Dead) → IsAllowed o h f
    → is_committed (state_after f t (state_of o h t)) ≡ is_committed (state_of o h t)
committed_after o h (Begins u mode) t leaves dead allowed = at (u == t) refl
  where
    at : (b : Bool) → (u == t) ≡ b
        → is_committed (cond b Active (state_of o h t)) ≡ is_committed (state_of o h t)
    at true its =
        let same : t ≡ u = sym (eqb-true u t its) in
        sym (ap is_committed (dead t (same ∙ allowed)))
    at false other = refl
committed_after o h (Ends u end) t leaves dead allowed = at (u == t) refl
  where
    at : (b : Bool) → (u == t) ≡ b
        → is_committed (cond b end (state_of o h t)) ≡ is_committed (state_of o h t)
    at true its = leaves.1
        ∙ sym (ap (λ n. is_committed (state_of o h n)) (sym (eqb-true u t its)) ∙ leaves.0)
    at false other = refl
committed_after o h f t leaves dead allowed = refl

-- an event that is not durable leaves who is committed
pub passing_keeps_committed : (o : Opening) → MayBegin o → (h : Entries) (e : Entry)
    → IsLegal o (e ∷ h) → is_durable e ≡ false → (t : ℕ)
    → is_committed (state_of o (e ∷ h) t) ≡ is_committed (state_of o h t)
passing_keeps_committed o opening h e legal passes t =
    committed_after o h (effect_of e) t (passing_leaves o h e legal.0 passes)
    (λ u is. undrawn_is_dead o opening h legal.1 u (omega arith))
    (lawful_is_allowed o h e legal.0)

-- who is committed after all durable events is who is committed
pub durable_is_committed : (o : Opening) → MayBegin o → (h : Entries) → IsLegal o h → (t : ℕ)
    → is_committed (state_of o (up_to_durable h) t) ≡ is_committed (state_of o h t)
durable_is_committed o opening [] legal t = refl
durable_is_committed o opening (e ∷ h) legal t =
    at (is_durable e) refl (durable_is_committed o opening h legal.1 t)
  where
    at : (b : Bool) → is_durable e ≡ b
        → is_committed (state_of o (up_to_durable h) t) ≡ is_committed (state_of o h t)
        → is_committed (state_of o (up_to_durable (e ∷ h)) t) ≡ is_committed (state_of o (e ∷ h) t)
    at true lasts more =
        ap (λ g. is_committed (state_of o g t)) (up_to_durable_entry e h true lasts)
    at false passes more =
        ap (λ g. is_committed (state_of o g t)) (up_to_durable_entry e h false passes)
        ∙ more ∙ sym (passing_keeps_committed o opening h e legal passes t)
