-- In a legal history what is in limbo outlasts a crash with its changes.
use Rattle.std.specs.Prelude.{◌≡◌, ◌⊎◌, ℕ, ◌+◌, ◌<◌, ◌==◌, ◌&&◌, nat_lt, Bool, true, false, [], ◌∷◌, cond, refl}
use Rattle.std.proofs.Common.{sym, ◌∙◌, ap, inl, inr, arith}
use Rattle.std.proofs.lemmas.Bool.{false≢true, both_ways, ne_eqb, eqb-true, lt-ltb}
use Rattle.mg_base.specs.declared.transaction.TxState.{TxState}
use Rattle.mg_base.specs.declared.transaction.TxState.TheVariants.{Active, Limbo, Dead, Committed}
use Rattle.mg_model.specs.declared.answer.Answer.{Answer}
use Rattle.mg_model.specs.declared.answer.Answer.TheVariants.{Fine, Tx, Rows, No}
use Rattle.mg_model.specs.declared.event.Event.{Event}
use Rattle.mg_model.specs.declared.event.Event.TheVariants.{Begin, Prepare, Commit, Rollback, Decide}
use Rattle.mg_model.specs.declared.opening.Opening.{Opening}
use Rattle.mg_model.specs.History.{Entry, Entries, Effect, Begins, Looks, Makes, Gives, Marks, Saves, TakesBack, Ends, Nothing, effect_with, effect_of}
use Rattle.mg_model.specs.Machine.{next_number, state_after, state_of, is_of, own}
use Rattle.mg_model.specs.Answers.{answer, if_active}
use Rattle.mg_model.specs.Legal.{is_outer, MayBegin, IsLawful, IsLegal, is_lasting, is_fine, is_durable, durable_count, after_durable, is_limbo, durable_limbo, durable_changes}
use Rattle.mg_model.specs.Effects.{doer}
use Rattle.mg_model.specs.EntryLaws.{own_others_entry}
use Rattle.mg_model.specs.LegalLaws.{IsAllowed, lawful_is_allowed}
use Rattle.mg_model.specs.NumberLaws.{undrawn_is_dead}

-- an effect ends no transaction in limbo, and brings none to limbo
abbrev LeavesLimbo : Opening → Entries → Effect → Type 0
LeavesLimbo o h (Begins t mode) = Unit {0}
LeavesLimbo o h (Looks t) = Unit {0}
LeavesLimbo o h (Makes t table row) = Unit {0}
LeavesLimbo o h (Gives t table key row) = Unit {0}
LeavesLimbo o h (Marks t) = Unit {0}
LeavesLimbo o h (Saves t name) = Unit {0}
LeavesLimbo o h (TakesBack t point) = Unit {0}
LeavesLimbo o h (Ends t end) = (is_limbo (state_of o h t) ≡ false) × (is_limbo end ≡ false)
LeavesLimbo o h Nothing = Unit {0}

no_limbo_from_fine : (s : TxState) → Fine ≡ if_active s Fine → is_limbo s ≡ false
no_limbo_from_fine Active is = refl
no_limbo_from_fine Limbo is = absurd cc
no_limbo_from_fine Dead is = refl
no_limbo_from_fine Committed is = refl

passing_fine : (o : Opening) (h : Entries) (event : Event) → Fine ≡ answer o h event
    → (is_lasting event && true) ≡ false → LeavesLimbo o h (effect_with event Fine)
passing_fine o h (Rollback t) is passing = (no_limbo_from_fine (state_of o h t.0) is, refl)
passing_fine o h (Prepare t) is passing = absurd (false≢true (sym passing))
passing_fine o h (Commit t) is passing = absurd (false≢true (sym passing))
passing_fine o h (Decide t commit) is passing = absurd (false≢true (sym passing))
passing_fine o h event is passing = tt

passing_tx : (o : Opening) (h : Entries) (event : Event) (t : ℕ)
    → LeavesLimbo o h (effect_with event (Tx (record { 0 = t })))
passing_tx o h (Begin session mode) t = tt
passing_tx o h event t = tt

passing_leaves : (o : Opening) (h : Entries) (e : Entry) → IsLawful o h e → is_durable e ≡ false
    → LeavesLimbo o h (effect_of e)
passing_leaves o h e lawful passing = at e.answer lawful passing
  where
    at : (said : Answer) → (said ≡ answer o h e.event) ⊎ (is_outer said ≡ true)
        → (is_lasting e.event && is_fine said) ≡ false
        → LeavesLimbo o h (effect_with e.event said)
    at Fine (inl is) passing = passing_fine o h e.event is passing
    at Fine (inr outer) passing = absurd (false≢true outer)
    at (Tx t) lawful passing = passing_tx o h e.event t.0
    at (Rows rows) lawful passing = tt
    at (No refusal) lawful passing = tt

limbo_after : (o : Opening) (h : Entries) (f : Effect) (t : ℕ) → LeavesLimbo o h f
    → ((u : ℕ) → u ≡ next_number o h → state_of o h u ≡ Dead) → IsAllowed o h f
    → is_limbo (state_after f t (state_of o h t)) ≡ is_limbo (state_of o h t)
limbo_after o h (Begins u mode) t leaves dead allowed = at (u == t) refl
  where
    at : (b : Bool) → (u == t) ≡ b
        → is_limbo (cond b Active (state_of o h t)) ≡ is_limbo (state_of o h t)
    at true its =
        let same : t ≡ u = sym (eqb-true u t its) in
        sym (ap is_limbo (dead t (same ∙ allowed)))
    at false other = refl
limbo_after o h (Ends u end) t leaves dead allowed = at (u == t) refl
  where
    at : (b : Bool) → (u == t) ≡ b
        → is_limbo (cond b end (state_of o h t)) ≡ is_limbo (state_of o h t)
    at true its =
        leaves.1 ∙ sym (ap (λ n. is_limbo (state_of o h n)) (sym (eqb-true u t its)) ∙ leaves.0)
    at false other = refl
limbo_after o h f t leaves dead allowed = refl

limbo_others : (o : Opening) (h : Entries) (f : Effect) (t : ℕ) → LeavesLimbo o h f
    → ((u : ℕ) → u ≡ next_number o h → state_of o h u ≡ Dead) → IsAllowed o h f
    → is_limbo (state_of o h t) ≡ true → is_of t (doer f) ≡ false
limbo_others o h f t leaves dead allowed limbo = at f leaves allowed
  where
    apart : (u : ℕ) → is_limbo (state_of o h u) ≡ false → (u == t) ≡ false
    apart u is = ne_eqb u t (λ same. both_ways (is_limbo (state_of o h u)) is
        (ap (λ n. is_limbo (state_of o h n)) same ∙ limbo))

    at : (f : Effect) → LeavesLimbo o h f → IsAllowed o h f → is_of t (doer f) ≡ false
    at (Begins u mode) leaves allowed = apart u (ap is_limbo (dead u allowed))
    at (Looks u) leaves allowed = apart u (ap is_limbo allowed)
    at (Makes u table row) leaves allowed = apart u (ap is_limbo allowed.0)
    at (Gives u table key row) leaves allowed = apart u (ap is_limbo allowed.0)
    at (Marks u) leaves allowed = apart u (ap is_limbo allowed)
    at (Saves u name) leaves allowed = apart u (ap is_limbo allowed)
    at (TakesBack u point) leaves allowed = apart u (ap is_limbo allowed)
    at (Ends u end) leaves allowed = apart u leaves.0
    at Nothing leaves allowed = refl

-- the history up to its last durable event
abbrev pub up_to_durable : Entries → Entries
up_to_durable h = after_durable h (durable_count h)

pub up_to_durable_entry : (e : Entry) (h : Entries) (b : Bool) → is_durable e ≡ b
    → up_to_durable (e ∷ h) ≡ cond b (e ∷ h) (up_to_durable h)
up_to_durable_entry e h true lasts =
    let below : durable_count h < durable_count h + 1 = omega arith in
    let is_below : nat_lt (durable_count h) (durable_count h + 1) ≡ true =
    lt-ltb (durable_count h) (durable_count h + 1) below in
    rw lasts (rw is_below refl)
up_to_durable_entry e h false passes = rw passes refl

module _ (o : Opening) (opening : MayBegin o) where
  next_is_dead : (h : Entries) → IsLegal o h → (u : ℕ) → u ≡ next_number o h
      → state_of o h u ≡ Dead
  next_is_dead h legal u is = undrawn_is_dead o opening h legal u (omega arith)

  -- an event that is not durable leaves who is in limbo
  pub passing_keeps_limbo : (h : Entries) (e : Entry) → IsLegal o (e ∷ h) → is_durable e ≡ false
      → (t : ℕ) → is_limbo (state_of o (e ∷ h) t) ≡ is_limbo (state_of o h t)
  passing_keeps_limbo h e legal passing t =
      limbo_after o h (effect_of e) t (passing_leaves o h e legal.0 passing)
      (next_is_dead h legal.1) (lawful_is_allowed o h e legal.0)

  -- and the own changes of a transaction in limbo
  pub passing_keeps_changes : (h : Entries) (e : Entry) → IsLegal o (e ∷ h) → is_durable e ≡ false
      → (t : ℕ) → is_limbo (state_of o h t) ≡ true → own o (e ∷ h) t ≡ own o h t
  passing_keeps_changes h e legal passing t limbo =
      own_others_entry o h e t
      (limbo_others o h (effect_of e) t (passing_leaves o h e legal.0 passing)
      (next_is_dead h legal.1) (lawful_is_allowed o h e legal.0) limbo)

  -- what is in limbo after all durable events is what is in limbo
  pub durable_is_limbo : (h : Entries) → IsLegal o h → (t : ℕ)
      → durable_limbo o h (durable_count h) t ≡ is_limbo (state_of o h t)
  durable_is_limbo [] legal t = refl
  durable_is_limbo (e ∷ h) legal t = at (is_durable e) refl (durable_is_limbo h legal.1 t)
    where
      at : (b : Bool) → is_durable e ≡ b
          → is_limbo (state_of o (up_to_durable h) t) ≡ is_limbo (state_of o h t)
          → is_limbo (state_of o (up_to_durable (e ∷ h)) t) ≡ is_limbo (state_of o (e ∷ h) t)
      at true lasts more =
          ap (λ g. is_limbo (state_of o g t)) (up_to_durable_entry e h true lasts)
      at false passes more =
          ap (λ g. is_limbo (state_of o g t)) (up_to_durable_entry e h false passes)
          ∙ more ∙ sym (passing_keeps_limbo h e legal passes t)

  -- with the changes that it has
  pub durable_is_own : (h : Entries) → IsLegal o h → (t : ℕ) → is_limbo (state_of o h t) ≡ true
      → durable_changes o h (durable_count h) t ≡ own o h t
  durable_is_own [] legal t limbo = refl
  durable_is_own (e ∷ h) legal t limbo = at (is_durable e) refl (durable_is_own h legal.1 t)
    where
      at : (b : Bool) → is_durable e ≡ b
          → (is_limbo (state_of o h t) ≡ true → own o (up_to_durable h) t ≡ own o h t)
          → own o (up_to_durable (e ∷ h)) t ≡ own o (e ∷ h) t
      at true lasts more = ap (λ g. own o g t) (up_to_durable_entry e h true lasts)
      at false passes more =
          let was : is_limbo (state_of o h t) ≡ true =
          sym (passing_keeps_limbo h e legal passes t) ∙ limbo in
          ap (λ g. own o g t) (up_to_durable_entry e h false passes)
          ∙ more was ∙ sym (passing_keeps_changes h e legal passes t was)
