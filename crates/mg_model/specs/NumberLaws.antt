-- Numbers in a legal history: what is not drawn yet has done nothing, and what has come to its end
-- does nothing more.
use Rattle.std.specs.Prelude.{◌≡◌, ◌⊎◌, ℕ, ◌<◌, ◌≤◌, ◌==◌, nat_lt, true, false, [], ◌∷◌, refl}
use Rattle.std.proofs.Common.{sym, ◌∙◌, ap, inl, inr, arith}
use Rattle.std.proofs.lemmas.Bool.{false≢true, both_ways, ne_eqb, le-ltb, cases_lt}
use Rattle.mg_base.specs.declared.transaction.TxState.{TxState}
use Rattle.mg_base.specs.declared.transaction.TxState.TheVariants.{Active, Limbo, Dead, Committed}
use Rattle.mg_model.specs.declared.opening.Opening.{Opening}
use Rattle.mg_model.specs.History.{Entry, Entries, Effect, Begins, Looks, Makes, Gives, Marks, Saves, TakesBack, Ends, Nothing, effect_of}
use Rattle.mg_model.specs.Machine.{next_after, next_number, opening_state, state_of, is_of, deeds_by, steps, own}
use Rattle.mg_model.specs.Answers.{is_committed, is_open}
use Rattle.mg_model.specs.Legal.{MayBegin, IsLegal}
use Rattle.mg_model.specs.Effects.{doer, drawn, is_its}
use Rattle.mg_model.specs.EntryLaws.{deeds_by_others_entry, own_others_entry, state_others_entry}
use Rattle.mg_model.specs.LegalLaws.{IsAllowed, lawful_is_allowed}

next_grows : (f : Effect) (n : ℕ) → n ≤ next_after f n
next_grows (Begins t mode) n = omega arith
next_grows f n = omega arith

pub next_number_grows : (o : Opening) (h : Entries) (e : Entry)
    → next_number o h ≤ next_number o (e ∷ h)
next_number_grows o h e = next_grows (effect_of e) (next_number o h)

-- a number is not the one that an effect draws: it is drawn already, or not by then
abbrev pub IsDrawnElse : ℕ → Effect → ℕ → Type 0
IsDrawnElse next f t = (t < next) ⊎ (next_after f next ≤ t)

-- after a legal history only a transaction that is active or in limbo does something
pub closed_does_nothing : (o : Opening) (h : Entries) (f : Effect) (t : ℕ) → IsAllowed o h f
    → is_open (state_of o h t) ≡ false → IsDrawnElse (next_number o h) f t
    → is_of t (doer f) ≡ false
closed_does_nothing o h f t allowed closed else_drawn = at f allowed else_drawn
  where
    open_other : (u : ℕ) → is_open (state_of o h u) ≡ true → (u == t) ≡ false
    open_other u is =
        ne_eqb u t (λ same. both_ways (is_open (state_of o h t)) closed
        (ap (λ n. is_open (state_of o h n)) (sym same) ∙ is))

    active_other : (u : ℕ) → state_of o h u ≡ Active → (u == t) ≡ false
    active_other u is = open_other u (ap is_open is)

    at : (f : Effect) → IsAllowed o h f → IsDrawnElse (next_number o h) f t
        → is_of t (doer f) ≡ false
    at (Begins u mode) allowed (inl below) = ne_eqb u t (λ same. absurd (omega arith))
    at (Begins u mode) allowed (inr above) = ne_eqb u t (λ same. absurd (omega arith))
    at (Looks u) allowed drawn = active_other u allowed
    at (Makes u table row) allowed drawn = active_other u allowed.0
    at (Gives u table key row) allowed drawn = active_other u allowed.0
    at (Marks u) allowed drawn = active_other u allowed
    at (Saves u name) allowed drawn = active_other u allowed
    at (TakesBack u point) allowed drawn = active_other u allowed
    at (Ends u end) allowed drawn = open_other u allowed.0
    at Nothing allowed drawn = refl

module _ (o : Opening) (opening : MayBegin o) where
  undrawn_at_first : (t : ℕ) → o.next.0 ≤ t → opening_state o t ≡ Dead
  undrawn_at_first t above =
      let first : 1 ≤ o.next.0 = opening.first in
      let apart : (t ≡ 0 → ⊥) = λ same. absurd (omega arith) in
      let zero : (t == 0) ≡ false = ne_eqb t 0 apart in
      let past : nat_lt t o.next.0 ≡ false = le-ltb t o.next.0 above in
      rw zero (rw past refl)

  -- an entry is no transaction's whose number is not drawn by then
  undrawn_others : (h : Entries) (e : Entry) (t : ℕ) → IsAllowed o h (effect_of e)
      → next_number o (e ∷ h) ≤ t → state_of o h t ≡ Dead → is_its t e ≡ false
  undrawn_others h e t allowed above dead =
      closed_does_nothing o h (effect_of e) t allowed (ap is_open dead) (inr above)

  -- a number that is not drawn yet is dead
  pub undrawn_is_dead : (h : Entries) → IsLegal o h → (t : ℕ) → next_number o h ≤ t
      → state_of o h t ≡ Dead
  undrawn_is_dead [] legal t above = undrawn_at_first t above
  undrawn_is_dead (e ∷ h) legal t above =
      let before : next_number o h ≤ t = omega (arith, next_number_grows o h e) in
      let dead : state_of o h t ≡ Dead = undrawn_is_dead h legal.1 t before in
      state_others_entry o h e t
      (undrawn_others h e t (lawful_is_allowed o h e legal.0) above dead) ∙ dead

  -- and nothing stands of it
  pub undrawn_has_no_deeds : (h : Entries) → IsLegal o h → (t : ℕ) → next_number o h ≤ t
      → deeds_by t (steps o h) ≡ []
  undrawn_has_no_deeds [] legal t above =
      opening.in_limbo t
      (λ limbo. dead_or_limbo (opening_state o t) (undrawn_at_first t above) limbo)
    where
      dead_or_limbo : (s : TxState) → s ≡ Dead → s ≡ Limbo → ⊥
      dead_or_limbo s dead limbo = cc
  undrawn_has_no_deeds (e ∷ h) legal t above =
      let before : next_number o h ≤ t = omega (arith, next_number_grows o h e) in
      let dead : state_of o h t ≡ Dead = undrawn_is_dead h legal.1 t before in
      deeds_by_others_entry o h e t
      (undrawn_others h e t (lawful_is_allowed o h e legal.0) above dead)
      ∙ undrawn_has_no_deeds h legal.1 t before

  -- a transaction that is not dead has a number that is drawn
  pub drawn_from_state : (h : Entries) → IsLegal o h → (t : ℕ) → (state_of o h t ≡ Dead → ⊥)
      → t < next_number o h
  drawn_from_state h legal t not_dead =
      elim (cases_lt t (next_number o h)) [
        | inl below ↦ below
        | inr above ↦ absurd (not_dead (undrawn_is_dead h legal t above))
      ]

  -- an entry of a legal history is not one of a transaction that has come to its end
  pub ended_others : (h : Entries) (e : Entry) → IsLegal o (e ∷ h) → (t : ℕ)
      → t < next_number o h → is_open (state_of o h t) ≡ false → is_its t e ≡ false
  ended_others h e legal t below ended =
      closed_does_nothing o h (effect_of e) t (lawful_is_allowed o h e legal.0) ended (inl below)

  pub committed_others : (h : Entries) (e : Entry) → IsLegal o (e ∷ h) → (t : ℕ)
      → is_committed (state_of o h t) ≡ true → is_its t e ≡ false
  committed_others h e legal t committed =
      ended_others h e legal t
      (drawn_from_state h legal.1 t (not_dead (state_of o h t) committed))
      (closed (state_of o h t) committed)
    where
      not_dead : (s : TxState) → is_committed s ≡ true → s ≡ Dead → ⊥
      not_dead s committed dead = both_ways (is_committed s) (ap is_committed dead) committed

      closed : (s : TxState) → is_committed s ≡ true → is_open s ≡ false
      closed Active committed = absurd (false≢true committed)
      closed Limbo committed = absurd (false≢true committed)
      closed Dead committed = refl
      closed Committed committed = refl

  -- committed stays committed, and with the same changes
  pub committed_stays : (h : Entries) (e : Entry) → IsLegal o (e ∷ h) → (t : ℕ)
      → is_committed (state_of o h t) ≡ true → state_of o (e ∷ h) t ≡ state_of o h t
  committed_stays h e legal t committed =
      state_others_entry o h e t (committed_others h e legal t committed)

  pub committed_keeps : (h : Entries) (e : Entry) → IsLegal o (e ∷ h) → (t : ℕ)
      → is_committed (state_of o h t) ≡ true → own o (e ∷ h) t ≡ own o h t
  committed_keeps h e legal t committed =
      own_others_entry o h e t (committed_others h e legal t committed)

  -- dead stays dead, once the number is drawn
  pub dead_stays : (h : Entries) (e : Entry) → IsLegal o (e ∷ h) → (t : ℕ)
      → t < next_number o h → state_of o h t ≡ Dead → state_of o (e ∷ h) t ≡ Dead
  dead_stays h e legal t below dead =
      state_others_entry o h e t (ended_others h e legal t below (ap is_open dead)) ∙ dead

-- a number that is drawn is not drawn again
pub not_drawn_again : (o : Opening) (h : Entries) (e : Entry) → IsLegal o (e ∷ h) → (t : ℕ)
    → t < next_number o h → is_of t (drawn (effect_of e)) ≡ false
not_drawn_again o h e legal t below = at (effect_of e) (lawful_is_allowed o h e legal.0)
  where
    at : (f : Effect) → IsAllowed o h f → is_of t (drawn f) ≡ false
    at (Begins u mode) allowed = ne_eqb u t (λ same. absurd (omega arith))
    at f allowed = refl
