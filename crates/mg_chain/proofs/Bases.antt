-- A table of the transactions that have not ended follows a history.
use Rattle.std.specs.Prelude.{◌≡◌, ◌≢◌, ◌⊎◌, ℕ, ◌+◌, ◌<◌, max, not, nat_lt, ◌==◌, ◌||◌, ◌&&◌, Bool, true, false, List, [], ◌∷◌, ◌++◌, map, Option, Some, None, is_some, IsSome, cond, refl}
use Rattle.std.proofs.Common.{sym, ◌∙◌, ap, inl, inr, arith}
use Rattle.std.proofs.lemmas.Bool.{false≢true, both_ways, cases_eq, eqb-true, eq-eqb, ne_eqb, lt-ltb, ltb-true, and_parts, false_from_ne_true}
use Rattle.mg_base.specs.declared.transaction.TxState.{TxState}
use Rattle.mg_base.specs.declared.transaction.TxState.TheVariants.{Active, Limbo, Dead, Committed}
use Rattle.mg_model.specs.Answers.{is_active, is_committed, is_open, told}
use Rattle.mg_model.specs.History.{Entries, Effect, Begins, Looks, Ends, effect_of}
use Rattle.mg_model.specs.Legal.{MayBegin, IsLegal}
use Rattle.mg_model.specs.LegalLaws.{IsAllowed, lawful_is_allowed}
use Rattle.mg_model.specs.Machine.{cut_at_base, mode_of, next_after, next_number, state_after, state_of, takes_base}
use Rattle.mg_model.specs.NumberLaws.{drawn_from_state, undrawn_is_dead}
use Rattle.mg_model.specs.declared.event.Mode.{Mode}
use Rattle.mg_model.specs.declared.opening.Opening.{Opening}
use Rattle.mg_snap.specs.Live.{State, Entered, Snapshot, AreDrawn, after_enter, after_leave, after_limbo, after_rebase, base_among, base_now, base_sees, has_ended, is_among, numbers_of, rebased, sees, undecided, unended_in, without}
use Rattle.mg_snap.specs.LiveLaws.{ends_by_leaving, among_more, base_sees_what_has_ended, limbo_sees_nothing, new_base_sees_what_has_ended, numbers_more, numbers_rebased, numbers_undecided, others_change_nothing}
use Rattle.mg_chain.specs.Bases.{StandsFor, live_after, LiveBegins, LiveFollows}

-- ---- entries of the table

base_more_other : (es : List Entered) (e : Entered) (t : ℕ) → (e.number == t) ≡ false
    → base_among (es ++ e ∷ []) t ≡ base_among es t
base_more_other [] e t apart = rw apart refl
base_more_other (x ∷ es) e t apart =
    ap (λ (b : Option Snapshot). cond (x.number == t) x.base b) (base_more_other es e t apart)

base_more_new : (es : List Entered) (e : Entered) (t : ℕ) → is_among (numbers_of es) t ≡ false
    → (e.number == t) ≡ true → base_among (es ++ e ∷ []) t ≡ e.base
base_more_new [] e t none its = rw its refl
base_more_new (x ∷ es) e t none its = at (x.number == t) none (λ more. base_more_new es e t more its)
  where
    at : (b : Bool) → (b || is_among (numbers_of es) t) ≡ false
        → (is_among (numbers_of es) t ≡ false → base_among (es ++ e ∷ []) t ≡ e.base)
        → cond b x.base (base_among (es ++ e ∷ []) t) ≡ e.base
    at true is more = absurd (false≢true (sym is))
    at false is more = more is

some_rebased : (es : List Entered) (t u : ℕ) (base : Snapshot)
    → is_some (base_among (map (rebased t base) es) u) ≡ is_some (base_among es u)
some_rebased [] t u base = refl
some_rebased (x ∷ es) t u base = at (x.number == u) (x.number == t) x.base (some_rebased es t u base)
  where
    at : (here_ its : Bool) (own : Option Snapshot)
        → is_some (base_among (map (rebased t base) es) u) ≡ is_some (base_among es u)
        → is_some (cond here_ (cond (its && is_some own) (Some base) own)
        (base_among (map (rebased t base) es) u)) ≡ is_some (cond here_ own (base_among es u))
    at false its own more = more
    at true false own more = refl
    at true true None more = refl
    at true true (Some own) more = refl

base_undecided_other : (es : List Entered) (t u : ℕ) → t ≢ u
    → base_among (map (undecided t) es) u ≡ base_among es u
base_undecided_other [] t u apart = refl
base_undecided_other (x ∷ es) t u apart =
    at (x.number == u) refl (base_undecided_other es t u apart)
  where
    at : (here_ : Bool) → (x.number == u) ≡ here_
        → base_among (map (undecided t) es) u ≡ base_among es u
        → cond here_ (cond (x.number == t) None x.base) (base_among (map (undecided t) es) u)
        ≡ cond here_ x.base (base_among es u)
    at false is more = more
    at true is more =
        let other : (x.number == t) ≡ false = ne_eqb x.number t
        (λ same. apart (sym same ∙ eqb-true x.number u is)) in
        ap (λ b. cond b None x.base) other

among_without_same : (es : List Entered) (t : ℕ) → is_among (numbers_of (without t es)) t ≡ false
among_without_same [] t = refl
among_without_same (x ∷ es) t = at (x.number == t) refl (among_without_same es t)
  where
    at : (b : Bool) → (x.number == t) ≡ b → is_among (numbers_of (without t es)) t ≡ false
        → is_among (numbers_of (cond (not b) (x ∷ without t es) (without t es))) t ≡ false
    at true is more = more
    at false is more = ap (λ b. b || is_among (numbers_of (without t es)) t) is ∙ more

among_without_other : (es : List Entered) (t u : ℕ) → t ≢ u
    → is_among (numbers_of (without t es)) u ≡ is_among (numbers_of es) u
among_without_other [] t u apart = refl
among_without_other (x ∷ es) t u apart =
    at (x.number == t) refl (among_without_other es t u apart)
  where
    at : (b : Bool) → (x.number == t) ≡ b
        → is_among (numbers_of (without t es)) u ≡ is_among (numbers_of es) u
        → is_among (numbers_of (cond (not b) (x ∷ without t es) (without t es))) u
        ≡ (x.number == u || is_among (numbers_of es) u)
    at true is more =
        let other : (x.number == u) ≡ false = ne_eqb x.number u
        (λ same. apart (sym (eqb-true x.number t is) ∙ same)) in
        more ∙ ap (λ b. b || is_among (numbers_of es) u) (sym other)
    at false is more = ap (λ b. x.number == u || b) more

base_without_other : (es : List Entered) (t u : ℕ) → t ≢ u
    → base_among (without t es) u ≡ base_among es u
base_without_other [] t u apart = refl
base_without_other (x ∷ es) t u apart =
    at (x.number == t) refl (base_without_other es t u apart)
  where
    at : (b : Bool) → (x.number == t) ≡ b → base_among (without t es) u ≡ base_among es u
        → base_among (cond (not b) (x ∷ without t es) (without t es)) u
        ≡ cond (x.number == u) x.base (base_among es u)
    at true is more =
        let other : (x.number == u) ≡ false = ne_eqb x.number u
        (λ same. apart (sym (eqb-true x.number t is) ∙ same)) in
        more ∙ ap (λ b. cond b x.base (base_among es u)) (sym other)
    at false is more = ap (λ (b : Option Snapshot). cond (x.number == u) x.base b) more

base_without_same : (es : List Entered) (t : ℕ) → base_among (without t es) t ≡ None
base_without_same [] t = refl
base_without_same (x ∷ es) t = at (x.number == t) refl (base_without_same es t)
  where
    at : (b : Bool) → (x.number == t) ≡ b → base_among (without t es) t ≡ None
        → base_among (cond (not b) (x ∷ without t es) (without t es)) t ≡ None
    at true is more = more
    at false is more = ap (λ b. cond b x.base (base_among (without t es) t)) is ∙ more

-- ---- states

committed_is_not_open : (s : TxState) → is_committed s ≡ true → is_open s ≡ false
committed_is_not_open Active is = absurd (false≢true is)
committed_is_not_open Limbo is = absurd (false≢true is)
committed_is_not_open Dead is = absurd (false≢true is)
committed_is_not_open Committed is = refl

open_is_not_committed : (s : TxState) → is_open s ≡ true → is_committed s ≡ false
open_is_not_committed Active is = refl
open_is_not_committed Limbo is = refl
open_is_not_committed Dead is = absurd (false≢true is)
open_is_not_committed Committed is = absurd (false≢true is)

and_none : (a b : Bool) → a ≡ false → (a && b) ≡ false
and_none true b is = absurd (false≢true (sym is))
and_none false b is = refl

-- what follows from the one is no further condition beside it
and_implied : (a b : Bool) → (a ≡ true → b ≡ true) → (a && b) ≡ a
and_implied true b implies = implies refl
and_implied false b implies = refl

module _ (o : Opening) (opening : MayBegin o) (h : Entries) (legal : IsLegal o h) (live : State)
    (s : StandsFor o h live) where
  committed_is_drawn : (u : ℕ) → is_committed (state_of o h u) ≡ true → u < next_number o h
  committed_is_drawn u is =
      drawn_from_state o opening h legal u
      (λ dead. both_ways (is_committed (state_of o h u)) (ap is_committed dead) is)

  open_is_drawn : (u : ℕ) → is_open (state_of o h u) ≡ true → u < next_number o h
  open_is_drawn u is =
      drawn_from_state o opening h legal u
      (λ dead. both_ways (is_open (state_of o h u)) (ap is_open dead) is)

  are_drawn : AreDrawn live
  are_drawn u among =
      let below : u < next_number o h = open_is_drawn u (sym (s.unended u) ∙ among) in
      let next : live.next ≡ next_number o h = s.next in omega arith

  -- who is committed has ended
  committed_has_ended : (u : ℕ) → is_committed (state_of o h u) ≡ true → has_ended live u ≡ true
  committed_has_ended u is =
      let below : u < next_number o h = committed_is_drawn u is in
      let next : live.next ≡ next_number o h = s.next in
      let drawn : nat_lt u live.next ≡ true = lt-ltb u live.next (omega arith) in
      let none : is_among (unended_in live) u ≡ false =
      s.unended u ∙ committed_is_not_open (state_of o h u) is in
      rw drawn (rw none refl)

  -- who has ended is not open
  ended_is_not_open : (u : ℕ) → has_ended live u ≡ true
      → (u < next_number o h) × (is_open (state_of o h u) ≡ false)
  ended_is_not_open u is =
      let parts = and_parts (nat_lt u live.next) (not (is_among (unended_in live) u)) is in
      let below : u < live.next = ltb-true u live.next parts.0 in
      let next : live.next ≡ next_number o h = s.next in
      (omega arith, sym (s.unended u) ∙ not_true (is_among (unended_in live) u) parts.1)
    where
      not_true : (b : Bool) → not b ≡ true → b ≡ false
      not_true true is = absurd (false≢true is)
      not_true false is = refl

  -- nobody sees one that is open
  open_is_hidden : (t u : ℕ) → is_open (state_of o h u) ≡ true → sees live t u ≡ false
  open_is_hidden t u is =
      false_from_ne_true (sees live t u)
      (λ seen. both_ways (is_open (state_of o h u)) (s.hides t u seen).1 is)

  -- nor was an open one committed when a base was taken
  open_was_not_seen : (t u : ℕ) → state_of o h t ≡ Active → is_committed (state_of o h u) ≡ false
      → (told o h).saw t u ≡ false
  open_was_not_seen t u active none =
      sym (s.base t u active) ∙ and_none (is_committed (state_of o h u)) (sees live t u) none

  -- ---- the history after one more effect

  abbrev state_with : Effect → ℕ → TxState
  state_with f u = state_after f u (state_of o h u)

  abbrev saw_with : Effect → ℕ → ℕ → Bool
  saw_with f t u = is_committed (state_of o
      (cond (takes_base f t (mode_of h t).snapshot) h (cut_at_base h t)) u)

  record StandsWith (f : Effect) (after : State) : Type 0 where
    next : after.next ≡ next_after f (next_number o h)
    unended : (u : ℕ) → is_among (unended_in after) u ≡ is_open (state_with f u)
    based : (t : ℕ) → state_with f t ≡ Active → IsSome (base_among after.entered t)
    hides : (t u : ℕ) → sees after t u ≡ true
        → (u < next_after f (next_number o h)) × (is_open (state_with f u) ≡ false)
    base : (t u : ℕ) → state_with f t ≡ Active
        → (is_committed (state_with f u) && sees after t u) ≡ saw_with f t u

  -- a base that is taken now
  base_now_tells : (u : ℕ)
      → (is_committed (state_of o h u) && has_ended live u) ≡ is_committed (state_of o h u)
  base_now_tells u =
      and_implied (is_committed (state_of o h u)) (has_ended live u) (committed_has_ended u)

  looks_again : (t : ℕ) → state_of o h t ≡ Active → (mode_of h t).snapshot ≡ false
      → StandsWith (Looks t) (after_rebase live t)
  looks_again t active again = record {
    next = s.next;
    unended = λ u. ap (λ (ns : List ℕ). is_among ns u)
        (numbers_rebased live.entered t (base_now live)) ∙ s.unended u;
    based = λ u is. some_rebased live.entered t u (base_now live) ∙ s.based u is;
    hides = λ x u seen. hidden x u (cases_eq t x) seen;
    base = λ x u is. told_to x u is (cases_eq t x);
  }
    where
      own_base : (u : ℕ) → sees (after_rebase live t) t u ≡ has_ended live u
      own_base u = new_base_sees_what_has_ended live t u (s.based t active)

      hidden : (x u : ℕ) → (t ≡ x) ⊎ (t ≢ x) → sees (after_rebase live t) x u ≡ true
          → (u < next_number o h) × (is_open (state_of o h u) ≡ false)
      hidden x u (inl same) seen =
          ended_is_not_open u (sym (own_base u)
          ∙ ap (λ y. sees (after_rebase live t) y u) same ∙ seen)
      hidden x u (inr apart) seen =
          s.hides x u (sym (others_change_nothing.rebase live t x u apart) ∙ seen)

      told_to : (x u : ℕ) → state_of o h x ≡ Active → (t ≡ x) ⊎ (t ≢ x)
          → (is_committed (state_of o h u) && sees (after_rebase live t) x u)
          ≡ saw_with (Looks t) x u
      told_to x u is (inl same) =
          let its : (t == x) ≡ true = eq-eqb t x same in
          let taken : takes_base (Looks t) x (mode_of h x).snapshot ≡ true =
          rw its (ap (λ y. not (mode_of h y).snapshot) (sym same) ∙ ap not again) in
          ap (λ y. is_committed (state_of o h u) && sees (after_rebase live t) y u) (sym same)
          ∙ ap (λ b. is_committed (state_of o h u) && b) (own_base u) ∙ base_now_tells u
          ∙ ap (λ b. is_committed (state_of o (cond b h (cut_at_base h x)) u)) (sym taken)
      told_to x u is (inr apart) =
          let other : (t == x) ≡ false = ne_eqb t x apart in
          let kept : takes_base (Looks t) x (mode_of h x).snapshot ≡ false = rw other refl in
          ap (λ b. is_committed (state_of o h u) && b)
          (others_change_nothing.rebase live t x u apart) ∙ s.base x u is
          ∙ ap (λ b. is_committed (state_of o (cond b h (cut_at_base h x)) u)) (sym kept)

  looks_once : (t : ℕ) → (mode_of h t).snapshot ≡ true → StandsWith (Looks t) live
  looks_once t once = record {
    next = s.next;
    unended = s.unended;
    based = s.based;
    hides = s.hides;
    base = λ x u is. s.base x u is
        ∙ ap (λ b. is_committed (state_of o (cond b h (cut_at_base h x)) u)) (sym (kept x (cases_eq t x)));
  }
    where
      kept : (x : ℕ) → (t ≡ x) ⊎ (t ≢ x) → takes_base (Looks t) x (mode_of h x).snapshot ≡ false
      kept x (inl same) =
          let its : (t == x) ≡ true = eq-eqb t x same in
          rw its (ap (λ y. not (mode_of h y).snapshot) (sym same) ∙ ap not once)
      kept x (inr apart) =
          let other : (t == x) ≡ false = ne_eqb t x apart in rw other refl

  -- ---- a transaction begins

  module _ (t : ℕ) (mode : Mode) (drawn : t ≡ next_number o h) where
    is_next : t ≡ live.next
    is_next = drawn ∙ sym s.next

    was_dead : state_of o h t ≡ Dead
    was_dead = undrawn_is_dead o opening h legal t (omega arith)

    next_is : max live.next (t + 1) ≡ next_number o h + 1
    next_is = let same : t ≡ live.next = is_next in omega (arith, drawn)

    among_is : (u : ℕ) → is_among (unended_in (after_enter live t)) u
        ≡ (is_among (unended_in live) u || (t == u))
    among_is u =
        ap (λ (ns : List ℕ). is_among ns u) (numbers_more live.entered _)
        ∙ among_more (unended_in live) t u

    own_base_entered : (u : ℕ) → sees (after_enter live t) t u ≡ has_ended (after_enter live t) u
    own_base_entered u = base_sees_what_has_ended live t u are_drawn (inl is_next)

    others_end : (u : ℕ) → t ≢ u → has_ended (after_enter live t) u ≡ has_ended live u
    others_end u apart =
        let same : t ≡ live.next = is_next in ends_by_leaving.enter live t u (omega arith) apart

    -- who has ended once it has entered had ended before
    ended_before : (u : ℕ) → has_ended (after_enter live t) u ≡ true
        → ((t == u) ≡ false) × (has_ended live u ≡ true)
    ended_before u is = at (cases_eq t u)
      where
        at : (t ≡ u) ⊎ (t ≢ u) → ((t == u) ≡ false) × (has_ended live u ≡ true)
        at (inl same) =
            absurd (both_ways (has_ended (after_enter live t) t) (ends_by_leaving.enters live t)
            (ap (has_ended (after_enter live t)) same ∙ is))
        at (inr apart) = (ne_eqb t u apart, sym (others_end u apart) ∙ is)

    begun : StandsWith (Begins t mode) (after_enter live t)
    begun = record {
      next = next_is;
      unended = λ u. among_is u ∙ unended_at u (t == u) refl;
      based = λ u is. based_at u (t == u) refl is;
      hides = λ x u seen. hidden x u (cases_eq t x) seen;
      base = λ x u is. told_to x u (cases_eq t x) (cases_eq t u) is;
    }
      where
        unended_at : (u : ℕ) (b : Bool) → (t == u) ≡ b
            → (is_among (unended_in live) u || b) ≡ is_open (cond b Active (state_of o h u))
        unended_at u true is = or_true (is_among (unended_in live) u)
          where
            or_true : (a : Bool) → (a || true) ≡ true
            or_true true = refl
            or_true false = refl
        unended_at u false is = or_none (is_among (unended_in live) u) ∙ s.unended u
          where
            or_none : (a : Bool) → (a || false) ≡ a
            or_none true = refl
            or_none false = refl

        based_at : (u : ℕ) (b : Bool) → (t == u) ≡ b → cond b Active (state_of o h u) ≡ Active
            → IsSome (base_among (after_enter live t).entered u)
        based_at u true is active =
            let none : is_among (unended_in live) u ≡ false =
            ap (is_among (unended_in live)) (sym (eqb-true t u is))
            ∙ s.unended t ∙ ap is_open was_dead in
            ap is_some (base_more_new live.entered _ u none is)
        based_at u false is active =
            ap is_some (base_more_other live.entered _ u is) ∙ s.based u active

        still_not_open : (u : ℕ) → (t == u) ≡ false → is_open (state_of o h u) ≡ false
            → is_open (state_with (Begins t mode) u) ≡ false
        still_not_open u apart is = rw apart is

        hidden : (x u : ℕ) → (t ≡ x) ⊎ (t ≢ x) → sees (after_enter live t) x u ≡ true
            → (u < next_number o h + 1) × (is_open (state_with (Begins t mode) u) ≡ false)
        hidden x u (inl same) seen =
            let ended = ended_before u (sym (own_base_entered u)
            ∙ ap (λ y. sees (after_enter live t) y u) same ∙ seen) in
            let both = ended_is_not_open u ended.1 in
            (omega (arith, both.0), still_not_open u ended.0 both.1)
        hidden x u (inr apart) seen =
            let both = s.hides x u (sym (others_change_nothing.enter live t x u apart) ∙ seen) in
            let below : u < next_number o h = both.0 in
            let other : (t == u) ≡ false = ne_eqb t u (λ same. absurd (omega (arith, drawn))) in
            (omega (arith, both.0), still_not_open u other both.1)

        told_to : (x u : ℕ) → (t ≡ x) ⊎ (t ≢ x) → (t ≡ u) ⊎ (t ≢ u)
            → state_with (Begins t mode) x ≡ Active
            → (is_committed (state_with (Begins t mode) u) && sees (after_enter live t) x u)
            ≡ saw_with (Begins t mode) x u
        told_to x u (inl same) (inl its) is =
            let now : (t == u) ≡ true = eq-eqb t u its in
            let none : is_committed (state_with (Begins t mode) u) ≡ false = rw now refl in
            let taken : (t == x) ≡ true = eq-eqb t x same in
            and_none (is_committed (state_with (Begins t mode) u)) (sees (after_enter live t) x u) none
            ∙ sym (ap is_committed (ap (state_of o h) (sym its) ∙ was_dead))
            ∙ ap (λ b. is_committed (state_of o (cond b h (cut_at_base h x)) u)) (sym taken)
        told_to x u (inl same) (inr apart) is =
            let other : (t == u) ≡ false = ne_eqb t u apart in
            let state_is : state_with (Begins t mode) u ≡ state_of o h u = rw other refl in
            let taken : (t == x) ≡ true = eq-eqb t x same in
            ap (λ st. is_committed st && sees (after_enter live t) x u) state_is
            ∙ ap (λ y. is_committed (state_of o h u) && sees (after_enter live t) y u) (sym same)
            ∙ ap (λ b. is_committed (state_of o h u) && b) (own_base_entered u ∙ others_end u apart)
            ∙ base_now_tells u
            ∙ ap (λ b. is_committed (state_of o (cond b h (cut_at_base h x)) u)) (sym taken)
        told_to x u (inr other_x) (inl its) is =
            let now : (t == u) ≡ true = eq-eqb t u its in
            let none : is_committed (state_with (Begins t mode) u) ≡ false = rw now refl in
            let kept : (t == x) ≡ false = ne_eqb t x other_x in
            let active : state_of o h x ≡ Active =
            ap (λ b. cond b Active (state_of o h x)) (sym kept) ∙ is in
            let was_none : is_committed (state_of o h u) ≡ false =
            ap is_committed (ap (state_of o h) (sym its) ∙ was_dead) in
            and_none (is_committed (state_with (Begins t mode) u)) (sees (after_enter live t) x u) none
            ∙ sym (open_was_not_seen x u active was_none)
            ∙ ap (λ b. is_committed (state_of o (cond b h (cut_at_base h x)) u)) (sym kept)
        told_to x u (inr other_x) (inr apart) is =
            let other : (t == u) ≡ false = ne_eqb t u apart in
            let state_is : state_with (Begins t mode) u ≡ state_of o h u = rw other refl in
            let kept : (t == x) ≡ false = ne_eqb t x other_x in
            let active : state_of o h x ≡ Active =
            ap (λ b. cond b Active (state_of o h x)) (sym kept) ∙ is in
            ap (λ st. is_committed st && sees (after_enter live t) x u) state_is
            ∙ ap (λ b. is_committed (state_of o h u) && b)
            (others_change_nothing.enter live t x u other_x) ∙ s.base x u active
            ∙ ap (λ b. is_committed (state_of o (cond b h (cut_at_base h x)) u)) (sym kept)

  -- ---- a transaction comes to limbo, or to its end

  module _ (t : ℕ) (end : TxState) (after : State) (open_ : is_open (state_of o h t) ≡ true)
      (ends_ : is_active end ≡ false) (next_is : after.next ≡ live.next)
      (own : is_among (unended_in after) t ≡ is_open end)
      (others : (u : ℕ) → t ≢ u → is_among (unended_in after) u ≡ is_among (unended_in live) u)
      (bases : (x : ℕ) → t ≢ x → base_among after.entered x ≡ base_among live.entered x)
      (sees_same : (x u : ℕ) → t ≢ x → sees after x u ≡ sees live x u)
      (sees_none : (u : ℕ) → sees after t u ≡ false) where
    now_is : (u : ℕ) → t ≡ u → state_with (Ends t end) u ≡ end
    now_is u same = let its : (t == u) ≡ true = eq-eqb t u same in rw its refl

    same_state : (u : ℕ) → t ≢ u → state_with (Ends t end) u ≡ state_of o h u
    same_state u apart = let other : (t == u) ≡ false = ne_eqb t u apart in rw other refl

    ended : StandsWith (Ends t end) after
    ended = record {
      next = next_is ∙ s.next;
      unended = λ u. unended_at u (cases_eq t u);
      based = λ x is. based_at x (cases_eq t x) is;
      hides = λ x u seen. hidden x u (cases_eq t x) (cases_eq t u) seen;
      base = λ x u is. told_to x u (cases_eq t x) (cases_eq t u) is;
    }
      where
        unended_at : (u : ℕ) → (t ≡ u) ⊎ (t ≢ u)
            → is_among (unended_in after) u ≡ is_open (state_with (Ends t end) u)
        unended_at u (inl same) =
            ap (is_among (unended_in after)) (sym same) ∙ own ∙ ap is_open (sym (now_is u same))
        unended_at u (inr apart) =
            others u apart ∙ s.unended u ∙ ap is_open (sym (same_state u apart))

        not_active : (x : ℕ) → t ≡ x → state_with (Ends t end) x ≡ Active → ⊥
        not_active x same is =
            both_ways (is_active end) ends_ (ap is_active (sym (now_is x same) ∙ is))

        based_at : (x : ℕ) → (t ≡ x) ⊎ (t ≢ x) → state_with (Ends t end) x ≡ Active
            → IsSome (base_among after.entered x)
        based_at x (inl same) is = absurd (not_active x same is)
        based_at x (inr apart) is =
            ap is_some (bases x apart) ∙ s.based x (sym (same_state x apart) ∙ is)

        hidden : (x u : ℕ) → (t ≡ x) ⊎ (t ≢ x) → (t ≡ u) ⊎ (t ≢ u) → sees after x u ≡ true
            → (u < next_number o h) × (is_open (state_with (Ends t end) u) ≡ false)
        hidden x u (inl same) its seen =
            absurd (both_ways (sees after t u) (sees_none u)
            (ap (λ y. sees after y u) same ∙ seen))
        hidden x u (inr apart) (inl its) seen =
            let both = s.hides x u (sym (sees_same x u apart) ∙ seen) in
            absurd (both_ways (is_open (state_of o h u)) both.1
            (ap (λ y. is_open (state_of o h y)) (sym its) ∙ open_))
        hidden x u (inr apart) (inr other) seen =
            let both = s.hides x u (sym (sees_same x u apart) ∙ seen) in
            (both.0, ap is_open (same_state u other) ∙ both.1)

        told_to : (x u : ℕ) → (t ≡ x) ⊎ (t ≢ x) → (t ≡ u) ⊎ (t ≢ u)
            → state_with (Ends t end) x ≡ Active
            → (is_committed (state_with (Ends t end) u) && sees after x u)
            ≡ (told o h).saw x u
        told_to x u (inl same) its is = absurd (not_active x same is)
        told_to x u (inr apart) (inl its) is =
            let open_u : is_open (state_of o h u) ≡ true =
            ap (λ y. is_open (state_of o h y)) (sym its) ∙ open_ in
            let active : state_of o h x ≡ Active = sym (same_state x apart) ∙ is in
            ap (λ b. is_committed (state_with (Ends t end) u) && b)
            (sees_same x u apart ∙ open_is_hidden x u open_u)
            ∙ and_false (is_committed (state_with (Ends t end) u))
            ∙ sym (open_was_not_seen x u active (open_is_not_committed (state_of o h u) open_u))
          where
            and_false : (a : Bool) → (a && false) ≡ false
            and_false true = refl
            and_false false = refl
        told_to x u (inr apart) (inr other) is =
            let active : state_of o h x ≡ Active = sym (same_state x apart) ∙ is in
            ap (λ st. is_committed st && sees after x u) (same_state u other)
            ∙ ap (λ b. is_committed (state_of o h u) && b) (sees_same x u apart)
            ∙ s.base x u active

  comes_to_limbo : (t : ℕ) → is_open (state_of o h t) ≡ true
      → StandsWith (Ends t Limbo) (after_limbo live t)
  comes_to_limbo t open_ =
      ended t Limbo (after_limbo live t) open_ refl refl
      (among_same t ∙ s.unended t ∙ open_) (λ u apart. among_same u)
      (λ x apart. base_undecided_other live.entered t x apart)
      (λ x u apart. others_change_nothing.limbo live t x u apart)
      (limbo_sees_nothing live t)
    where
      among_same : (u : ℕ)
          → is_among (unended_in (after_limbo live t)) u ≡ is_among (unended_in live) u
      among_same u =
          ap (λ (ns : List ℕ). is_among ns u) (numbers_undecided live.entered t)

  comes_to_end : (t : ℕ) (end : TxState) → is_open (state_of o h t) ≡ true
      → is_active end ≡ false → is_open end ≡ false → StandsWith (Ends t end) (after_leave live t)
  comes_to_end t end open_ ends_ closed =
      ended t end (after_leave live t) open_ ends_ refl
      (among_without_same live.entered t ∙ sym closed)
      (λ u apart. among_without_other live.entered t u apart)
      (λ x apart. base_without_other live.entered t x apart)
      (λ x u apart. others_change_nothing.leave live t x u apart)
      (λ u. ap (λ (b : Option Snapshot). base_sees b u) (base_without_same live.entered t))

  abbrev keeps_first : ℕ → Bool
  keeps_first t = (mode_of h t).snapshot

  follows : (f : Effect) → IsAllowed o h f → StandsWith f (live_after f keeps_first live)
  follows (Begins t mode) allowed = begun t mode allowed
  follows (Looks t) allowed = at (keeps_first t) refl
    where
      at : (b : Bool) → keeps_first t ≡ b
          → StandsWith (Looks t) (cond b live (after_rebase live t))
      at true once = looks_once t once
      at false again = looks_again t allowed again
  follows (Ends t Active) allowed = absurd (false≢true (sym allowed.1))
  follows (Ends t Limbo) allowed = comes_to_limbo t allowed.0
  follows (Ends t Dead) allowed = comes_to_end t Dead allowed.0 refl refl
  follows (Ends t Committed) allowed = comes_to_end t Committed allowed.0 refl refl
  follows f allowed = record {
    next = s.next;
    unended = s.unended;
    based = s.based;
    hides = s.hides;
    base = s.base;
  }

pub live_follows : LiveFollows
live_follows o h e live opening legal s =
    let w = follows o opening h legal.1 live s (effect_of e) (lawful_is_allowed o h e legal.0) in
    record {
      next = w.next;
      unended = w.unended;
      based = w.based;
      hides = w.hides;
      base = w.base;
    }

pub live_begins : LiveBegins
live_begins o live next unended blind none = record {
  next = next;
  unended = unended;
  based = λ t active. absurd (none t active);
  hides = λ t u seen. absurd (both_ways (sees live t u) (blind t u) seen);
  base = λ t u active. absurd (none t active);
}
