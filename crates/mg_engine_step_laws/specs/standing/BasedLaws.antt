-- Who has a base is active: the table of those that have not ended keeps it so.
use Rattle.std.proofs.Common.{◌≡◌, ◌≢◌, inl, ◌<◌, ◌+◌, ◌==◌, ◌&&◌, ◌||◌, ℕ, Bool, true, false, not, nat_lt, List, [], ◌∷◌, ◌++◌, Option, None, Some, refl, sym, ap, ◌∙◌, subst, arith}
use Rattle.std.specs.List.{list_any}
use Rattle.std.specs.Prelude.{cond, if◌then◌else◌, is_some, map, max}
use Rattle.std.proofs.lemmas.Bool.{eq-eqb, eqb-true, false≢true, ne_eqb}
use Rattle.mg_base.specs.declared.transaction.TxState.{TxState}
use Rattle.mg_base.specs.declared.transaction.TxState.TheVariants.{Active, Committed, Dead, Limbo}
use Rattle.mg_model.specs.declared.opening.Opening.{Opening}
use Rattle.mg_model.specs.Answers.{is_active, is_committed, is_open}
use Rattle.mg_model.specs.History.{Begins, Effect, Ends, Entries, Entry, Gives, Looks, Makes, Marks, Nothing, Saves, TakesBack, effect_of}
use Rattle.mg_model.specs.Legal.{IsLegal, MayBegin}
use Rattle.mg_model.specs.LegalLaws.{IsAllowed, lawful_is_allowed}
use Rattle.mg_model.specs.Machine.{mode_of, next_number, state_after, state_of}
use Rattle.mg_model.specs.NumberLaws.{drawn_from_state, undrawn_is_dead}
use Rattle.mg_model.specs.Openings.{Each}
use Rattle.mg_chain.specs.Bases.{StandsFor, live_after}
use Rattle.mg_snap.specs.Live.{AreDrawn, Entered, Snapshot, State, after_enter, after_leave, after_limbo, after_rebase, base_now, base_sees, is_among, misses, rebased, sees, undecided, unended_in, without}
use Rattle.mg_snap.specs.LiveLaws.{base_sees_what_has_ended, new_base_sees_what_has_ended, numbers_more, others_change_nothing}
use Rattle.mg_engine_step_laws.specs.standing.Based.{AreBased, BasedFollow, IsBased, TestsAll}

-- ---- whom all see

pub tests_all : TestsAll
tests_all o h live u stands based seen = none (list_any (misses u) live.entered)
    (each live.entered based)
  where
    none : (b : Bool) → b ≡ false → not b ≡ true
    none true is = absurd (false≢true (sym is))
    none false is = refl

    active : (s : TxState) → s ≡ Active → is_active s ≡ true
    active s is = ap is_active is

    sees_it : (t : ℕ) → state_of o h t ≡ Active → sees live t u ≡ true
    sees_it t is = last (is_committed (state_of o h u)) (sees live t u)
        (stands.base t u is ∙ seen.saw t (active (state_of o h t) is))
      where
        last : (a b : Bool) → (a && b) ≡ true → b ≡ true
        last true b both = both
        last false b both = absurd (false≢true both)

    one : (base : Option Snapshot) → (is_some base ≡ true → base_sees base u ≡ true)
        → (is_some base && not (base_sees base u)) ≡ false
    one None told_ = refl
    one (Some b) told_ = ap not (told_ refl)

    each : (es : List Entered) → Each (IsBased o h live) es → list_any (misses u) es ≡ false
    each [] all = refl
    each (e ∷ es) all = both (misses u e) (list_any (misses u) es)
        (one e.base (λ some. (all.0 some).1 u ∙ sees_it e.number (all.0 some).0)) (each es all.1)
      where
        both : (a b : Bool) → a ≡ false → b ≡ false → (a || b) ≡ false
        both a b first rest = rw first rest

-- ---- one entry more

each_as : (P Q : Entered → Type 0) (es : List Entered) → ((e : Entered) → P e → Q e) → Each P es
    → Each Q es
each_as P Q [] turn all = tt
each_as P Q (e ∷ es) turn all = (turn e all.0, each_as P Q es turn all.1)

each_mapped : (P Q : Entered → Type 0) (f : Entered → Entered) (es : List Entered)
    → ((e : Entered) → P e → Q (f e)) → Each P es → Each Q (map f es)
each_mapped P Q f [] turn all = tt
each_mapped P Q f (e ∷ es) turn all = (turn e all.0, each_mapped P Q f es turn all.1)

each_more : (P : Entered → Type 0) (es : List Entered) (e : Entered) → Each P es → P e
    → Each P (es ++ e ∷ [])
each_more P [] e all here = (here, tt)
each_more P (x ∷ es) e all here = (all.0, each_more P es e all.1 here)

each_without : (P Q : Entered → Type 0) (t : ℕ) (es : List Entered)
    → ((e : Entered) → e.number ≢ t → P e → Q e) → Each P es → Each Q (without t es)
each_without P Q t [] turn all = tt
each_without P Q t (e ∷ es) turn all = at (e.number == t) refl (each_without P Q t es turn all.1)
  where
    ne : (e.number == t) ≡ false → e.number ≢ t
    ne off same = false≢true (sym off ∙ eq-eqb e.number t same)

    at : (b : Bool) → (e.number == t) ≡ b → Each Q (without t es)
        → Each Q (cond (not b) (e ∷ without t es) (without t es))
    at true is more = more
    at false is more = (turn e (ne is) all.0, more)

module _ (o : Opening) (h : Entries) (e : Entry) (live : State) (opening : MayBegin o)
    (legal : IsLegal o (e ∷ h)) (stands : StandsFor o h live) (based : AreBased o h live) where
  -- an entry of another one's leaves the state
  state_by : (f : Effect) (t : ℕ) → effect_of e ≡ f → state_of o (e ∷ h) t ≡ state_after f t (state_of o h t)
  state_by f t is = ap (λ (g : Effect). state_after g t (state_of o h t)) is

  drawn : AreDrawn live
  drawn t there = subst (λ (n : ℕ). t < n) (sym stands.next)
      (drawn_from_state o opening h legal.1 t (λ dead. false≢true (sym (ap is_open dead)
      ∙ (sym (stands.unended t) ∙ there))))

  quiet : (f : Effect) → effect_of e ≡ f → ((t : ℕ) (s : TxState) → state_after f t s ≡ s)
      → AreBased o (e ∷ h) live
  quiet f is same = each_as (IsBased o h live) (IsBased o (e ∷ h) live) live.entered
      (λ x was some. (
        state_by f x.number is ∙ (same x.number (state_of o h x.number) ∙ (was some).0),
        (was some).1,
      )) based

  enters : (t : ℕ) → t ≡ next_number o h → state_of o (e ∷ h) t ≡ Active
      → ((u : ℕ) → u ≢ t → state_of o (e ∷ h) u ≡ state_of o h u) → AreBased o (e ∷ h) (after_enter live t)
  enters t number active others = each_more (IsBased o (e ∷ h) (after_enter live t)) live.entered
      (record {
        number = t;
        base = Some record { drawn = max live.next (t + 1); unended = unended_in live ++ t ∷ [] };
      }) (each_as (IsBased o h live) (IsBased o (e ∷ h) (after_enter live t)) live.entered older based)
      (λ some. (active, newest))
    where
      older : (x : Entered) → IsBased o h live x → IsBased o (e ∷ h) (after_enter live t) x
      older x was some = (
        others x.number apart ∙ (was some).0,
        λ by. (was some).1 by ∙ sym (others_change_nothing.enter live t x.number by (λ same. apart (sym same))),
      )
        where
          apart : x.number ≢ t
          apart same =
              let dead : state_of o h x.number ≡ Dead = undrawn_is_dead o opening h legal.1 x.number
              (omega (arith, same, number)) in
              let both : Active ≡ Dead = sym (was some).0 ∙ dead in absurd cc

      newest : (by : ℕ) → (nat_lt by (max live.next (t + 1)) && not (is_among (unended_in live ++ t ∷ []) by))
          ≡ sees (after_enter live t) t by
      newest by = ap (λ (ns : List ℕ). nat_lt by (max live.next (t + 1)) && not (is_among ns by))
          (sym (numbers_more live.entered (record {
            number = t;
            base = Some record { drawn = max live.next (t + 1); unended = unended_in live ++ t ∷ [] };
          }))) ∙ sym (base_sees_what_has_ended live t by drawn (inl (number ∙ sym stands.next)))

  leaves : (t : ℕ) → ((u : ℕ) → u ≢ t → state_of o (e ∷ h) u ≡ state_of o h u)
      → AreBased o (e ∷ h) (after_leave live t)
  leaves t others = each_without (IsBased o h live) (IsBased o (e ∷ h) (after_leave live t)) t live.entered
      (λ x apart was some. (
        others x.number apart ∙ (was some).0,
        λ by. (was some).1 by ∙ sym (others_change_nothing.leave live t x.number by (λ same. apart (sym same))),
      ))
      based

  decides_not : (t : ℕ) → ((u : ℕ) → u ≢ t → state_of o (e ∷ h) u ≡ state_of o h u)
      → AreBased o (e ∷ h) (after_limbo live t)
  decides_not t others = each_mapped (IsBased o h live) (IsBased o (e ∷ h) (after_limbo live t))
      (undecided t) live.entered one based
    where
      one : (x : Entered) → IsBased o h live x → IsBased o (e ∷ h) (after_limbo live t) (undecided t x)
      one x was some = at (x.number == t) refl some
        where
          at : (b : Bool) → (x.number == t) ≡ b → is_some (if b then None else x.base) ≡ true
              → (state_of o (e ∷ h) x.number ≡ Active)
              × ((by : ℕ) → base_sees (if x.number == t then None else x.base) by
              ≡ sees (after_limbo live t) x.number by)
          at true is none = absurd (false≢true none)
          at false is its =
              let apart : x.number ≢ t = λ same. false≢true (sym is ∙ eq-eqb x.number t same) in (
                others x.number apart ∙ (was its).0,
                λ by. ap (λ (b : Bool). base_sees (if b then None else x.base) by) is
                    ∙ ((was its).1 by
                    ∙ sym (others_change_nothing.limbo live t x.number by (λ same. apart (sym same)))),
              )

  looks : (t : ℕ) → state_of o h t ≡ Active → ((u : ℕ) → state_of o (e ∷ h) u ≡ state_of o h u)
      → AreBased o (e ∷ h) (after_rebase live t)
  looks t active same = each_mapped (IsBased o h live) (IsBased o (e ∷ h) (after_rebase live t))
      (rebased t (base_now live)) live.entered one based
    where
      one : (x : Entered) → IsBased o h live x
          → IsBased o (e ∷ h) (after_rebase live t) (rebased t (base_now live) x)
      one x was some = at (x.number == t) refl (is_some x.base) refl some
        where
          at : (b : Bool) → (x.number == t) ≡ b → (c : Bool) → is_some x.base ≡ c
              → is_some (if b && c then Some (base_now live) else x.base) ≡ true
              → (state_of o (e ∷ h) x.number ≡ Active)
              × ((by : ℕ) → base_sees (if (x.number == t) && is_some x.base then Some (base_now live)
              else x.base) by ≡ sees (after_rebase live t) x.number by)
          at b is false none its = absurd (false≢true (sym (when (b && false) (and_false b)) ∙ its))
            where
              and_false : (b : Bool) → (b && false) ≡ false
              and_false true = refl
              and_false false = refl

              when : (c : Bool) → c ≡ false
                  → is_some (if c then Some (base_now live) else x.base) ≡ false
              when c off = rw off none
          at true is true has its =
              let on : ((x.number == t) && is_some x.base) ≡ true = rw (is, has) refl in (
                same x.number ∙ (was has).0,
                λ by. ap (λ (b : Bool). base_sees (if b then Some (base_now live) else x.base) by) on
                    ∙ (sym (new_base_sees_what_has_ended live t by (stands.based t active))
                    ∙ ap (λ (n : ℕ). sees (after_rebase live t) n by) (sym (eqb-true x.number t is))),
              )
          at false is true has its =
              let apart : x.number ≢ t = λ eq. false≢true (sym is ∙ eq-eqb x.number t eq) in
              let off : ((x.number == t) && is_some x.base) ≡ false = rw is refl in (
                same x.number ∙ (was has).0,
                λ by. ap (λ (b : Bool). base_sees (if b then Some (base_now live) else x.base) by) off
                    ∙ ((was has).1 by
                    ∙ sym (others_change_nothing.rebase live t x.number by (λ eq. apart (sym eq)))),
              )

  follows : (f : Effect) → effect_of e ≡ f → IsAllowed o h f
      → AreBased o (e ∷ h) (live_after f (λ t. (mode_of h t).snapshot) live)
  follows (Begins t mode) is allowed = enters t allowed (state_by (Begins t mode) t is ∙ rw (eq-eqb t t refl) refl)
      (λ u ne. state_by (Begins t mode) u is ∙ rw (ne_eqb t u (λ same. ne (sym same))) refl)
  follows (Looks t) is allowed = at (mode_of h t).snapshot
    where
      at : (b : Bool) → AreBased o (e ∷ h) (if b then live else after_rebase live t)
      at true = quiet (Looks t) is (λ u s. refl)
      at false = looks t allowed (λ u. state_by (Looks t) u is)
  follows (Makes t table row) is allowed = quiet (Makes t table row) is (λ u s. refl)
  follows (Gives t table key row) is allowed = quiet (Gives t table key row) is (λ u s. refl)
  follows (Marks t) is allowed = quiet (Marks t) is (λ u s. refl)
  follows (Saves t name) is allowed = quiet (Saves t name) is (λ u s. refl)
  follows (TakesBack t point) is allowed = quiet (TakesBack t point) is (λ u s. refl)
  follows (Ends t Active) is allowed = absurd (false≢true (sym allowed.1))
  follows (Ends t Limbo) is allowed = decides_not t
      (λ u ne. state_by (Ends t Limbo) u is ∙ rw (ne_eqb t u (λ same. ne (sym same))) refl)
  follows (Ends t Dead) is allowed = leaves t
      (λ u ne. state_by (Ends t Dead) u is ∙ rw (ne_eqb t u (λ same. ne (sym same))) refl)
  follows (Ends t Committed) is allowed = leaves t
      (λ u ne. state_by (Ends t Committed) u is ∙ rw (ne_eqb t u (λ same. ne (sym same))) refl)
  follows Nothing is allowed = quiet Nothing is (λ u s. refl)

pub based_follow : BasedFollow
based_follow o h e live opening legal stands based =
    follows o h e live opening legal stands based (effect_of e) refl (lawful_is_allowed o h e legal.0)
