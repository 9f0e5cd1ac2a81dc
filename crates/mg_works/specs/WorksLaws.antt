-- What calls make of works, transaction by transaction and session by session.
use Rattle.std.proofs.Common.{◌≡◌, ◌≢◌, ℕ, suc, zero, Bool, true, false, not, ◌==◌, ◌||◌, ◌⊎◌, inl, inr, List, [], ◌∷◌, ◌++◌, get_or, set, Option, Some, None, arith, sym, ◌∙◌, ap, refl, cond}
use Rattle.std.proofs.lemmas.Bool.{cases_eq, eq-eqb, ne_eqb}
use Rattle.mg_works.specs.Works.{AreApart, IsNowhere, IsPlaceOf, IsWork, Working, has_session, with_work, without_work, work_of}

-- ---- places

-- at no place a transaction has no work
pub nowhere_none : (works : List Working) (t : ℕ) → IsNowhere works t → work_of works t ≡ None
nowhere_none [] t nowhere = refl
nowhere_none (w ∷ works) t nowhere = rw (ne_eqb w.number t (nowhere 0 w (omega arith)))
    (nowhere_none works t (λ k d low. nowhere (suc k) d (omega (arith, low))))

-- its first place has its work
pub place_some : (works : List Working) (t place : ℕ) (d : Working) → IsPlaceOf works t place
    → work_of works t ≡ Some (get_or works place d)
place_some [] t place d is = absurd (let inside = is.inside in omega (arith, inside))
place_some (w ∷ works) t zero d is = rw (eq-eqb w.number t (is.its w)) refl
place_some (w ∷ works) t (suc place) d is = rw (ne_eqb w.number t (is.first 0 w (omega arith)))
    (place_some works t place d (record {
      inside = let inside = is.inside in omega (arith, inside);
      its = is.its;
      first = λ k e low. is.first (suc k) e (omega (arith, low));
    }))

-- ---- another work in place of one

-- where a transaction has no work nothing changes
pub none_untouched : (works : List Working) (t : ℕ) (made : Working → Working) → work_of works t ≡ None
    → with_work t made works ≡ works
none_untouched [] t made none = refl
none_untouched (w ∷ works) t made none = at (w.number == t) (none_untouched works t made) none
  where
    at : (b : Bool) → (work_of works t ≡ None → with_work t made works ≡ works)
        → cond b (Some w) (work_of works t) ≡ None
        → cond b (made w) w ∷ with_work t made works ≡ w ∷ works
    at true more none = absurd cc
    at false more none = ap (λ (ws : List Working). w ∷ ws) (more none)

-- the place of a transaction is set
pub set_is_with : (works : List Working) (t place : ℕ) (made : Working → Working) (d : Working)
    → AreApart works → IsPlaceOf works t place
    → set works place (made (get_or works place d)) ≡ with_work t made works
set_is_with [] t place made d apart is = absurd (let inside = is.inside in omega (arith, inside))
set_is_with (w ∷ works) t zero made d apart is = rw (eq-eqb w.number t (is.its w))
    (ap (λ (ws : List Working). made w ∷ ws) (sym (none_untouched works t made
    (ap (work_of works) (sym (is.its w)) ∙ apart.0))))
set_is_with (w ∷ works) t (suc place) made d apart is = rw (ne_eqb w.number t (is.first 0 w (omega arith)))
    (ap (λ (ws : List Working). w ∷ ws) (set_is_with works t place made d apart.3 (record {
      inside = let inside = is.inside in omega (arith, inside);
      its = is.its;
      first = λ k e low. is.first (suc k) e (omega (arith, low));
    })))

-- Another work, which keeps its number and its session.
module _ (t : ℕ) (made : Working → Working) (number : (w : Working) → (made w).number ≡ w.number)
    (session : (w : Working) → (made w).session ≡ w.session) where
  -- others have what they had
  pub with_others : (works : List Working) (u : ℕ) → u ≢ t
      → work_of (with_work t made works) u ≡ work_of works u
  with_others [] u apart = refl
  with_others (w ∷ works) u apart = at (cases_eq w.number t) (with_others works u apart)
    where
      at : (w.number ≡ t) ⊎ (w.number ≢ t) → work_of (with_work t made works) u ≡ work_of works u
          → work_of (with_work t made (w ∷ works)) u ≡ work_of (w ∷ works) u
      at (inl same) more = rw (eq-eqb w.number t same)
          (rw (
            ne_eqb (made w).number u (λ e. apart (sym e ∙ (number w ∙ same))),
            ne_eqb w.number u (λ e. apart (sym e ∙ same)),
          ) more)
      at (inr off) more = rw (ne_eqb w.number t off)
          (ap (λ (o : Option Working). cond (w.number == u) (Some w) o) more)

  -- it has the other one
  pub with_its : (works : List Working) (w : Working) → work_of works t ≡ Some w
      → work_of (with_work t made works) t ≡ Some (made w)
  with_its [] w found = absurd cc
  with_its (x ∷ works) w found = at (cases_eq x.number t) (with_its works w)
    where
      some : (a b : Working) → Some a ≡ Some b → a ≡ b
      some a b e = cc

      at : (x.number ≡ t) ⊎ (x.number ≢ t)
          → (work_of works t ≡ Some w → work_of (with_work t made works) t ≡ Some (made w))
          → work_of (with_work t made (x ∷ works)) t ≡ Some (made w)
      at (inl same) more = rw (eq-eqb x.number t same)
          (rw (eq-eqb (made x).number t (number x ∙ same))
          (ap (λ (y : Working). Some (made y)) (some x w (rw (eq-eqb x.number t same) at found))))
      at (inr off) more = rw (ne_eqb x.number t off)
          (rw (ne_eqb x.number t off) (more (rw (ne_eqb x.number t off) at found)))

  -- nobody comes, and nobody goes
  pub with_none : (works : List Working) (u : ℕ) → work_of works u ≡ None
      → work_of (with_work t made works) u ≡ None
  with_none works u none = elim (cases_eq u t) [
    | inl same ↦ ap (λ (ws : List Working). work_of ws u) (none_untouched works t made
        (ap (work_of works) (sym same) ∙ none)) ∙ none
    | inr apart ↦ with_others works u apart ∙ none
  ]

  pub with_sessions : (works : List Working) (s : ℕ)
      → has_session (with_work t made works) s ≡ has_session works s
  with_sessions [] s = refl
  with_sessions (w ∷ works) s = at (w.number == t) (with_sessions works s)
    where
      at : (b : Bool) → has_session (with_work t made works) s ≡ has_session works s
          → ((cond b (made w) w).session == s || has_session (with_work t made works) s)
          ≡ (w.session == s || has_session works s)
      at true more = rw (session w, more) refl
      at false more = ap (λ (c : Bool). w.session == s || c) more

  pub with_apart : ((w : Working) → IsWork w → IsWork (made w)) → (works : List Working)
      → AreApart works → AreApart (with_work t made works)
  with_apart lawful [] apart = tt
  with_apart lawful (w ∷ works) apart = at (w.number == t) (with_apart lawful works apart.3)
    where
      at : (b : Bool) → AreApart (with_work t made works)
          → AreApart (cond b (made w) w ∷ with_work t made works)
      at true more = (
        with_none works (made w).number (ap (work_of works) (number w) ∙ apart.0),
        with_sessions works (made w).session ∙ (ap (has_session works) (session w) ∙ apart.1),
        lawful w apart.2,
        more,
      )
      at false more = (
        with_none works w.number apart.0,
        with_sessions works w.session ∙ apart.1,
        apart.2,
        more,
      )

-- ---- one that is gone

-- others have what they had
pub without_others : (works : List Working) (t u : ℕ) → u ≢ t
    → work_of (without_work t works) u ≡ work_of works u
without_others [] t u apart = refl
without_others (w ∷ works) t u apart = at (cases_eq w.number t) (without_others works t u apart)
  where
    at : (w.number ≡ t) ⊎ (w.number ≢ t) → work_of (without_work t works) u ≡ work_of works u
        → work_of (without_work t (w ∷ works)) u ≡ work_of (w ∷ works) u
    at (inl same) more = rw (eq-eqb w.number t same)
        (more ∙ sym (rw (ne_eqb w.number u (λ e. apart (sym e ∙ same))) refl))
    at (inr off) more = rw (ne_eqb w.number t off)
        (ap (λ (o : Option Working). cond (w.number == u) (Some w) o) more)

-- it has none
pub without_its : (works : List Working) (t : ℕ) → work_of (without_work t works) t ≡ None
without_its [] t = refl
without_its (w ∷ works) t = at (cases_eq w.number t) (without_its works t)
  where
    at : (w.number ≡ t) ⊎ (w.number ≢ t) → work_of (without_work t works) t ≡ None
        → work_of (without_work t (w ∷ works)) t ≡ None
    at (inl same) more = rw (eq-eqb w.number t same) more
    at (inr off) more = rw (ne_eqb w.number t off) (rw (ne_eqb w.number t off) more)

none_without : (works : List Working) (t u : ℕ) → work_of works u ≡ None
    → work_of (without_work t works) u ≡ None
none_without works t u none = elim (cases_eq u t) [
  | inl same ↦ ap (work_of (without_work t works)) same ∙ without_its works t
  | inr apart ↦ without_others works t u apart ∙ none
]

-- a session that was free is free
pub without_free : (works : List Working) (t s : ℕ) → has_session works s ≡ false
    → has_session (without_work t works) s ≡ false
without_free [] t s free = refl
without_free (w ∷ works) t s free = at (w.number == t) (w.session == s) refl free (without_free works t s)
  where
    at : (b c : Bool) → (w.session == s) ≡ c → (c || has_session works s) ≡ false
        → (has_session works s ≡ false → has_session (without_work t works) s ≡ false)
        → has_session (cond (not b) (w ∷ without_work t works) (without_work t works)) s ≡ false
    at b true is free more = absurd cc
    at true false is free more = more free
    at false false is free more = rw is (more free)

pub without_apart : (works : List Working) (t : ℕ) → AreApart works → AreApart (without_work t works)
without_apart [] t apart = tt
without_apart (w ∷ works) t apart = at (w.number == t) (without_apart works t apart.3)
  where
    at : (b : Bool) → AreApart (without_work t works)
        → AreApart (cond (not b) (w ∷ without_work t works) (without_work t works))
    at true more = more
    at false more = (
      none_without works t w.number apart.0,
      without_free works t w.session apart.1,
      apart.2,
      more,
    )

-- where it has none nothing goes
pub none_without_change : (works : List Working) (t : ℕ) → work_of works t ≡ None
    → without_work t works ≡ works
none_without_change [] t none = refl
none_without_change (w ∷ works) t none = at (w.number == t) (none_without_change works t) none
  where
    at : (b : Bool) → (work_of works t ≡ None → without_work t works ≡ works)
        → cond b (Some w) (work_of works t) ≡ None
        → cond (not b) (w ∷ without_work t works) (without_work t works) ≡ w ∷ works
    at true more none = absurd cc
    at false more none = ap (λ (ws : List Working). w ∷ ws) (more none)

-- ---- one more

pub more_others : (works : List Working) (w : Working) (u : ℕ) → u ≢ w.number
    → work_of (works ++ w ∷ []) u ≡ work_of works u
more_others [] w u apart = rw (ne_eqb w.number u (λ e. apart (sym e))) refl
more_others (x ∷ works) w u apart =
    ap (λ (o : Option Working). cond (x.number == u) (Some x) o) (more_others works w u apart)

pub more_its : (works : List Working) (w : Working) → work_of works w.number ≡ None
    → work_of (works ++ w ∷ []) w.number ≡ Some w
more_its [] w none = rw (eq-eqb w.number w.number refl) refl
more_its (x ∷ works) w none = at (x.number == w.number) none (more_its works w)
  where
    at : (b : Bool) → cond b (Some x) (work_of works w.number) ≡ None
        → (work_of works w.number ≡ None → work_of (works ++ w ∷ []) w.number ≡ Some w)
        → cond b (Some x) (work_of (works ++ w ∷ []) w.number) ≡ Some w
    at true none more = absurd cc
    at false none more = more none

pub more_sessions : (works : List Working) (w : Working) (s : ℕ)
    → has_session (works ++ w ∷ []) s ≡ (has_session works s || w.session == s)
more_sessions [] w s = nothing (w.session == s)
  where
    nothing : (b : Bool) → (b || false) ≡ (false || b)
    nothing true = refl
    nothing false = refl
more_sessions (x ∷ works) w s = at (x.session == s) (more_sessions works w s)
  where
    at : (b : Bool) → has_session (works ++ w ∷ []) s ≡ (has_session works s || w.session == s)
        → (b || has_session (works ++ w ∷ []) s) ≡ ((b || has_session works s) || w.session == s)
    at true more = refl
    at false more = more

pub more_apart : (works : List Working) (w : Working) → AreApart works → work_of works w.number ≡ None
    → has_session works w.session ≡ false → IsWork w → AreApart (works ++ w ∷ [])
more_apart [] w apart none free lawful = (refl, refl, lawful, tt)
more_apart (x ∷ works) w apart none free lawful = (
  more_others works w x.number (λ e. off e none) ∙ apart.0,
  more_sessions works w x.session ∙ free_of (has_session works x.session) (w.session == x.session) apart.1
      (ne_eqb w.session x.session (λ e. taken e free)),
  apart.2,
  more_apart works w apart.3 (rest (x.number == w.number) none) (rest_free (x.session == w.session) free) lawful,
)
  where
    off : x.number ≡ w.number → work_of (x ∷ works) w.number ≡ None → ⊥
    off e none = absurd (let h : Some x ≡ None = rw (eq-eqb x.number w.number e) at none in cc)

    taken : w.session ≡ x.session → has_session (x ∷ works) w.session ≡ false → ⊥
    taken e free = absurd (let h : true ≡ false = rw (eq-eqb x.session w.session (sym e)) at free in cc)

    free_of : (a b : Bool) → a ≡ false → b ≡ false → (a || b) ≡ false
    free_of a b one two = rw one two

    rest : (b : Bool) → cond b (Some x) (work_of works w.number) ≡ None → work_of works w.number ≡ None
    rest true none = absurd cc
    rest false none = none

    rest_free : (b : Bool) → (b || has_session works w.session) ≡ false → has_session works w.session ≡ false
    rest_free true free = absurd cc
    rest_free false free = free

-- one that begins and is gone again: all is as before
pub begun_and_gone : (works : List Working) (w : Working) → work_of works w.number ≡ None
    → without_work w.number (works ++ w ∷ []) ≡ works
begun_and_gone [] w none = rw (eq-eqb w.number w.number refl) refl
begun_and_gone (x ∷ works) w none = at (x.number == w.number) refl none (begun_and_gone works w)
  where
    at : (b : Bool) → (x.number == w.number) ≡ b → cond b (Some x) (work_of works w.number) ≡ None
        → (work_of works w.number ≡ None → without_work w.number (works ++ w ∷ []) ≡ works)
        → without_work w.number (x ∷ works ++ w ∷ []) ≡ x ∷ works
    at true is none more = absurd cc
    at false is none more = rw is (ap (λ (ws : List Working). x ∷ ws) (more none))
