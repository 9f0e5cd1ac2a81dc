-- Snapshots as numbers: each end has a number, a base is the number of the last end, and it sees who had ended by then.
-- A transaction without a place has ended before, so that every base sees it.
use Rattle.std.proofs.Common.{◌≡◌, ◌≢◌, ℕ, ◌+◌, ◌<◌, ◌≤◌, max, Bool, true, false, not, ◌&&◌, ◌==◌, nat_lt, cond, if◌then◌else◌, ◌⊎◌, inl, inr, List, [], ◌∷◌, ◌++◌, map, Option, Some, None, is_some, IsSome, refl, sym, ap, subst, ◌∙◌, arith, eq-eqb, lt-ltb, le-ltb}
use Rattle.std.specs.List.{list_any}
use Rattle.std.proofs.lemmas.Bool.{cases_eq, ne_eqb, eqb-true, ltb-true, ltb-false, both_ways}
use Rattle.mg_snap.specs.Live.{Entered, Snapshot, State, base_among, base_now, base_sees, is_among, numbers_of, rebased, unended_in, without}
use Rattle.mg_snap.specs.LiveLaws.{among_more, numbers_more}

-- where a transaction stands: it has no place, it has not ended, or it has ended with a number
pub data Place : Type 0 where
  No_place : Place
  Unended : Place
  Ended : ℕ → Place

-- the number of the last end, and each transaction's place
pub record Ends : Type 0 where
  pub last : ℕ
  pub place : ℕ → Place

-- by a number, a transaction with this place had ended
abbrev pub had_ended : ℕ → Place → Bool
had_ended base No_place = true
had_ended base Unended = false
had_ended base (Ended n) = not (nat_lt base n)

-- a base that is a number sees a transaction
abbrev pub number_sees : ℕ → Ends → ℕ → ℕ → Bool
number_sees next ends base by = nat_lt by next && had_ended base (ends.place by)

-- a transaction has not ended by its place
abbrev pub is_unended : Place → Bool
is_unended No_place = false
is_unended Unended = true
is_unended (Ended n) = false

-- ends are numbered in their order
abbrev pub AreNumbered : Ends → Type 0
AreNumbered ends = (u n : ℕ) → ends.place u ≡ Ended n → n ≤ ends.last

-- those without an end are those that a table has; a base stands for a number
pub record StandsFor (state : State) (ends : Ends) : Type 0 where
  pub numbered : AreNumbered ends
  pub unended : (u : ℕ) → u < state.next → is_unended (ends.place u) ≡ is_among (unended_in state) u

abbrev pub IsNumber : ℕ → Ends → Option Snapshot → Option ℕ → Type 0
IsNumber next ends None None = Unit {0}
IsNumber next ends None (Some base) = ⊥
IsNumber next ends (Some snapshot) None = ⊥
IsNumber next ends (Some snapshot) (Some base) = (base ≤ ends.last)
    × ((by : ℕ) → base_sees (Some snapshot) by ≡ number_sees next ends base by)

-- ---- what calls make of places

-- one transaction has a place, and the others have theirs
abbrev pub put_place : ℕ → Place → (ℕ → Place) → ℕ → Place
put_place t p places u = if u == t then p else places u

abbrev pub ends_entered : ℕ → Ends → Ends
ends_entered t ends = record { last = ends.last; place = put_place t Unended ends.place }

abbrev pub ends_left : ℕ → Ends → Ends
ends_left t ends = record { last = ends.last + 1; place = put_place t (Ended (ends.last + 1)) ends.place }

abbrev pub ends_forgotten : ℕ → Ends → Ends
ends_forgotten t ends = record { last = ends.last; place = put_place t No_place ends.place }

-- ---- a base that is taken now is the number of the last end

had_now : (ends : Ends) (u : ℕ) → AreNumbered ends → had_ended ends.last (ends.place u)
    ≡ not (is_unended (ends.place u))
had_now ends u numbered = at (ends.place u) refl
  where
    at : (p : Place) → ends.place u ≡ p → had_ended ends.last p ≡ not (is_unended p)
    at No_place is = refl
    at Unended is = refl
    at (Ended n) is = ap not (le-ltb ends.last n (numbered u n is))

pub base_is_last : (state : State) (ends : Ends) → StandsFor state ends
    → IsNumber state.next ends (Some (base_now state)) (Some ends.last)
base_is_last state ends stands = (omega arith, λ by. at by (nat_lt by state.next) refl)
  where
    at : (by : ℕ) (b : Bool) → nat_lt by state.next ≡ b
        → (nat_lt by state.next && not (is_among (unended_in state) by))
        ≡ (nat_lt by state.next && had_ended ends.last (ends.place by))
    at by true is = rw is (ap not (sym (stands.unended by (ltb-true by state.next is)))
        ∙ sym (had_now ends by stands.numbered))
    at by false is = rw is refl

-- ---- the other bases stay numbers

module _ (next t : ℕ) (ends : Ends) (snapshot : Snapshot) (base : ℕ)
    (is : IsNumber next ends (Some snapshot) (Some base)) where
  others : (by : ℕ) (p : Place) → by ≢ t → had_ended base (put_place t p ends.place by)
      ≡ had_ended base (ends.place by)
  others by p ne = ap (λ (b : Bool). had_ended base (cond b p (ends.place by))) (ne_eqb by t ne)

  its : (p : Place) → had_ended base (put_place t p ends.place t) ≡ had_ended base p
  its p = ap (λ (b : Bool). had_ended base (cond b p (ends.place t))) (eq-eqb t t refl)

  -- the next one enters
  pub enters_stays : t ≡ next → IsNumber (next + 1) (ends_entered t ends) (Some snapshot) (Some base)
  enters_stays drawn = (is.0, λ by. at by (cases_eq by t))
    where
      at : (by : ℕ) → (by ≡ t) ⊎ (by ≢ t) → base_sees (Some snapshot) by
          ≡ (nat_lt by (next + 1) && had_ended base (put_place t Unended ends.place by))
      at by (inl same) =
          let none : nat_lt by next ≡ false = le-ltb by next (omega (arith, same, drawn)) in
          let off : had_ended base (put_place t Unended ends.place by) ≡ false =
          ap (λ (u : ℕ). had_ended base (put_place t Unended ends.place u)) same ∙ its Unended in
          is.1 by ∙ rw (none, off) (sym (and_false (nat_lt by (next + 1))))
        where
          and_false : (b : Bool) → (b && false) ≡ false
          and_false true = refl
          and_false false = refl
      at by (inr ne) = is.1 by ∙ (ap (λ (b : Bool). b && had_ended base (ends.place by)) (later (nat_lt by next) refl)
          ∙ ap (λ (b : Bool). nat_lt by (next + 1) && b) (sym (others by Unended ne)))
        where
          later : (b : Bool) → nat_lt by next ≡ b → nat_lt by next ≡ nat_lt by (next + 1)
          later true e = e ∙ sym (lt-ltb by (next + 1) (let less = ltb-true by next e in omega (arith, less)))
          later false e = e ∙ sym (le-ltb by (next + 1) (let more = ltb-false by next e in omega (arith, more, ne, drawn)))

  -- one that has not ended leaves, with the next number
  pub leaves_stays : ends.place t ≡ Unended → IsNumber next (ends_left t ends) (Some snapshot) (Some base)
  leaves_stays open_ = (
    omega (arith, is.0),
    λ by. is.1 by
        ∙ ap (λ (b : Bool). nat_lt by next && b) (at by (cases_eq by t)),
  )
    where
      at : (by : ℕ) → (by ≡ t) ⊎ (by ≢ t)
          → had_ended base (ends.place by) ≡ had_ended base (put_place t (Ended (ends.last + 1)) ends.place by)
      at by (inl same) =
          let was : had_ended base (ends.place by) ≡ false =
          ap (λ (u : ℕ). had_ended base (ends.place u)) same ∙ ap (had_ended base) open_ in
          let later : nat_lt base (ends.last + 1) ≡ true = lt-ltb base (ends.last + 1) (omega (arith, is.0)) in
          was ∙ sym (ap (λ (u : ℕ). had_ended base (put_place t (Ended (ends.last + 1)) ends.place u)) same
          ∙ (its (Ended (ends.last + 1)) ∙ ap not later))
      at by (inr ne) = sym (others by (Ended (ends.last + 1)) ne)

  -- the place of one that has ended, and that the base sees, may be forgotten
  pub forgotten_stays : had_ended base (ends.place t) ≡ true
      → IsNumber next (ends_forgotten t ends) (Some snapshot) (Some base)
  forgotten_stays seen = (is.0, λ by. is.1 by ∙ ap (λ (b : Bool). nat_lt by next && b) (at by (cases_eq by t)))
    where
      at : (by : ℕ) → (by ≡ t) ⊎ (by ≢ t)
          → had_ended base (ends.place by) ≡ had_ended base (put_place t No_place ends.place by)
      at by (inl same) = ap (λ (u : ℕ). had_ended base (ends.place u)) same ∙ (seen
          ∙ sym (ap (λ (u : ℕ). had_ended base (put_place t No_place ends.place u)) same ∙ its No_place))
      at by (inr ne) = sym (others by No_place ne)
