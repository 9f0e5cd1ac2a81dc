-- One step of taking back, and lists of changes.
use Rattle.std.specs.Prelude.{◌≡◌, ℕ, zero, suc, ◌-◌, ◌<◌, ◌≤◌, ◌&&◌, ◌||◌, nat_lt, Bool, true, false, List, [], ◌∷◌, length, take, drop, Option, Some, None, IfNone, cond, refl}
use Rattle.std.proofs.Common.{sym, ◌∙◌, ap, subst, arith}
use Rattle.std.proofs.lemmas.Bool.{false≢true, ltb-true, lt-ltb, le-ltb}
use Rattle.std.specs.List.{list_any}
use Rattle.mg_undo.specs.declared.changes.Change.{Change}
use Rattle.mg_undo.specs.declared.points.Standing.{Standing}
use Rattle.mg_undo.specs.Undo.{State, state_of, Taken, is_goal, from_goal, AreWithin, repeats, settled, goal_of, floor_of, arrived_at, give_newest, take_to, take_back, newest}

-- ---- one of the first so many

pub any_more : {A : Type 0} (test : A → Bool) (n : ℕ) (x : A) (xs : List A) → 0 < n
    → list_any test (take n (x ∷ xs)) ≡ (test x || list_any test (take (n - 1) xs))
any_more test zero x xs some = absurd (omega arith)
any_more test (suc n) x xs some = let less : suc n - 1 ≡ n = omega arith in rw less refl

-- ---- changes that repeat an earlier one

pub settled_low : (floor : ℕ) (changes : List Change) → length changes ≤ floor
    → settled floor changes ≡ changes
settled_low floor [] low = refl
settled_low floor (c ∷ cs) low =
    let above : nat_lt floor (length (c ∷ cs)) ≡ false = le-ltb floor (length (c ∷ cs)) low in
    rw above refl

pub settled_kept : (floor : ℕ) (changes : List Change) → repeats floor changes ≡ false
    → settled floor changes ≡ changes
settled_kept floor [] kept = refl
settled_kept floor (c ∷ cs) kept = at (nat_lt floor (length (c ∷ cs)))
  where
    at : (b : Bool) → cond (b && repeats floor (c ∷ cs)) (settled floor cs) (c ∷ cs) ≡ c ∷ cs
    at true = rw kept refl
    at false = refl

pub settled_long : (floor : ℕ) (changes : List Change) → floor ≤ length changes
    → floor ≤ length (settled floor changes)
settled_long floor [] high = high
settled_long floor (c ∷ cs) high =
    at (nat_lt floor (length (c ∷ cs))) refl (repeats floor (c ∷ cs)) (settled_long floor cs)
  where
    at : (b : Bool) → nat_lt floor (length (c ∷ cs)) ≡ b → (r : Bool)
        → (floor ≤ length cs → floor ≤ length (settled floor cs))
        → floor ≤ length (cond (b && r) (settled floor cs) (c ∷ cs))
    at true above true more =
        more (omega (arith, ltb-true floor (length (c ∷ cs)) above))
    at true above false more = high
    at false above r more = high

-- ---- points

-- a bound on the points may be raised
pub within_more : (low high : ℕ) (points : List Standing) → low ≤ high → AreWithin low points
    → AreWithin high points
within_more low high [] more within = tt
within_more low high (p ∷ ps) more within =
    let under : p.at ≤ low = within.0 in (omega arith, within.1)

pub from_within : (name : Option (List ℕ)) (most : ℕ) (points : List Standing)
    → AreWithin most points → AreWithin most (from_goal name points)
from_within name most [] within = tt
from_within name most (p ∷ ps) within =
    at (is_goal name p) (from_within name most ps (within_more p.at most ps within.0 within.1))
  where
    at : (b : Bool) → AreWithin most (from_goal name ps)
        → AreWithin most (cond b (p ∷ ps) (from_goal name ps))
    at true more = within
    at false more = more

pub goal_within : (going_back : Bool) (most : ℕ) (points : List Standing) → AreWithin most points
    → AreWithin most (goal_of going_back points)
goal_within true most points within = within
goal_within false most points within = from_within None most points within

-- where a point of the name stands, it is found
pub goal_found : (name : Option (List ℕ)) (points : List Standing)
    → list_any (is_goal name) points ≡ true → (floor_of (from_goal name points) ≡ None → ⊥)
goal_found name [] has none = false≢true has
goal_found name (p ∷ ps) has none = at (is_goal name p) has none (goal_found name ps)
  where
    at : (b : Bool) → (b || list_any (is_goal name) ps) ≡ true
        → floor_of (cond b (p ∷ ps) (from_goal name ps)) ≡ None
        → (list_any (is_goal name) ps ≡ true → (floor_of (from_goal name ps) ≡ None → ⊥)) → ⊥
    at true has none more = cc
    at false has none more = more has none

pub goal_missed : (name : Option (List ℕ)) (points : List Standing)
    → list_any (is_goal name) points ≡ false → from_goal name points ≡ []
goal_missed name [] has = refl
goal_missed name (p ∷ ps) has = at (is_goal name p) has (goal_missed name ps)
  where
    at : (b : Bool) → (b || list_any (is_goal name) ps) ≡ false
        → (list_any (is_goal name) ps ≡ false → from_goal name ps ≡ [])
        → cond b (p ∷ ps) (from_goal name ps) ≡ []
    at true has more = absurd (false≢true (sym has))
    at false has more = more has

-- ---- one step

floor_none : (points : List Standing) → floor_of points ≡ None → points ≡ []
floor_none [] none = refl
floor_none (p ∷ ps) none = absurd cc

-- no point stands to go back to
pub take_none : (changes : List Change) (points : List Standing) (going_back : Bool)
    → floor_of (goal_of going_back points) ≡ None
    → take_back (state_of changes points going_back)
    ≡ record { given = None; after = state_of changes points false }
take_none changes points going_back none =
    ap (take_to (state_of changes points going_back)) (floor_none (goal_of going_back points) none)

arrived_low : (going_back : Bool) (p : Standing) (ps : List Standing) (rest : List Change)
    → length rest ≤ p.at → give_newest going_back p ps rest ≡ arrived_at going_back p ps rest
arrived_low going_back p ps [] low = refl
arrived_low going_back p ps (c ∷ cs) low =
    let above : nat_lt p.at (length (c ∷ cs)) ≡ false = le-ltb p.at (length (c ∷ cs)) low in
    rw above refl

-- it has come to the point
pub take_arrived : (changes : List Change) (points : List Standing) (going_back : Bool) (floor : ℕ)
    → floor_of (goal_of going_back points) ≡ Some floor → length (settled floor changes) ≤ floor
    → take_back (state_of changes points going_back)
    ≡ record {
      given = None;
      after = state_of (settled floor changes)
          (cond going_back (goal_of going_back points) (drop 1 (goal_of going_back points))) false;
    }
take_arrived changes points going_back floor is low = at (goal_of going_back points) is
  where
    at : (goals : List Standing) → floor_of goals ≡ Some floor
        → take_to (state_of changes points going_back) goals
        ≡ record {
          given = None;
          after = state_of (settled floor changes) (cond going_back goals (drop 1 goals)) false;
        }
    at [] is = absurd cc
    at (p ∷ ps) is =
        let same : floor ≡ p.at = cc in
        let P : ℕ → Type 0 = λ n. length (settled n changes) ≤ n in
        arrived_low going_back p ps (settled p.at changes) (subst P same low)
        ∙ ap (λ n. record {
          given = None;
          after = state_of (settled n changes) (cond going_back (p ∷ ps) ps) false;
        }) (sym same)

popped_high : (going_back : Bool) (p : Standing) (ps : List Standing) (rest : List Change)
    → p.at < length rest → give_newest going_back p ps rest
    ≡ record { given = newest rest; after = state_of (drop 1 rest) (p ∷ ps) going_back }
popped_high going_back p ps [] high = absurd (omega arith)
popped_high going_back p ps (c ∷ cs) high =
    let above : nat_lt p.at (length (c ∷ cs)) ≡ true = lt-ltb p.at (length (c ∷ cs)) high in
    rw above refl

-- a change is given
pub take_popped : (changes : List Change) (points : List Standing) (going_back : Bool) (floor : ℕ)
    → floor_of (goal_of going_back points) ≡ Some floor → floor < length (settled floor changes)
    → take_back (state_of changes points going_back)
    ≡ record {
      given = newest (settled floor changes);
      after = state_of (drop 1 (settled floor changes)) (goal_of going_back points) going_back;
    }
take_popped changes points going_back floor is high = at (goal_of going_back points) is
  where
    at : (goals : List Standing) → floor_of goals ≡ Some floor
        → take_to (state_of changes points going_back) goals
        ≡ record {
          given = newest (settled floor changes);
          after = state_of (drop 1 (settled floor changes)) goals going_back;
        }
    at [] is = absurd cc
    at (p ∷ ps) is =
        let same : floor ≡ p.at = cc in
        let P : ℕ → Type 0 = λ n. n < length (settled n changes) in
        popped_high going_back p ps (settled p.at changes) (subst P same high)
        ∙ ap (λ n. record {
          given = newest (settled n changes);
          after = state_of (drop 1 (settled n changes)) (p ∷ ps) going_back;
        }) (sym same)

-- a step leaves the points within the changes
pub take_within : (state : State) → AreWithin (length state.changes) state.points
    → AreWithin (length (take_back state).after.changes) (take_back state).after.points
take_within state within =
    at (goal_of state.going_back state.points)
    (goal_within state.going_back (length state.changes) state.points within)
  where
    arrived : (b : Bool) (p : Standing) (ps : List Standing) (rest : List Change)
        → AreWithin p.at ps → p.at ≤ length rest
        → AreWithin (length rest) (cond b (p ∷ ps) ps)
    arrived true p ps rest below high = (high, below)
    arrived false p ps rest below high = within_more p.at (length rest) ps high below

    given : (b : Bool) (p : Standing) (ps : List Standing) (rest : List Change) → AreWithin p.at ps
        → p.at ≤ length rest → AreWithin (length (give_newest b p ps rest).after.changes)
        (give_newest b p ps rest).after.points
    given b p ps [] below high = arrived b p ps [] below high
    given b p ps (c ∷ cs) below high = split (nat_lt p.at (length (c ∷ cs))) refl
      where
        split : (above : Bool) → nat_lt p.at (length (c ∷ cs)) ≡ above
            → AreWithin (length (cond {A = Taken} above
            record { given = Some c; after = state_of cs (p ∷ ps) b }
            (arrived_at b p ps (c ∷ cs))).after.changes)
            (cond {A = Taken} above record { given = Some c; after = state_of cs (p ∷ ps) b }
            (arrived_at b p ps (c ∷ cs))).after.points
        split true above =
            let less : p.at < length (c ∷ cs) = ltb-true p.at (length (c ∷ cs)) above in
            (omega (arith, less), below)
        split false above = arrived b p ps (c ∷ cs) below high

    at : (goals : List Standing) → AreWithin (length state.changes) goals
        → AreWithin (length (take_to state goals).after.changes) (take_to state goals).after.points
    at [] none = within
    at (p ∷ ps) held =
        given state.going_back p ps (settled p.at state.changes) held.1
        (settled_long p.at state.changes held.0)

-- the same points, known by another name
pub held_at : (most : ℕ) (new old : List Standing) → new ≡ old → AreWithin most old
    → AreWithin most new
held_at most new old is within =
    let P : List Standing → Type 0 = λ points. AreWithin most points in subst P (sym is) within

pub no_floor : (going_back : Bool) (points : List Standing) → going_back ≡ false
    → list_any (is_goal None) points ≡ false → None ≡ floor_of (goal_of going_back points)
no_floor true points back has = absurd (false≢true (sym back))
no_floor false points back has = sym (ap floor_of (goal_missed None points has))

pub some_floor : (found : Option ℕ) (points : List Standing) (P : Type 0)
    → found ≡ floor_of (from_goal None points) → list_any (is_goal None) points ≡ true
    → IfNone found P
some_floor None points P is has = absurd (goal_found None points has (sym is))
some_floor (Some at) points P is has = tt

pub within_after : (old : State) (changes : List Change) (points : List Standing)
    → changes ≡ (take_back old).after.changes → points ≡ (take_back old).after.points
    → AreWithin (length old.changes) old.points → AreWithin (length changes) points
within_after old changes points same_changes same_points within =
    let P : List Change → Type 0 = λ cs. AreWithin (length cs) points in
    subst P (sym same_changes)
    (held_at (length (take_back old).after.changes) points (take_back old).after.points same_points
    (take_within old within))
