-- A transaction taken back: back to the newest step that sets the point.
use Rattle.std.proofs.Common.{◌≡◌, ℕ, zero, suc, ◌+◌, ◌-◌, ◌<◌, ◌≤◌, ◌==◌, ◌&&◌, ◌||◌, Bool, true, false, List, [], ◌∷◌, ◌++◌, length, take, drop, Option, Some, None, refl, sym, ◌∙◌, ap, cond, get_or, arith, eq-eqb, ne_eqb}
use Rattle.std.proofs.lemmas.List.{get_or_read}
use Rattle.std.specs.Prelude.{is_some}
use Rattle.std.specs.List.{remove}
use Rattle.mg_model.specs.declared.change.Step.{Step}
use Rattle.mg_model.specs.declared.change.Point.{Point}
use Rattle.mg_model.specs.declared.change.Point.TheVariants.{LastMark, SavepointNamed}
use Rattle.mg_model.specs.Machine.{is_point, has_point, back_to, taken_back}
use Rattle.mg_plain.specs.TakenBack.{first_point_from, first_point, span, without_by, cleared, nobody}

-- the first of the steps that are cleared, and the rest
pub cleared_front : (t m : ℕ) (y : Step) (x : List Step)
    → cleared t (suc m) (y ∷ x) ≡ cond (y.by.0 == t) (cleared t m x) (y ∷ cleared t m x)
cleared_front t m y x = at (y.by.0 == t)
  where
    at : (b : Bool) → cond b (without_by t (take m x)) (y ∷ without_by t (take m x)) ++ drop m x
        ≡ cond b (without_by t (take m x) ++ drop m x) (y ∷ (without_by t (take m x) ++ drop m x))
    at true = refl
    at false = refl

-- the steps without the one at a place, if it is the transaction's
abbrev pub one_cleared : ℕ → ℕ → List Step → List Step
one_cleared t n s = cond ((get_or s n nobody).by.0 == t) (remove s n) s

-- the step at a place, as it was read, is another's, or was taken out
pub one_other : (t n : ℕ) (s : List Step) (x : Step) → n < length s → x ≡ get_or s n x → (x.by.0 ≡ t → ⊥)
    → s ≡ one_cleared t n s
one_other t n s x inside is other =
    let at : x ≡ get_or s n nobody = get_or_read s n x inside is nobody in
    let test : (x.by.0 == t) ≡ false = ne_eqb x.by.0 t other in
    ap (λ (b : Bool). cond b (remove s n) s) (sym test) ∙ ap (λ (y : Step). cond (y.by.0 == t) (remove s n) s) at

pub one_taken : (t n : ℕ) (s new : List Step) (x : Step) → n < length s → x ≡ get_or s n x → x.by.0 ≡ t
    → new ≡ remove s n → new ≡ one_cleared t n s
one_taken t n s new x inside is mine taken =
    let at : x ≡ get_or s n nobody = get_or_read s n x inside is nobody in
    let test : (x.by.0 == t) ≡ true = eq-eqb x.by.0 t mine in
    taken ∙ (ap (λ (b : Bool). cond b (remove s n) s) (sym test)
    ∙ ap (λ (y : Step). cond (y.by.0 == t) (remove s n) s) at)

pub cleared_one : (t n : ℕ) (s : List Step) → n < length s
    → cleared t n (one_cleared t n s) ≡ cleared t (n + 1) s
cleared_one t n [] below = absurd (omega arith)
cleared_one t zero (y ∷ s) below = at (y.by.0 == t)
  where
    at : (b : Bool) → cleared t 0 (cond b (remove (y ∷ s) 0) (y ∷ s))
        ≡ cond b [] (y ∷ []) ++ s
    at true = refl
    at false = refl
cleared_one t (suc n) (y ∷ s) below =
    let more : suc (n + 1) ≡ suc n + 1 = omega arith in
    inner ((get_or s n nobody).by.0 == t) (cleared_one t n s (omega arith))
    ∙ (sym (cleared_front t (n + 1) y s) ∙ ap (λ (m : ℕ). cleared t m (y ∷ s)) more)
  where
    inner : (other : Bool) → cleared t n (cond other (remove s n) s) ≡ cleared t (n + 1) s
        → cleared t (suc n) (cond other (remove (y ∷ s) (suc n)) (y ∷ s))
        ≡ cond (y.by.0 == t) (cleared t (n + 1) s) (y ∷ cleared t (n + 1) s)
    inner true is = cleared_front t n y (remove s n)
        ∙ ap (λ (x : List Step). cond (y.by.0 == t) x (y ∷ x)) is
    inner false is = cleared_front t n y s ∙ ap (λ (x : List Step). cond (y.by.0 == t) x (y ∷ x)) is

pub one_long : (t n : ℕ) (s : List Step) → n < length s → n ≤ length (one_cleared t n s)
one_long t n [] below = absurd (omega arith)
one_long t zero (y ∷ s) below = omega arith
one_long t (suc n) (y ∷ s) below =
    at ((get_or s n nobody).by.0 == t) (one_long t n s (omega arith))
  where
    at : (b : Bool) → n ≤ length (cond b (remove s n) s)
        → suc n ≤ length (cond b (remove (y ∷ s) (suc n)) (y ∷ s))
    at true le = omega arith
    at false le = omega arith

-- where no step sets the point, nothing is taken back
pub no_point : (k t : ℕ) (point : Point) (s : List Step) → first_point_from k t point s ≡ None
    → has_point t point s ≡ false
no_point k t point [] none = refl
no_point k t point (y ∷ s) none =
    at (y.by.0 == t && is_point point y.deed) (no_point (k + 1) t point s) none
  where
    at : (b : Bool) → (first_point_from (k + 1) t point s ≡ None → has_point t point s ≡ false)
        → cond b (Some k) (first_point_from (k + 1) t point s) ≡ None
        → (b || has_point t point s) ≡ false
    at true more is = absurd cc
    at false more is = more is

pub taken_back_none : (t : ℕ) (point : Point) (s : List Step) → None ≡ first_point t point s
    → s ≡ taken_back t point s
taken_back_none t point s none = rw (no_point 0 t point s (sym none)) refl

-- the newest step that sets the point stands at this place, counted from k
pub record IsBack (k t place : ℕ) (point : Point) (s : List Step) : Type 0 where
  pub from : k ≤ place
  pub inside : place < k + length s
  pub there : has_point t point s ≡ true
  pub back : back_to t point s ≡ cleared t (span point (place - k)) s

-- the newest step sets it
here : (t : ℕ) (point : Point) (y : Step) (s : List Step) → (y.by.0 == t) ≡ true
    → is_point point y.deed ≡ true → back_to t point (y ∷ s) ≡ cleared t (span point 0) (y ∷ s)
here t LastMark y s mine sets = rw (mine, sets) refl
here t (SavepointNamed name) y s mine sets = rw (mine, sets) refl

span_more : (point : Point) (m : ℕ) → span point (m + 1) ≡ suc (span point m)
span_more LastMark m = omega arith
span_more (SavepointNamed name) m = omega arith

-- the newest step is the transaction's, and does not set it
mine_behind : (t m : ℕ) (point : Point) (y : Step) (s : List Step) → (y.by.0 == t) ≡ true
    → is_point point y.deed ≡ false → back_to t point s ≡ cleared t (span point m) s
    → back_to t point (y ∷ s) ≡ cleared t (span point (m + 1)) (y ∷ s)
mine_behind t m point y s mine sets is =
    let left : back_to t point (y ∷ s) ≡ back_to t point s = rw (mine, sets) refl in
    let front : cleared t (suc (span point m)) (y ∷ s) ≡ cleared t (span point m) s =
    cleared_front t (span point m) y s ∙ rw mine refl in
    left ∙ (is ∙ (sym front ∙ ap (λ (n : ℕ). cleared t n (y ∷ s)) (sym (span_more point m))))

-- the newest step is another's
other_behind : (t m : ℕ) (point : Point) (y : Step) (s : List Step) → (y.by.0 == t) ≡ false
    → back_to t point s ≡ cleared t (span point m) s
    → back_to t point (y ∷ s) ≡ cleared t (span point (m + 1)) (y ∷ s)
other_behind t m point y s other is =
    let left : back_to t point (y ∷ s) ≡ y ∷ back_to t point s = rw other refl in
    let front : cleared t (suc (span point m)) (y ∷ s) ≡ y ∷ cleared t (span point m) s =
    cleared_front t (span point m) y s ∙ rw other refl in
    left ∙ (ap (λ (x : List Step). y ∷ x) is
    ∙ (sym front ∙ ap (λ (n : ℕ). cleared t n (y ∷ s)) (sym (span_more point m))))

pub is_back : (k t place : ℕ) (point : Point) (s : List Step)
    → first_point_from k t point s ≡ Some place → IsBack k t place point s
is_back k t place point [] some = absurd cc
is_back k t place point (y ∷ s) some =
    split (y.by.0 == t) refl (is_point point y.deed) refl (is_back (k + 1) t place point s) some
  where
    on : IsBack (k + 1) t place point s → (place - (k + 1) + 1) ≡ place - k
    on more = let f = more.from in omega arith

    split : (mine : Bool) → (y.by.0 == t) ≡ mine → (sets : Bool) → is_point point y.deed ≡ sets
        → (first_point_from (k + 1) t point s ≡ Some place → IsBack (k + 1) t place point s)
        → cond (mine && sets) (Some k) (first_point_from (k + 1) t point s) ≡ Some place
        → IsBack k t place point (y ∷ s)
    split true e true f more is =
        let same : k ≡ place = cc in
        record {
          from = omega arith;
          inside = omega arith;
          there = rw (e, f) refl;
          back = let none : 0 ≡ place - k = omega arith in
              here t point y s e f ∙ ap (λ (n : ℕ). cleared t (span point n) (y ∷ s)) none;
        }
    split true e false f more is =
        let rest = more is in
        record {
          from = let l = rest.from in omega arith;
          inside = let l = rest.inside in omega arith;
          there = rw (e, f) rest.there;
          back = mine_behind t (place - (k + 1)) point y s e f rest.back
              ∙ ap (λ (n : ℕ). cleared t (span point n) (y ∷ s)) (on rest);
        }
    split false e sets f more is =
        let rest = more is in
        record {
          from = let l = rest.from in omega arith;
          inside = let l = rest.inside in omega arith;
          there = rw e rest.there;
          back = other_behind t (place - (k + 1)) point y s e rest.back
              ∙ ap (λ (n : ℕ). cleared t (span point n) (y ∷ s)) (on rest);
        }

pub taken_back_some : (t place : ℕ) (point : Point) (s : List Step)
    → first_point t point s ≡ Some place → cleared t (span point place) s ≡ taken_back t point s
taken_back_some t place point s some =
    let back = is_back 0 t place point s some in
    let none : place ≡ place - 0 = omega arith in
    rw back.there (ap (λ (n : ℕ). cleared t (span point n) s) none ∙ sym back.back)

pub place_inside : (t place : ℕ) (point : Point) (s : List Step)
    → first_point t point s ≡ Some place → place < length s
place_inside t place point s some =
    let back = is_back 0 t place point s some in let i = back.inside in omega arith

-- a point was set where some step sets it
pub point_there : (t : ℕ) (point : Point) (s : List Step) (found : Option ℕ) → found ≡ first_point t point s
    → is_some found ≡ has_point t point s
point_there t point s None is = sym (no_point 0 t point s (sym is))
point_there t point s (Some place) is = sym (is_back 0 t place point s (sym is)).there
