-- Whether a change that is given is of a table.
use Rattle.std.specs.Prelude.{◌≡◌, ◌≢◌, ℕ, zero, suc, ◌+◌, ◌<◌, ◌≤◌, ◌&&◌, ◌||◌, ◌==◌, Bool, true, false, List, [], ◌∷◌, ◌++◌, length, take, drop, get_or, Option, Some, None, cond, refl}
use Rattle.std.proofs.Common.{sym, ◌∙◌, ap, subst, arith}
use Rattle.std.proofs.lemmas.Bool.{eq-eqb, eqb-true, ne_eqb, false≢true}
use Rattle.std.proofs.lemmas.List.{take_more, drop_more, drop_all}
use Rattle.std.specs.List.{list_any}
use Rattle.mg_model.specs.Changes.{same_key}
use Rattle.mg_undo.specs.declared.changes.Change.{Change}
use Rattle.mg_undo.specs.declared.points.Standing.{Standing}
use Rattle.mg_undo.specs.Undo.{State, AreWithin, TakesBack, TellsTable, after_back_to, ends, first_changes, floor_of, from_goal, gives, goal_points, has_point, has_table, is_goal, is_same_place, since, take_back, take_to}
use Rattle.mg_undo.proofs.Given.{gives_first_changes}
use Rattle.mg_undo.proofs.Steps.{from_within}

second_true : (a b : Bool) → b ≡ true → (a || b) ≡ true
second_true true b is = refl
second_true false b is = is

either_false : (a b : Bool) → (a || b) ≡ false → (a ≡ false) × (b ≡ false)
either_false true b is = absurd (false≢true (sym is))
either_false false b is = (refl, is)

first_true : (a b : Bool) → (a && b) ≡ true → a ≡ true
first_true true b is = refl
first_true false b is = absurd (false≢true is)

-- ---- the first change of each key has the tables that all changes have

same_table : (c d : Change) → is_same_place c d ≡ true → d.table ≡ c.table
same_table c d same = eqb-true d.table c.table (first_true (d.table == c.table) (same_key d.key c.key) same)

also : (number : ℕ) (c : Change) (cs : List Change) → (c.table == number) ≡ true
    → list_any (is_same_place c) cs ≡ true → has_table number cs ≡ true
also number c [] is again = absurd (false≢true again)
also number c (d ∷ ds) is again = at (is_same_place c d) refl (also number c ds is)
  where
    at : (b : Bool) → is_same_place c d ≡ b → (list_any (is_same_place c) ds ≡ true → has_table number ds ≡ true)
        → has_table number (d ∷ ds) ≡ true
    at true same more =
        let here : (d.table == number) ≡ true = ap (λ (n : ℕ). n == number) (same_table c d same) ∙ is in
        ap (λ (b : Bool). b || has_table number ds) here
    at false other more =
        let later : list_any (is_same_place c) ds ≡ true =
        sym (ap (λ (b : Bool). b || list_any (is_same_place c) ds) other) ∙ again in
        second_true (d.table == number) (has_table number ds) (more later)

had : (number : ℕ) (c : Change) (cs : List Change) → list_any (is_same_place c) cs ≡ true
    → has_table number (c ∷ cs) ≡ has_table number cs
had number c cs again = at (c.table == number) refl
  where
    at : (b : Bool) → (c.table == number) ≡ b → (b || has_table number cs) ≡ has_table number cs
    at true is = sym (also number c cs is again)
    at false is = refl

first_has : (number : ℕ) (changes : List Change)
    → has_table number (first_changes changes) ≡ has_table number changes
first_has number [] = refl
first_has number (c ∷ cs) = at (list_any (is_same_place c) cs) refl (first_has number cs)
  where
    at : (b : Bool) → list_any (is_same_place c) cs ≡ b
        → has_table number (first_changes cs) ≡ has_table number cs
        → has_table number (cond b (first_changes cs) (c ∷ first_changes cs)) ≡ has_table number (c ∷ cs)
    at true again more = more ∙ sym (had number c cs again)
    at false first more = ap (λ (b : Bool). (c.table == number) || b) more

-- ---- what is told of the changes since a point is told of all that are given

pub told_since : (u : State) (number floor : ℕ) (some : Bool) → AreWithin (length u.changes) u.points
    → Some floor ≡ floor_of (goal_points u) → some ≡ has_table number (since floor u.changes)
    → TellsTable number u some
told_since u number floor some within is told given end taken = at (goal_points u) refl is
  where
    at : (points : List Standing) → goal_points u ≡ points → Some floor ≡ floor_of points
        → some ≡ has_table number given
    at [] goals none = let both : ◌≡◌ {A = Option ℕ} (Some floor) None = none in absurd cc
    at (p ∷ ps) goals found =
        let both : ◌≡◌ {A = Option ℕ} (Some floor) (Some p.at) = found in
        let its : floor ≡ p.at = cc in
        let all : given ≡ first_changes (since p.at u.changes) =
        (gives_first_changes u end given p ps within goals taken).0 in
        told ∙ ap (λ (n : ℕ). has_table number (since n u.changes)) its
        ∙ sym (first_has number (since p.at u.changes)) ∙ sym (ap (has_table number) all)

-- without a point nothing is given
nothing_to : (u : State) (points : List Standing) → None ≡ floor_of points → (take_to u points).given ≡ None
nothing_to u [] none = refl
nothing_to u (p ∷ ps) none = let both : ◌≡◌ {A = Option ℕ} None (Some p.at) = none in absurd cc

pub told_without : (u : State) (number : ℕ) → None ≡ floor_of (goal_points u) → TellsTable number u false
told_without u number none given end (ends is after) = refl
told_without u number none given end (gives c some more) =
    let both : None ≡ Some c = sym (nothing_to u (goal_points u) none) ∙ some in absurd cc

-- ---- the same behind a savepoint that is gone back to

abbrev back : State → List ℕ → State
back u name = record { changes = u.changes; points = from_goal (Some name) u.points; going_back = true }

gone : (u : State) (name : List ℕ) → has_point u (Some name) ≡ true → back u name ≡ after_back_to u name
gone u name has = sym (ap (λ (b : Bool). cond b (back u name) u) has)

pub told_back : (u now : State) (number floor : ℕ) (name : List ℕ) (some : Bool) → u ≡ now
    → AreWithin (length u.changes) u.points → Some floor ≡ floor_of (from_goal (Some name) u.points)
    → some ≡ has_table number (since floor u.changes) → has_point now (Some name) ≡ true
    → TellsTable number (after_back_to now name) some
told_back u now number floor name some same within is told has =
    subst (λ (s : State). TellsTable number (after_back_to s name) some) same
    (subst (λ (s : State). TellsTable number s some)
    (gone u name (ap (λ (s : State). has_point s (Some name)) same ∙ has))
    (told_since (back u name) number floor some (from_within (Some name) (length u.changes) u.points within) is told))

pub told_back_without : (u now : State) (number : ℕ) (name : List ℕ) → u ≡ now
    → None ≡ floor_of (from_goal (Some name) u.points) → has_point now (Some name) ≡ true
    → TellsTable number (after_back_to now name) false
told_back_without u now number name same none has =
    subst (λ (s : State). TellsTable number (after_back_to s name) false) same
    (subst (λ (s : State). TellsTable number s false)
    (gone u name (ap (λ (s : State). has_point s (Some name)) same ∙ has))
    (told_without (back u name) number none))

-- ---- one of the newest so many

pub found_here : (number : ℕ) (list : List Change) (i count : ℕ) (d : Change) → i < count → i < length list
    → (get_or list i d).table ≡ number → has_table number (take count list) ≡ true
found_here number [] i count d low below is = absurd (omega (arith, below))
found_here number (x ∷ xs) i zero d low below is = absurd (omega (arith, low))
found_here number (x ∷ xs) zero (suc count) d low below is =
    ap (λ (b : Bool). b || has_table number (take count xs)) (eq-eqb x.table number is)
found_here number (x ∷ xs) (suc i) (suc count) d low below is =
    second_true (x.table == number) (has_table number (take count xs))
    (found_here number xs i count d (omega (arith, low)) (omega (arith, below)) is)

none_put : (number : ℕ) (xs : List Change) (c : Change) → has_table number xs ≡ false
    → (c.table == number) ≡ false → has_table number (xs ++ c ∷ []) ≡ false
none_put number [] c none off = ap (λ (b : Bool). b || false) off
none_put number (x ∷ xs) c none off =
    let both = either_false (x.table == number) (has_table number xs) none in
    ap (λ (b : Bool). b || has_table number (xs ++ c ∷ [])) both.0 ∙ none_put number xs c both.1 off

pub none_yet : (number : ℕ) (list : List Change) (i : ℕ) (d : Change) → i < length list
    → (get_or list i d).table ≢ number → has_table number (take i list) ≡ false
    → has_table number (take (i + 1) list) ≡ false
none_yet number list i d below other none =
    ap (has_table number) (take_more list i d below)
    ∙ none_put number (take i list) (get_or list i d) none (ne_eqb (get_or list i d).table number other)

-- ---- the point gone back to

pub goal_passed : (name : Option (List ℕ)) (points : List Standing) (i : ℕ) (p : Standing) (whole : List Standing)
    → i < length points → is_goal name (get_or points i p) ≡ false → from_goal name (drop i points) ≡ whole
    → from_goal name (drop (i + 1) points) ≡ whole
goal_passed name points i p whole below other so_far =
    sym (ap (λ (b : Bool). cond b (get_or points i p ∷ drop (i + 1) points) (from_goal name (drop (i + 1) points))) other)
    ∙ sym (ap (from_goal name) (drop_more points i p below)) ∙ so_far

pub goal_here : (name : Option (List ℕ)) (points : List Standing) (i : ℕ) (p : Standing) (whole : List Standing)
    → i < length points → is_goal name (get_or points i p) ≡ true → from_goal name (drop i points) ≡ whole
    → Some (get_or points i p).at ≡ floor_of whole
goal_here name points i p whole below sets so_far =
    ap floor_of (sym (ap (λ (b : Bool). cond b (get_or points i p ∷ drop (i + 1) points)
    (from_goal name (drop (i + 1) points))) sets)
    ∙ sym (ap (from_goal name) (drop_more points i p below)) ∙ so_far)

pub goal_nowhere : (name : Option (List ℕ)) (points : List Standing) (i : ℕ) (whole : List Standing)
    → length points ≤ i → from_goal name (drop i points) ≡ whole → None ≡ floor_of whole
goal_nowhere name points i whole past so_far =
    ap floor_of (sym (ap (from_goal name) (drop_all i points past)) ∙ so_far)
