-- What all steps of taking back give together.
use Rattle.std.specs.Prelude.{◌≡◌, ◌⊎◌, ℕ, suc, ◌-◌, ◌<◌, ◌≤◌, ◌&&◌, nat_lt, Bool, true, false, List, [], ◌∷◌, length, drop, Option, Some, None, cond, refl}
use Rattle.std.proofs.Common.{sym, ◌∙◌, ap, subst, inl, inr, arith}
use Rattle.std.proofs.lemmas.Bool.{ltb-true, ltb-false, cases_lt}
use Rattle.mg_undo.specs.declared.changes.Change.{Change}
use Rattle.mg_undo.specs.declared.points.Standing.{Standing}
use Rattle.mg_undo.specs.Undo.{State, state_of, Taken, is_goal, from_goal, since, repeats, settled, goal_of, take_back, newest, first_changes, TakesBack, ends, gives, GivesFirstChanges}
use Rattle.mg_undo.proofs.Steps.{take_arrived, take_popped}

-- ---- the changes since a point, without those that repeat

since_cons : (floor : ℕ) (c : Change) (cs : List Change) → floor ≤ length cs
    → since floor (c ∷ cs) ≡ c ∷ since floor cs
since_cons floor c cs within =
    let one : length (c ∷ cs) - floor ≡ suc (length cs - floor) = omega arith in rw one refl

rest_cons : (floor : ℕ) (c : Change) (cs : List Change) → floor ≤ length cs
    → drop (length (c ∷ cs) - floor) (c ∷ cs) ≡ drop (length cs - floor) cs
rest_cons floor c cs within =
    let one : length (c ∷ cs) - floor ≡ suc (length cs - floor) = omega arith in rw one refl

first_repeated : (floor : ℕ) (c : Change) (cs : List Change) → floor ≤ length cs
    → repeats floor (c ∷ cs) ≡ true
    → first_changes (since floor (c ∷ cs)) ≡ first_changes (since floor cs)
first_repeated floor c cs within again =
    ap first_changes (since_cons floor c cs within) ∙ rw again refl

first_kept : (floor : ℕ) (c : Change) (cs : List Change) → floor ≤ length cs
    → repeats floor (c ∷ cs) ≡ false
    → first_changes (since floor (c ∷ cs)) ≡ c ∷ first_changes (since floor cs)
first_kept floor c cs within kept =
    ap first_changes (since_cons floor c cs within) ∙ rw kept refl

first_settled : (floor : ℕ) (changes : List Change)
    → first_changes (since floor (settled floor changes)) ≡ first_changes (since floor changes)
first_settled floor [] = refl
first_settled floor (c ∷ cs) =
    at (nat_lt floor (length (c ∷ cs))) refl (repeats floor (c ∷ cs)) refl (first_settled floor cs)
  where
    at : (b : Bool) → nat_lt floor (length (c ∷ cs)) ≡ b → (r : Bool) → repeats floor (c ∷ cs) ≡ r
        → first_changes (since floor (settled floor cs)) ≡ first_changes (since floor cs)
        → first_changes (since floor (cond (b && r) (settled floor cs) (c ∷ cs)))
        ≡ first_changes (since floor (c ∷ cs))
    at true above true again more =
        let within : floor ≤ length cs = omega (arith, ltb-true floor (length (c ∷ cs)) above) in
        more ∙ sym (first_repeated floor c cs within again)
    at true above false kept more = refl
    at false above r kept more = refl

rest_settled : (floor : ℕ) (changes : List Change)
    → drop (length (settled floor changes) - floor) (settled floor changes)
    ≡ drop (length changes - floor) changes
rest_settled floor [] = refl
rest_settled floor (c ∷ cs) =
    at (nat_lt floor (length (c ∷ cs))) refl (repeats floor (c ∷ cs)) (rest_settled floor cs)
  where
    at : (b : Bool) → nat_lt floor (length (c ∷ cs)) ≡ b → (r : Bool)
        → drop (length (settled floor cs) - floor) (settled floor cs)
        ≡ drop (length cs - floor) cs
        → drop (length (cond (b && r) (settled floor cs) (c ∷ cs)) - floor)
        (cond (b && r) (settled floor cs) (c ∷ cs))
        ≡ drop (length (c ∷ cs) - floor) (c ∷ cs)
    at true above true more =
        let within : floor ≤ length cs = omega (arith, ltb-true floor (length (c ∷ cs)) above) in
        more ∙ sym (rest_cons floor c cs within)
    at true above false more = refl
    at false above r more = refl

-- what is left at the front repeats no change since the point
front_is_kept : (floor : ℕ) (changes : List Change) (c : Change) (cs : List Change)
    → settled floor changes ≡ c ∷ cs → floor < length (c ∷ cs) → repeats floor (c ∷ cs) ≡ false
front_is_kept floor [] c cs is above = absurd cc
front_is_kept floor (d ∷ ds) c cs is above =
    at (nat_lt floor (length (d ∷ ds))) refl (repeats floor (d ∷ ds)) refl
    (front_is_kept floor ds c cs) is
  where
    itself : repeats floor (d ∷ ds) ≡ false → d ∷ ds ≡ c ∷ cs → repeats floor (c ∷ cs) ≡ false
    itself kept same = ap (repeats floor) (sym same) ∙ kept

    at : (b : Bool) → nat_lt floor (length (d ∷ ds)) ≡ b → (r : Bool) → repeats floor (d ∷ ds) ≡ r
        → (settled floor ds ≡ c ∷ cs → floor < length (c ∷ cs) → repeats floor (c ∷ cs) ≡ false)
        → cond (b && r) (settled floor ds) (d ∷ ds) ≡ c ∷ cs → repeats floor (c ∷ cs) ≡ false
    at true is_above true again more same = more same above
    at true is_above false kept more same = itself kept same
    at false is_low r kept more same =
        let low : length (d ∷ ds) ≤ floor = ltb-false floor (length (d ∷ ds)) is_low in
        let long : length (d ∷ ds) ≡ length (c ∷ cs) = ap (λ (xs : List Change). length xs) same in
        absurd (omega arith)

none_since : (floor : ℕ) (changes : List Change) → length changes ≤ floor
    → first_changes (since floor changes) ≡ []
none_since floor changes low =
    let none : length changes - floor ≡ 0 = omega arith in rw none refl

all_left : (floor : ℕ) (changes : List Change) → length changes ≤ floor
    → drop (length changes - floor) changes ≡ changes
all_left floor changes low =
    let none : length changes - floor ≡ 0 = omega arith in rw none refl

-- ---- points

goal_is : (name : Option (List ℕ)) (points : List Standing) (p : Standing) (ps : List Standing)
    → from_goal name points ≡ p ∷ ps → is_goal name p ≡ true
goal_is name [] p ps is = absurd cc
goal_is name (q ∷ qs) p ps is = at (is_goal name q) refl (goal_is name qs p ps) is
  where
    at : (b : Bool) → is_goal name q ≡ b → (from_goal name qs ≡ p ∷ ps → is_goal name p ≡ true)
        → cond b (q ∷ qs) (from_goal name qs) ≡ p ∷ ps → is_goal name p ≡ true
    at true sets more same =
        let first : q ≡ p = cc in ap (is_goal name) (sym first) ∙ sets
    at false other more same = more same

goal_again : (going_back : Bool) (points : List Standing) (p : Standing) (ps : List Standing)
    → goal_of going_back points ≡ p ∷ ps → goal_of going_back (p ∷ ps) ≡ p ∷ ps
goal_again true points p ps is = refl
goal_again false points p ps is =
    let sets : is_goal None p ≡ true = goal_is None points p ps is in rw sets refl

-- ---- all steps

newest_some : (floor : ℕ) (changes : List Change) → floor < length changes
    → newest changes ≡ None → ⊥
newest_some floor [] above none = omega arith
newest_some floor (c ∷ cs) above none = cc

module _ (b : Bool) (p : Standing) (ps : List Standing)
    (again : goal_of b (p ∷ ps) ≡ p ∷ ps) where
  abbrev end_of : List Change → State
  end_of changes =
      state_of (drop (length changes - p.at) changes) (cond b (p ∷ ps) ps) false

  abbrev GivesAll : List Change → List Change → State → Type 0
  GivesAll changes given new =
      (given ≡ first_changes (since p.at changes)) × (new ≡ end_of changes)

  -- one step, at the changes that are left once those that repeat are dropped
  given_one : (changes : List Change) (rest : List Change) (c : Change) (given : List Change)
      (new : State) → settled p.at changes ≡ rest → p.at < length rest → newest rest ≡ Some c
      → GivesAll (drop 1 rest) given new → GivesAll changes (c ∷ given) new
  given_one changes [] c given new is above some more = absurd (omega arith)
  given_one changes (d ∷ ds) c given new is above some more =
      let first : d ≡ c = cc in
      let within : p.at ≤ length ds = omega arith in
      let kept : repeats p.at (d ∷ ds) ≡ false = front_is_kept p.at changes d ds is above in
      let firsts : first_changes (since p.at changes) ≡ d ∷ first_changes (since p.at ds) =
      sym (first_settled p.at changes) ∙ ap (λ (cs : List Change). first_changes (since p.at cs)) is
      ∙ first_kept p.at d ds within kept in
      let rests : drop (length changes - p.at) changes ≡ drop (length ds - p.at) ds =
      sym (rest_settled p.at changes)
      ∙ ap (λ (cs : List Change). drop (length cs - p.at) cs) is ∙ rest_cons p.at d ds within in (
        ap (λ (x : Change). x ∷ given) (sym first) ∙ ap (λ (cs : List Change). d ∷ cs) more.0
            ∙ sym firsts,
        more.1 ∙ ap (λ (cs : List Change). state_of cs (cond b (p ∷ ps) ps) false) (sym rests),
      )

  given_none : (changes : List Change) (new : State) → length (settled p.at changes) ≤ p.at
      → state_of (settled p.at changes) (cond b (p ∷ ps) ps) false ≡ new → GivesAll changes [] new
  given_none changes new low is = (
    sym (sym (first_settled p.at changes) ∙ none_since p.at (settled p.at changes) low),
    sym is ∙ ap (λ (cs : List Change). state_of cs (cond b (p ∷ ps) ps) false)
        (sym (all_left p.at (settled p.at changes) low) ∙ rest_settled p.at changes),
  )

  arrives : (changes : List Change) (points : List Standing) → goal_of b points ≡ p ∷ ps
      → length (settled p.at changes) ≤ p.at → take_back (state_of changes points b)
      ≡ record {
        given = None;
        after = state_of (settled p.at changes) (cond b (p ∷ ps) ps) false;
      }
  arrives changes points goals low =
      take_arrived changes points b p.at (rw goals refl) low
      ∙ ap (λ (qs : List Standing). record {
        given = None;
        after = state_of (settled p.at changes) (cond b qs (drop 1 qs)) false;
      }) goals

  pops : (changes : List Change) (points : List Standing) → goal_of b points ≡ p ∷ ps
      → p.at < length (settled p.at changes) → take_back (state_of changes points b)
      ≡ record {
        given = newest (settled p.at changes);
        after = state_of (drop 1 (settled p.at changes)) (p ∷ ps) b;
      }
  pops changes points goals above =
      take_popped changes points b p.at (rw goals refl) above
      ∙ ap (λ (qs : List Standing). record {
        given = newest (settled p.at changes);
        after = state_of (drop 1 (settled p.at changes)) qs b;
      }) goals

  pub gives_all : (old new : State) (given : List Change) → TakesBack old given new
      → old.going_back ≡ b → goal_of b old.points ≡ p ∷ ps → GivesAll old.changes given new
  gives_all old new given (ends none is) back goals =
      at (cases_lt p.at (length (settled p.at old.changes)))
    where
      same : old ≡ state_of old.changes old.points b
      same = ap (λ (g : Bool). state_of old.changes old.points g) back

      at : (p.at < length (settled p.at old.changes)) ⊎ (length (settled p.at old.changes) ≤ p.at)
          → GivesAll old.changes [] new
      at (inl above) =
          let step = ap take_back same ∙ pops old.changes old.points goals above in
          let newest_none : newest (settled p.at old.changes) ≡ None =
          sym (ap (λ (t : Taken). t.given) step) ∙ none in
          absurd (newest_some p.at (settled p.at old.changes) above newest_none)
      at (inr low) =
          let step = ap take_back same ∙ arrives old.changes old.points goals low in
          given_none old.changes new low (sym (ap (λ (t : Taken). t.after) step) ∙ is)
  gives_all old new given (gives {given = others} c some more) back goals =
      at (cases_lt p.at (length (settled p.at old.changes)))
      (λ below later. gives_all (take_back old).after new others more below later)
    where
      same : old ≡ state_of old.changes old.points b
      same = ap (λ (g : Bool). state_of old.changes old.points g) back

      at : (p.at < length (settled p.at old.changes)) ⊎ (length (settled p.at old.changes) ≤ p.at)
          → ((take_back old).after.going_back ≡ b → goal_of b (take_back old).after.points ≡ p ∷ ps
          → GivesAll (take_back old).after.changes others new)
          → GivesAll old.changes (c ∷ others) new
      at (inl above) later =
          let step = ap take_back same ∙ pops old.changes old.points goals above in
          let P : List Change → Type 0 = λ cs. GivesAll cs others new in
          let left = subst P (ap (λ (t : Taken). t.after.changes) step)
          (later (ap (λ (t : Taken). t.after.going_back) step)
          (ap (λ (t : Taken). goal_of b t.after.points) step ∙ again)) in
          given_one old.changes (settled p.at old.changes) c others new refl above
          (sym (ap (λ (t : Taken). t.given) step) ∙ some) left
      at (inr low) later =
          let step = ap take_back same ∙ arrives old.changes old.points goals low in
          let none : None ≡ Some c = sym (ap (λ (t : Taken). t.given) step) ∙ some in absurd cc

pub gives_first_changes : GivesFirstChanges
gives_first_changes old new given p ps within goals taken =
    gives_all old.going_back p ps (goal_again old.going_back old.points p ps goals) old new given
    taken refl goals
