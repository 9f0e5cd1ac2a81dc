-- What is left of who changed a key last, once some steps of one transaction are gone.
use Rattle.std.specs.Prelude.{◌≡◌, ℕ, ◌==◌, ◌&&◌, not, Bool, true, false, List, [], ◌∷◌, Some, cond, refl}
use Rattle.std.proofs.Common.{sym, ◌∙◌, ap}
use Rattle.std.proofs.lemmas.Bool.{both_ways, eqb-true, false_from_ne_true, not-true}
use Rattle.mg_value.specs.declared.value.Value.{Value}
use Rattle.mg_model.specs.declared.change.Deed.{Deed}
use Rattle.mg_model.specs.declared.change.Deed.TheVariants.{Changed, Marked, Saved}
use Rattle.mg_model.specs.declared.change.Step.{Step}
use Rattle.mg_model.specs.Changes.{is_at, has_change}
use Rattle.mg_model.specs.declared.change.Point.{Point}
use Rattle.mg_model.specs.declared.change.Point.TheVariants.{LastMark, SavepointNamed}
use Rattle.mg_model.specs.Machine.{deeds_by, changes_in, changes_by, is_point, has_point, at_point, back_to, taken_back}
use Rattle.mg_model.specs.Answers.{changes_key, newest_by}
use Rattle.mg_generation_laws.specs.Generations.{are_on_top}
use Rattle.mg_generation_laws.specs.StepLaws.{behind_has}
use Rattle.mg_generation_laws.specs.TopLaws.{none_is_on_top}

-- the second list is the first one without some steps of a transaction
pub data Thinned (t : ℕ) : List Step → List Step → Type 0 where
  nothing : Thinned t [] []
  keeps : (s : Step) (all less : List Step) → Thinned t all less
      → Thinned t (s ∷ all) (s ∷ less)
  drops : (s : Step) (all less : List Step) → (s.by.0 == t) ≡ true → Thinned t all less
      → Thinned t (s ∷ all) less

thinned_itself : (t : ℕ) (all : List Step) → Thinned t all all
thinned_itself t [] = nothing
thinned_itself t (s ∷ all) = keeps s all all (thinned_itself t all)

thinned_at_point : (t : ℕ) (point : Point) (s : Step) (all : List Step) → (s.by.0 == t) ≡ true
    → Thinned t (s ∷ all) (at_point point s all)
thinned_at_point t LastMark s all its = drops s all all its (thinned_itself t all)
thinned_at_point t (SavepointNamed name) s all its = thinned_itself t (s ∷ all)

thinned_back : (t : ℕ) (point : Point) (all : List Step) → Thinned t all (back_to t point all)
thinned_back t point [] = nothing
thinned_back t point (s ∷ all) =
    at (s.by.0 == t) refl (is_point point s.deed) (thinned_back t point all)
  where
    at : (b : Bool) → (s.by.0 == t) ≡ b → (here : Bool) → Thinned t all (back_to t point all)
        → Thinned t (s ∷ all) (cond b (cond here (at_point point s all) (back_to t point all))
        (s ∷ back_to t point all))
    at true its true more = thinned_at_point t point s all its
    at true its false more = drops s all (back_to t point all) its more
    at false other here more = keeps s all (back_to t point all) more

-- what is taken back are steps of that transaction
pub taken_back_is_thinned : (t : ℕ) (point : Point) (all : List Step)
    → Thinned t all (taken_back t point all)
taken_back_is_thinned t point all = at (has_point t point all)
  where
    at : (b : Bool) → Thinned t all (cond b (back_to t point all) all)
    at true = thinned_back t point all
    at false = thinned_itself t all

module _ (table : List ℕ) (key : Value) (t : ℕ) where
  -- nobody has more changes of the key then
  kept_has : (s : Step) (u : ℕ) (all less : List Step)
      → (has_change (changes_by u less) table key ≡ true
      → has_change (changes_by u all) table key ≡ true)
      → has_change (changes_by u (s ∷ less)) table key ≡ true
      → has_change (changes_by u (s ∷ all)) table key ≡ true
  kept_has s u all less more has = at s.deed (s.by.0 == u) has
    where
      front : (b : Bool) → cond b true (has_change (changes_by u less) table key) ≡ true
          → cond b true (has_change (changes_by u all) table key) ≡ true
      front true has = refl
      front false has = more has

      at : (d : Deed) (b : Bool)
          → has_change (changes_in (cond b (d ∷ deeds_by u less) (deeds_by u less))) table key
          ≡ true
          → has_change (changes_in (cond b (d ∷ deeds_by u all) (deeds_by u all))) table key ≡ true
      at d false has = more has
      at (Changed c) true has = front (is_at c table key) has
      at Marked true has = more has
      at (Saved name) true has = more has

  pub thinned_has : (all less : List Step) → Thinned t all less → (u : ℕ)
      → has_change (changes_by u less) table key ≡ true
      → has_change (changes_by u all) table key ≡ true
  thinned_has all less nothing u has = has
  thinned_has whole left (keeps s all less thin) u has =
      kept_has s u all less (thinned_has all less thin u) has
  thinned_has whole left (drops s all less its thin) u has =
      behind_has table key s all u (thinned_has all less thin u has)

  has_not_thinned : (all less : List Step) → Thinned t all less → (u : ℕ)
      → has_change (changes_by u all) table key ≡ false
      → has_change (changes_by u less) table key ≡ false
  has_not_thinned all less thin u none =
      false_from_ne_true (has_change (changes_by u less) table key) (λ has.
      both_ways (has_change (changes_by u all) table key) none (thinned_has all less thin u has))

  -- whose changes are the newest has the newest still
  pub thinned_top : (who : ℕ → Bool) (u : ℕ) (all less : List Step) → Thinned t all less
      → are_on_top who table key u all ≡ true → are_on_top who table key u less ≡ true
  thinned_top who u all less nothing top = top
  thinned_top who u whole left (keeps s all less thin) top =
      at (changes_key table key s.deed && (who s.by.0 && not (s.by.0 == u)))
      (thinned_top who u all less thin) top
    where
      at : (b : Bool)
          → (are_on_top who table key u all ≡ true → are_on_top who table key u less ≡ true)
          → cond b (not (has_change (changes_by u all) table key)) (are_on_top who table key u all)
          ≡ true
          → cond b (not (has_change (changes_by u less) table key))
          (are_on_top who table key u less) ≡ true
      at true more top = ap not (has_not_thinned all less thin u
          (not-true (has_change (changes_by u all) table key) top))
      at false more top = more top
  thinned_top who u whole left (drops s all less its thin) top =
      at (changes_key table key s.deed && (who s.by.0 && not (s.by.0 == u)))
      (thinned_top who u all less thin) top
    where
      at : (b : Bool)
          → (are_on_top who table key u all ≡ true → are_on_top who table key u less ≡ true)
          → cond b (not (has_change (changes_by u all) table key)) (are_on_top who table key u all)
          ≡ true
          → are_on_top who table key u less ≡ true
      at true more top = none_is_on_top table key who u less (has_not_thinned all less thin u
          (not-true (has_change (changes_by u all) table key) top))
      at false more top = more top

  -- who is found of all but that transaction is found still
  pub thinned_newest : (who : ℕ → Bool) (all less : List Step) → Thinned t all less
      → who t ≡ false
      → newest_by who (changes_key table key) less ≡ newest_by who (changes_key table key) all
  thinned_newest who all less nothing off = refl
  thinned_newest who whole left (keeps s all less thin) off =
      ap (cond (who s.by.0 && changes_key table key s.deed) (Some s.by.0))
      (thinned_newest who all less thin off)
  thinned_newest who whole left (drops s all less its thin) off =
      let none : who s.by.0 ≡ false = ap who (eqb-true s.by.0 t its) ∙ off in
      thinned_newest who all less thin off
      ∙ sym (ap (λ b. cond (b && changes_key table key s.deed) (Some s.by.0)
      (newest_by who (changes_key table key) all)) none)
