-- Whose changes of a key are the newest.
use Rattle.std.specs.Prelude.{◌≡◌, ℕ, ◌==◌, ◌&&◌, not, Bool, true, false, List, [], ◌∷◌, Some, cond, refl}
use Rattle.std.proofs.Common.{sym, ◌∙◌, ap}
use Rattle.std.proofs.lemmas.Bool.{false≢true, both_ways, eqb-true, false_from_ne_true, not-true}
use Rattle.mg_value.specs.declared.value.Value.{Value}
use Rattle.mg_model.specs.declared.change.Deed.{Deed}
use Rattle.mg_model.specs.declared.change.Deed.TheVariants.{Changed, Marked, Saved}
use Rattle.mg_model.specs.declared.change.Step.{Step}
use Rattle.mg_model.specs.Changes.{has_change}
use Rattle.mg_model.specs.Machine.{deeds_by, changes_in, changes_by}
use Rattle.mg_model.specs.Answers.{changes_key, newest_by}
use Rattle.mg_generation_laws.specs.Generations.{are_on_top}
use Rattle.mg_generation_laws.specs.StepLaws.{front_has, behind_has}

-- a deed that is no change of the key adds none
deed_skipped : (table : List ℕ) (key : Value) (d : Deed) (deeds : List Deed)
    → changes_key table key d ≡ false → has_change (changes_in (d ∷ deeds)) table key ≡ true
    → has_change (changes_in deeds) table key ≡ true
deed_skipped table key (Changed c) deeds other has = sym (rw other refl) ∙ has
deed_skipped table key Marked deeds other has = has
deed_skipped table key (Saved name) deeds other has = has

module _ (table : List ℕ) (key : Value) where
  -- behind a step nobody has more changes
  pub behind_has_not : (s : Step) (all : List Step) (t : ℕ)
      → has_change (changes_by t (s ∷ all)) table key ≡ false
      → has_change (changes_by t all) table key ≡ false
  behind_has_not s all t none =
      false_from_ne_true (has_change (changes_by t all) table key) (λ has.
      both_ways (has_change (changes_by t (s ∷ all)) table key) none
      (behind_has table key s all t has))

  -- who has no change of the key, all of whose are the newest
  pub none_is_on_top : (who : ℕ → Bool) (t : ℕ) (all : List Step)
      → has_change (changes_by t all) table key ≡ false → are_on_top who table key t all ≡ true
  none_is_on_top who t [] none = refl
  none_is_on_top who t (s ∷ all) none =
      at (changes_key table key s.deed && (who s.by.0 && not (s.by.0 == t)))
      (behind_has_not s all t none)
      (none_is_on_top who t all (behind_has_not s all t none))
    where
      at : (b : Bool) → has_change (changes_by t all) table key ≡ false
          → are_on_top who table key t all ≡ true
          → cond b (not (has_change (changes_by t all) table key)) (are_on_top who table key t all)
          ≡ true
      at true none more = ap not none
      at false none more = more

  -- who alone has changes of the key
  pub only_is_on_top : (who : ℕ → Bool) (t : ℕ) (all : List Step)
      → ((u : ℕ) → has_change (changes_by u all) table key ≡ true → (u == t) ≡ true)
      → are_on_top who table key t all ≡ true
  only_is_on_top who t [] only = refl
  only_is_on_top who t (s ∷ all) only =
      at (changes_key table key s.deed) refl (who s.by.0)
      (only_is_on_top who t all (λ u has. only u (behind_has table key s all u has)))
    where
      at : (c : Bool) → changes_key table key s.deed ≡ c → (w : Bool)
          → are_on_top who table key t all ≡ true
          → cond (c && (w && not (s.by.0 == t))) (not (has_change (changes_by t all) table key))
          (are_on_top who table key t all) ≡ true
      at false other w more = more
      at true is false more = more
      at true is true more =
          let its : (s.by.0 == t) ≡ true = only s.by.0 (front_has table key s all is) in
          rw its more

  -- where fewer pass
  pub on_top_as : (who fewer : ℕ → Bool) (t : ℕ) (all : List Step)
      → ((u : ℕ) → has_change (changes_by u all) table key ≡ true → fewer u ≡ true → who u ≡ true)
      → are_on_top who table key t all ≡ true → are_on_top fewer table key t all ≡ true
  on_top_as who fewer t [] less top = refl
  on_top_as who fewer t (s ∷ all) less top =
      at (changes_key table key s.deed) refl (fewer s.by.0) refl (who s.by.0) refl (s.by.0 == t)
      (on_top_as who fewer t all (λ u has. less u (behind_has table key s all u has))) top
    where
      older : Bool
      older = has_change (changes_by t all) table key

      at : (c : Bool) → changes_key table key s.deed ≡ c → (f : Bool) → fewer s.by.0 ≡ f
          → (w : Bool) → who s.by.0 ≡ w → (its : Bool)
          → (are_on_top who table key t all ≡ true → are_on_top fewer table key t all ≡ true)
          → cond (c && (w && not its)) (not older) (are_on_top who table key t all) ≡ true
          → cond (c && (f && not its)) (not older) (are_on_top fewer table key t all) ≡ true
      at false other f few w passes its more top = more top
      at true is false few false passes its more top = more top
      at true is false few true passes true more top = more top
      at true is false few true passes false more top =
          none_is_on_top fewer t all (not-true older top)
      at true is true few true passes true more top = more top
      at true is true few true passes false more top = top
      at true is true few false passes its more top =
          absurd (both_ways (who s.by.0) passes
          (less s.by.0 (front_has table key s all is) few))

  -- behind a step of another transaction it has the same changes
  same_behind : (s : Step) (all : List Step) (t : ℕ) → (s.by.0 == t) ≡ false
      → has_change (changes_by t (s ∷ all)) table key ≡ has_change (changes_by t all) table key
  same_behind s all t other = rw other refl

  -- who has the newest changes, and passes, is found
  pub top_is_found : (who : ℕ → Bool) (t : ℕ) (all : List Step) → who t ≡ true
      → has_change (changes_by t all) table key ≡ true → are_on_top who table key t all ≡ true
      → newest_by who (changes_key table key) all ≡ Some t
  top_is_found who t [] passes has top = absurd (false≢true has)
  top_is_found who t (s ∷ all) passes has top =
      at (changes_key table key s.deed) refl (who s.by.0) refl (s.by.0 == t) refl
      (top_is_found who t all passes) top
    where
      older : Bool
      older = has_change (changes_by t all) table key

      skipped : (d : Deed) → changes_key table key d ≡ false
          → has_change (changes_in (d ∷ deeds_by t all)) table key ≡ true → older ≡ true
      skipped d other has = deed_skipped table key d (deeds_by t all) other has

      behind : (c : Bool) → changes_key table key s.deed ≡ c → c ≡ false → older ≡ true
      behind c is off = its (s.by.0 == t) has
        where
          its : (b : Bool) → has_change (changes_in (cond b (s.deed ∷ deeds_by t all)
              (deeds_by t all))) table key ≡ true → older ≡ true
          its true has = skipped s.deed (is ∙ off) has
          its false has = has

      at : (c : Bool) → changes_key table key s.deed ≡ c → (w : Bool) → who s.by.0 ≡ w
          → (its : Bool) → (s.by.0 == t) ≡ its
          → (older ≡ true → are_on_top who table key t all ≡ true
          → newest_by who (changes_key table key) all ≡ Some t)
          → cond (c && (w && not its)) (not older) (are_on_top who table key t all) ≡ true
          → cond (w && c) (Some s.by.0) (newest_by who (changes_key table key) all) ≡ Some t
      at false is true on its by more top = more (behind false is refl) top
      at false is false on its by more top = more (behind false is refl) top
      at true is true on true by more top = ap Some (eqb-true s.by.0 t by)
      at true is true on false by more top =
          absurd (both_ways older (not-true older top)
          (sym (same_behind s all t by) ∙ has))
      at true is false on true by more top =
          absurd (both_ways (who s.by.0) on (ap who (eqb-true s.by.0 t by) ∙ passes))
      at true is false on false by more top =
          more (sym (same_behind s all t by) ∙ has) top
