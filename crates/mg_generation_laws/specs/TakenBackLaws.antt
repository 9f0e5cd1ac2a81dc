-- What it makes of the versions of a key that a transaction takes back some of its changes.
use Rattle.std.specs.Prelude.{◌≡◌, ℕ, ◌==◌, Bool, true, false, List, ◌∷◌, ◌++◌, cond, refl}
use Rattle.std.proofs.Common.{sym, ◌∙◌, ap, subst}
use Rattle.mg_value.specs.declared.value.Value.{Value}
use Rattle.mg_model.specs.declared.change.Point.{Point}
use Rattle.mg_model.specs.declared.change.Step.{Step}
use Rattle.mg_model.specs.declared.opening.Opening.{Opening}
use Rattle.mg_model.specs.Catalog.{catalog_name}
use Rattle.mg_model.specs.Changes.{has_change, row_at}
use Rattle.mg_model.specs.History.{Entry, Entries, Effect, TakesBack, effect_of}
use Rattle.mg_model.specs.Machine.{state_after, state_of, deeds_by, changes_by, taken_back, steps_after, steps, database_after, database, base, own}
use Rattle.mg_model.specs.Answers.{is_open}
use Rattle.mg_model.specs.Legal.{MayBegin, IsLegal}
use Rattle.mg_model.specs.EntryLaws.{deeds_by-taken_back_other}
use Rattle.mg_model.specs.LegalLaws.{IsAllowed, lawful_is_allowed}
use Rattle.mg_generation_laws.specs.Generations.{Generation, without_newest_by, put, AreGenerations}
use Rattle.mg_generation_laws.specs.After.{generations_back}
use Rattle.mg_generation_laws.specs.ThinLaws.{Thinned, taken_back_is_thinned}
use Rattle.mg_generation_laws.specs.LeftLaws.{go_on_kept, go_on_gone}

module _ (o : Opening) (opening : MayBegin o) (h : Entries) (e : Entry) (legal : IsLegal o (e ∷ h))
    (table : List ℕ) (key : Value) (gs : List Generation) (it : AreGenerations o h table key gs)
    (t : ℕ) (point : Point) (takes : effect_of e ≡ TakesBack t point) where
  active : is_open (state_of o h t) ≡ true
  active =
      let P : Effect → Type 0 = IsAllowed o h in
      let allowed : IsAllowed o h (TakesBack t point) =
      subst P takes (lawful_is_allowed o h e legal.0) in ap is_open allowed

  left_steps : steps o (e ∷ h) ≡ taken_back t point (steps o h)
  left_steps = ap (λ f. steps_after f
      (λ u. row_at (changes_by u (steps o h) ++ base o h u) catalog_name) (steps o h)) takes

  back_states : (u : ℕ) → state_of o (e ∷ h) u ≡ state_of o h u
  back_states u = ap (λ f. state_after f u (state_of o h u)) takes

  back_database : database o (e ∷ h) ≡ database o h
  back_database = ap (λ f. database_after f (own o h) (database o h)) takes

  back_thin : Thinned t (steps o h) (steps o (e ∷ h))
  back_thin =
      let P : List Step → Type 0 = Thinned t (steps o h) in
      subst P (sym left_steps) (taken_back_is_thinned t point (steps o h))

  back_others : (u : ℕ) → (t == u) ≡ false
      → deeds_by u (steps o (e ∷ h)) ≡ deeds_by u (steps o h)
  back_others u other =
      ap (deeds_by u) left_steps ∙ deeds_by-taken_back_other u t point (steps o h) other

  -- a transaction that takes back has the version that its changes give which it has left
  pub generations_taken_back : AreGenerations o (e ∷ h) table key
      (generations_back (own o (e ∷ h) t) t table key gs)
  generations_taken_back = at (has_change (own o (e ∷ h) t) table key) refl
    where
      at : (b : Bool) → has_change (own o (e ∷ h) t) table key ≡ b
          → AreGenerations o (e ∷ h) table key
          (cond b (put t (row_at (own o (e ∷ h) t) table key) gs) (without_newest_by t gs))
      at true has =
          go_on_kept o opening h e legal table key gs it t active back_states back_database
          back_thin back_others has
      at false none =
          go_on_gone o opening h e legal table key gs it t active back_states back_database
          back_thin back_others none
