-- A mark that is taken back with nothing done since leaves the versions of each key.
use Rattle.std.specs.Prelude.{◌≡◌, ℕ, ◌==◌, true, List, [], ◌∷◌, ◌++◌, refl}
use Rattle.std.proofs.Common.{sym, ◌∙◌, ap}
use Rattle.std.proofs.lemmas.Bool.{eq-eqb}
use Rattle.mg_value.specs.declared.value.Value.{Value}
use Rattle.mg_model.specs.declared.change.Deed.TheVariants.{Marked}
use Rattle.mg_model.specs.declared.change.Step.{Step}
use Rattle.mg_model.specs.declared.change.Point.TheVariants.{LastMark}
use Rattle.mg_model.specs.declared.opening.Opening.{Opening}
use Rattle.mg_model.specs.Catalog.{catalog_name}
use Rattle.mg_model.specs.Changes.{row_at}
use Rattle.mg_model.specs.History.{Entry, Entries, Marks, Nothing, effect_of}
use Rattle.mg_model.specs.Machine.{state_after, state_of, changes_by, step, taken_back, steps_after, steps, database_after, database, base, own}
use Rattle.mg_model.specs.Answers.{is_committed}
use Rattle.mg_model.specs.Legal.{MayBegin, IsLegal}
use Rattle.mg_generation_laws.specs.Generations.{Generation, AreGenerations}
use Rattle.mg_generation_laws.specs.After.{leaves_versions, DoNothing, IsUndone}
use Rattle.mg_generation_laws.specs.StepLaws.{same_back, same_along, same_after_step}
use Rattle.mg_generation_laws.specs.OnwardLaws.{shows_here, go_on_same}
use Rattle.mg_generation_laws.specs.CaseLaws.{generations_left}

-- ---- entries that do nothing

pub idle_steps : (o : Opening) (h since : Entries) → DoNothing since
    → steps o (since ++ h) ≡ steps o h
idle_steps o h [] idle = refl
idle_steps o h (e ∷ since) idle =
    ap (λ f. steps_after f (λ u. row_at (changes_by u (steps o (since ++ h))
    ++ base o (since ++ h) u) catalog_name) (steps o (since ++ h))) idle.0
    ∙ idle_steps o h since idle.1

pub idle_state : (o : Opening) (h since : Entries) → DoNothing since → (t : ℕ)
    → state_of o (since ++ h) t ≡ state_of o h t
idle_state o h [] idle t = refl
idle_state o h (e ∷ since) idle t =
    ap (λ f. state_after f t (state_of o (since ++ h) t)) idle.0 ∙ idle_state o h since idle.1 t

pub idle_database : (o : Opening) (h since : Entries) → DoNothing since
    → database o (since ++ h) ≡ database o h
idle_database o h [] idle = refl
idle_database o h (e ∷ since) idle =
    ap (λ f. database_after f (own o (since ++ h)) (database o (since ++ h))) idle.0
    ∙ idle_database o h since idle.1

module _ (o : Opening) (h : Entries) (t : ℕ) (sets : Entry) (since : Entries) (undoes : Entry)
    (it : IsUndone t sets since undoes) where
  marked_steps : steps o (since ++ (sets ∷ h)) ≡ step t Marked ∷ steps o h
  marked_steps =
      idle_steps o (sets ∷ h) since it.idle
      ∙ ap (λ f. steps_after f (λ u. row_at (changes_by u (steps o h) ++ base o h u) catalog_name)
      (steps o h)) it.sets_it

  back : (all : List Step) → taken_back t LastMark (step t Marked ∷ all) ≡ all
  back all = let its : (t == t) ≡ true = eq-eqb t t refl in rw its refl

  -- the steps are those from before the mark
  pub undone_steps : steps o (undoes ∷ (since ++ (sets ∷ h))) ≡ steps o h
  undone_steps =
      ap (λ f. steps_after f (λ u. row_at (changes_by u (steps o (since ++ (sets ∷ h)))
      ++ base o (since ++ (sets ∷ h)) u) catalog_name) (steps o (since ++ (sets ∷ h))))
      it.undoes_it
      ∙ ap (taken_back t LastMark) marked_steps ∙ back (steps o h)

  -- and so are the states and the database
  pub undone_state : (u : ℕ) → state_of o (undoes ∷ (since ++ (sets ∷ h))) u ≡ state_of o h u
  undone_state u =
      ap (λ f. state_after f u (state_of o (since ++ (sets ∷ h)) u)) it.undoes_it
      ∙ idle_state o (sets ∷ h) since it.idle u
      ∙ ap (λ f. state_after f u (state_of o h u)) it.sets_it

  pub undone_database : database o (undoes ∷ (since ++ (sets ∷ h))) ≡ database o h
  undone_database =
      ap (λ f. database_after f (own o (since ++ (sets ∷ h))) (database o (since ++ (sets ∷ h))))
      it.undoes_it
      ∙ idle_database o (sets ∷ h) since it.idle
      ∙ ap (λ f. database_after f (own o h) (database o h)) it.sets_it

module _ (o : Opening) (opening : MayBegin o) (table : List ℕ) (key : Value)
    (gs : List Generation) where
  -- an entry that does nothing leaves the versions
  idle_go_on : (h : Entries) (e : Entry) → IsLegal o (e ∷ h) → effect_of e ≡ Nothing
      → AreGenerations o h table key gs → AreGenerations o (e ∷ h) table key gs
  idle_go_on h e legal is it =
      generations_left o opening h e legal table key gs it (ap leaves_versions is)

  pub idle_entries : (h since : Entries) → IsLegal o (since ++ h) → DoNothing since
      → AreGenerations o h table key gs → AreGenerations o (since ++ h) table key gs
  idle_entries h [] legal idle it = it
  idle_entries h (e ∷ since) legal idle it =
      idle_go_on (since ++ h) e legal idle.0 (idle_entries h since legal.1 idle.1 it)

  legal_before : (h since : Entries) → IsLegal o (since ++ h) → IsLegal o h
  legal_before h [] legal = legal
  legal_before h (e ∷ since) legal = legal_before h since legal.1

  -- a mark leaves them
  mark_goes_on : (h : Entries) (e : Entry) (t : ℕ) → IsLegal o (e ∷ h) → effect_of e ≡ Marks t
      → AreGenerations o h table key gs → AreGenerations o (e ∷ h) table key gs
  mark_goes_on h e t legal is it =
      generations_left o opening h e legal table key gs it (ap leaves_versions is)

  -- a mark that is taken back with nothing done since leaves the versions
  pub generations_undone : (h : Entries) (t : ℕ) (sets : Entry) (since : Entries) (undoes : Entry)
      → IsLegal o (undoes ∷ (since ++ (sets ∷ h))) → IsUndone t sets since undoes
      → AreGenerations o h table key gs
      → AreGenerations o (undoes ∷ (since ++ (sets ∷ h))) table key gs
  generations_undone h t sets since undoes legal undone it =
      let set_ : AreGenerations o (sets ∷ h) table key gs =
      mark_goes_on h sets t (legal_before (sets ∷ h) since legal.1) undone.sets_it it in
      let waited : AreGenerations o (since ++ (sets ∷ h)) table key gs =
      idle_entries (sets ∷ h) since legal.1 undone.idle set_ in
      let states : (u : ℕ) → state_of o (undoes ∷ (since ++ (sets ∷ h))) u
      ≡ state_of o (since ++ (sets ∷ h)) u =
      λ u. ap (λ f. state_after f u (state_of o (since ++ (sets ∷ h)) u)) undone.undoes_it in
      go_on_same o opening (since ++ (sets ∷ h)) undoes legal table key gs waited
      (λ u alive dead. alive (sym (states u) ∙ dead))
      (same_along table key (steps o (undoes ∷ (since ++ (sets ∷ h)))) (steps o h)
      (steps o (since ++ (sets ∷ h))) (undone_steps o h t sets since undoes undone)
      (same_back table key (steps o (since ++ (sets ∷ h))) (steps o h)
      (same_along table key (steps o (since ++ (sets ∷ h))) (step t Marked ∷ steps o h)
      (steps o h) (marked_steps o h t sets since undoes undone)
      (same_after_step table key t Marked (steps o h) refl))))
      (shows_here o opening (since ++ (sets ∷ h)) undoes legal table key gs waited
      (ap (λ f. database_after f (own o (since ++ (sets ∷ h))) (database o (since ++ (sets ∷ h))))
      undone.undoes_it)
      (λ u alive. ap is_committed (states u)))
