-- An engine stands for the history where a transaction is rolled back whose changes were being taken back.
use Rattle.std.proofs.Common.{◌≡◌, ◌≢◌, ◌⊎◌, inl, inr, ◌==◌, ap, sym, subst, ◌∙◌, ℕ, true, false, not, ◌∷◌, None, Some, refl}
use Rattle.std.proofs.Math.Path.{fun_ext}
use Rattle.std.proofs.lemmas.Bool.{cases_eq, eq-eqb, ne_eqb}
use Rattle.mg_base.specs.Disk.{Meaning}
use Rattle.mg_base.specs.declared.transaction.TxState.{TxState}
use Rattle.mg_base.specs.declared.transaction.TxState.TheVariants.{Active, Dead}
use Rattle.mg_engine_step_laws.specs.backs.Again.{again, rolling}
use Rattle.mg_engine_step_laws.specs.backs.Midway.{MidwaysAreGivenUp}
use Rattle.mg_engine_step_laws.specs.backs.MidwayLaws.{lasts_of}
use Rattle.mg_engine_step_laws.specs.commits.PageWrites.{AsksOtherwise}
use Rattle.mg_engine_meaning_laws.specs.Falling.{all_but}
use Rattle.mg_engine_change_laws.specs.given_up.GivenUp.{EnginesGiveUp, GivenUpIsShown, GivesUp}
use Rattle.mg_engine_step_laws.specs.writes.GoesOn.{PoolIsKept}
use Rattle.mg_image.specs.Form.{packed_form}
use Rattle.mg_image.specs.Sound.{IsSoundBy}
use Rattle.mg_image_overlay_laws.specs.kept.KeptImages.{IsKept}
use Rattle.mg_lasting_laws.specs.Crashes.{HoldsAcknowledged, LeavesSince}
use Rattle.mg_lasting_laws.specs.Entries.{is_idle}
use Rattle.mg_lasting_laws.specs.Lasting.{LastsOn}
use Rattle.mg_model.specs.History.{Effect, Entries, Entry}
use Rattle.mg_model.specs.Laws.{OpeningsBegin}
use Rattle.mg_model.specs.Machine.{state_after}
use Rattle.mg_model.specs.Openings.{everyone}
use Rattle.mg_model.specs.declared.opening.Opening.{Opening}
use Rattle.mg_overlay_laws.specs.Overlays.{left_by, left_state}
use Rattle.mg_pool.specs.Pool.{shown}
use Rattle.mg_engine_step_laws.specs.standing.Following.{StandsOn}
use Rattle.mg_engine_step_laws.specs.standing.Standing.{Standing}

-- where all but the transaction count as in limbo, the states are those after it is rolled back
module _ (o : Opening) (h : Entries) (refused rolled : Entry) (t : ℕ) (s mid new : Standing)
    (gives : GivesUp o h refused rolled t s mid new) where
  mid_state : (u : ℕ) → mid.state u ≡ s.state u
  mid_state u = gives.first.state u ∙ ap (λ (f : Effect). state_after f u (s.state u)) gives.nothing

  pub dead_now : new.state t ≡ Dead
  dead_now = gives.then_.state t ∙ (ap (λ (f : Effect). state_after f t (mid.state t)) gives.dies
      ∙ rw (eq-eqb t t refl) refl)

  others_now : (u : ℕ) → u ≢ t → new.state u ≡ s.state u
  others_now u ne = gives.then_.state u ∙ (ap (λ (f : Effect). state_after f u (mid.state u)) gives.dies
      ∙ (rw (ne_eqb t u (λ same. ne (sym same))) refl ∙ mid_state u))

  left_now : (u : ℕ) → left_state (all_but t) s.state u ≡ left_state everyone new.state u
  left_now u = at (cases_eq u t)
    where
      at : (u ≡ t) ⊎ (u ≢ t) → left_by (not (u == t)) (s.state u) ≡ left_by true (new.state u)
      at (inl same) =
          let its : (u == t) ≡ true = eq-eqb u t same in
          let was : s.state u ≡ Active = ap s.state same ∙ gives.active in
          let dead : new.state u ≡ Dead = ap new.state same ∙ dead_now in
          rw (its, was, dead) refl
      at (inr ne) =
          let other : (u == t) ≡ false = ne_eqb u t ne in
          let same : new.state u ≡ s.state u = others_now u ne in
          rw (other, same) refl

  pub states_now : left_state (all_but t) s.state ≡ left_state everyone new.state
  states_now = fun_ext left_now

pub engines_give_up : (D L : Type 0) (m : Meaning D) → GivenUpIsShown → OpeningsBegin → StandsOn packed_form
    → PoolIsKept packed_form D L → MidwaysAreGivenUp packed_form D L m → AsksOtherwise D L m packed_form
    → EnginesGiveUp D L m
engines_give_up D L m is_shown begins on pool_kept given_up otherwise o h e refused t whole left s mid new start pool k
    i has_asked now_asked session now_session stands is_pool held grows plain taken lawful ends passing no_failure gives
    keep_asking midway shown_ = (
      on pool.geometry.size o (refused ∷ h) (rolling t) mid new None (Some (shown pool.dirty i))
          (on pool.geometry.size o h refused s mid (Some (shown start.dirty k)) None stands lawful gives.first tt)
          ends gives.then_
          (is_shown pool.geometry.size o h e refused (rolling t) t whole left s mid new (shown start.dirty k)
          (shown pool.dirty i) stands.shows (begins o stands.opening) (ends, (lawful, stands.legal)) stands.memory
          grows plain taken gives shown_ kept.layout kept.reading
          (subst (λ (x : ℕ → TxState). IsSoundBy packed_form pool.geometry.size x (shown pool.dirty i) kept.layout
          kept.reading) (states_now o h refused (rolling t) t s mid new gives) kept.sound)),
      otherwise o (rolling t ∷ refused ∷ h) pool has_asked now_asked session now_session keep_asking lasting.0,
      lasting.1,
    )
  where
    kept : IsKept packed_form pool.geometry.size o (again t left (e ∷ h)) (left_state (all_but t) s.state)
        (shown pool.dirty i) (shown pool.dirty i)
    kept = pool_kept pool.geometry.size o (again t left (e ∷ h)) s.state has_asked session pool i (all_but t)
        midway.kept

    lasting : LastsOn m packed_form o (rolling t ∷ refused ∷ h) pool has_asked session
        × LeavesSince m start.disk pool.disk (HoldsAcknowledged packed_form pool.geometry.size o h)
    lasting = given_up o h refused start pool has_asked session t (ap is_idle gives.nothing) passing no_failure
        (lasts_of m packed_form pool.geometry.size o h e t left s start pool i has_asked session midway)
