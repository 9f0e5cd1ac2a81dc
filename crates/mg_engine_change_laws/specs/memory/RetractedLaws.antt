-- A change that was kept and is not made after all changes nothing that an engine stands for, but that the transaction
-- no longer asks for its commit.
use Rattle.std.proofs.Common.{◌≡◌, ◌≤◌, inr, ℕ, suc, List, [], ◌∷◌, length, Option, None, Some, refl, sym, ap, ◌∙◌, subst, arith}
use Rattle.std.proofs.Math.Path.{fun_ext}
use Rattle.mg_base.specs.Disk.{Meaning}
use Rattle.mg_base.specs.declared.transaction.TxState.TheVariants.{Active}
use Rattle.mg_engine_step_laws.specs.standing.Standing.{Standing}
use Rattle.mg_engine_step_laws.specs.commits.Unasked.{UnaskingLasts}
use Rattle.mg_image.specs.Form.{packed_form}
use Rattle.mg_lasting_laws.specs.Lasting.{LastsOn}
use Rattle.mg_model.specs.declared.change.Deed.{Deed}
use Rattle.mg_model.specs.declared.change.Deed.TheVariants.{Changed, Marked, Saved}
use Rattle.mg_model.specs.declared.opening.Opening.{Opening}
use Rattle.mg_model.specs.History.{Entries}
use Rattle.mg_model.specs.Machine.{changes_in, deeds_by, steps}
use Rattle.mg_pool_overlay_laws.specs.Needs.{Sessions}
use Rattle.mg_space.specs.declared.links.FireLinks.{FireLinks}
use Rattle.mg_txlist.specs.TxList.{said}
use Rattle.mg_undo.specs.Machine.{changes_of, points_of, undo_of}
use Rattle.mg_undo.specs.Undo.{AreWithin, RetractTakesKeepBack, State, after_keep, after_retract}
use Rattle.mg_undo.specs.declared.changes.Was.{Was}
use Rattle.mg_undo.specs.declared.points.Standing.{Standing as Point}
use Rattle.mg_value.specs.declared.value.Value.{Value}
use Rattle.mg_works.specs.Works.{Working, given_by, given_to, unasked, with_change, with_work, without_change, work_of}
use Rattle.mg_works.specs.WorksLaws.{with_its}
use Rattle.mg_core.specs.declared.parts.Core.{Core}
use Rattle.mg_core.specs.Putting.{works_kept}
use Rattle.mg_engine_meaning_laws.specs.FrameLaws.{kept_all, kept_with, same_modes, same_sessions, works_with}
use Rattle.mg_engine_meaning_laws.specs.Frames.{WorksStay}
use Rattle.mg_engine_meaning_laws.specs.LawfulLaws.{memory_of}
use Rattle.mg_engine_meaning_laws.specs.Standings.{Numbers, StandsFor, StandsWhile, Tables, asked_in, asked_kept, mode_kept, sessions_in, standing_of, undo_kept, written_kept}
use Rattle.mg_engine_meaning_laws.specs.KeptLaws.{kept_each}
use Rattle.mg_engine_change_laws.specs.rows.MadeLaws.{given_stays, stays_then, works_stay}
use Rattle.mg_engine_change_laws.specs.memory.Retracted.{works_retracted}

-- ---- points stand no higher than the changes

higher : (low high : ℕ) (points : List Point) → low ≤ high → AreWithin low points → AreWithin high points
higher low high [] more within = tt
higher low high (p ∷ ps) more within = (let below = within.0 in omega (arith, more, below), within.1)

many_changes : (number : List ℕ → ℕ) (deeds : List Deed)
    → length (changes_of number deeds) ≡ length (changes_in deeds)
many_changes number [] = refl
many_changes number (Changed c ∷ deeds) = ap suc (many_changes number deeds)
many_changes number (Marked ∷ deeds) = many_changes number deeds
many_changes number (Saved name ∷ deeds) = many_changes number deeds

points_within : (deeds : List Deed) → AreWithin (length (changes_in deeds)) (points_of deeds)
points_within [] = tt
points_within (Changed c ∷ deeds) = higher (length (changes_in deeds)) (length (changes_in (Changed c ∷ deeds)))
    (points_of deeds) (omega arith) (points_within deeds)
points_within (Marked ∷ deeds) = (omega arith, points_within deeds)
points_within (Saved name ∷ deeds) = (omega arith, points_within deeds)

undo_within : (number : List ℕ → ℕ) (deeds : List Deed)
    → AreWithin (length (changes_of number deeds)) (points_of deeds)
undo_within number deeds = higher (length (changes_in deeds)) (length (changes_of number deeds)) (points_of deeds)
    (omega (arith, many_changes number deeds)) (points_within deeds)

-- ---- works

module _ (t owner : ℕ) (key : Value) (was : Was) (works : List Working) where
  abbrev kept : List Working
  kept = works_kept t owner key was works

  pub retracted_frame : WorksStay works (works_retracted t owner key was works) t
  retracted_frame = stays_then works kept (works_retracted t owner key was works) t (works_stay t owner key was works)
      (works_with t without_change (λ w. refl) (λ w. refl) kept (λ w. refl))

  pub retracted_given : (u : ℕ) (name : List ℕ)
      → given_to (works_retracted t owner key was works) u name ≡ given_to works u name
  retracted_given u name = kept_all kept (works_retracted t owner key was works) t
      (works_with t without_change (λ w. refl) (λ w. refl) kept (λ w. refl))
      (λ (w : Option Working). given_by w name)
      (kept_with t without_change (λ w. refl) (λ w. refl) kept (λ (w : Option Working). given_by w name) (λ w. refl)) u
      ∙ given_stays t owner key was works u name

  retracted_its : (work : Working) → work_of works t ≡ Some work
      → work_of (works_retracted t owner key was works) t
      ≡ Some (without_change (unasked (with_change owner key was work)))
  retracted_its work its = with_its t without_change (λ w. refl) (λ w. refl) kept
      (unasked (with_change owner key was work))
      (with_its t unasked (λ w. refl) (λ w. refl) (with_work t (with_change owner key was) works)
      (with_change owner key was work)
      (with_its t (with_change owner key was) (λ w. refl) (λ w. refl) works work its))

-- ---- an engine

module _ (retract : RetractTakesKeepBack) {D : Type 0} (m : Meaning D)
    (unask : UnaskingLasts packed_form D FireLinks m) (core : Core D) (t owner : ℕ) (key : Value) (was : Was)
    (work : Working) (its : work_of core.works t ≡ Some work) (active : said core.list t ≡ Active) (o : Opening)
    (h : Entries) (stands : StandsFor m core o h) where
  abbrev now : List Working
  now = works_retracted t owner key was core.works

  abbrev later : Core D
  later = record core { works = now }

  told_undo : work.undo ≡ undo_of (stands.numbers t) (deeds_by t (steps o h))
  told_undo = sym (ap undo_kept its) ∙ ((memory_of m core o h stands).active t
      (sym ((memory_of m core o h stands).state t) ∙ active)).undo

  back : after_retract (after_keep work.undo owner key was) ≡ work.undo
  back = ap (λ (u : State). after_retract (after_keep u owner key was)) told_undo
      ∙ (retract (undo_of (stands.numbers t) (deeds_by t (steps o h))) owner key was
      (undo_within (stands.numbers t) (deeds_by t (steps o h))) ∙ sym told_undo)

  undos : (u : ℕ) → undo_kept (work_of core.works u) ≡ undo_kept (work_of now u)
  undos u = sym (kept_all core.works now t (retracted_frame t owner key was core.works) undo_kept
      (ap undo_kept (retracted_its t owner key was core.works work its) ∙ (back ∙ sym (ap undo_kept its))) u)

  writtens : (u : ℕ) → written_kept (work_of now u) ≡ written_kept (work_of core.works u)
  writtens u = kept_all core.works now t (retracted_frame t owner key was core.works) written_kept
      (ap written_kept (retracted_its t owner key was core.works work its) ∙ sym (ap written_kept its)) u

  same_standing : (numbers : Numbers) (tables : Tables)
      → standing_of core numbers tables ≡ standing_of later numbers tables
  same_standing numbers tables =
      let modes : (λ (u : ℕ). mode_kept (work_of core.works u)) ≡ (λ (u : ℕ). mode_kept (work_of now u))
      = fun_ext (λ u. sym (same_modes core.works now t (retracted_frame t owner key was core.works) u)) in
      let sessions : sessions_in core.works ≡ sessions_in now
      = sym (same_sessions core.works now t (retracted_frame t owner key was core.works)) in
      let undone : (λ (u : ℕ). undo_kept (work_of core.works u)) ≡ (λ (u : ℕ). undo_kept (work_of now u))
      = fun_ext undos in
      λ i. record (standing_of core numbers tables) { mode = modes i; session = sessions i; undo = undone i }

  stands_with : (s : Standing) (offline : Option ℕ) → StandsWhile m core o h s offline
      → StandsWhile m later o h s offline
  stands_with s None shows = record {
    image = shows.image;
    held = shows.held;
    stands = shows.stands;
    lasts = unask o h core.store (asked_in core.works) (asked_in now) (sessions_in now) t
        (ap asked_kept (retracted_its t owner key was core.works work its))
        (λ u ne. ap asked_kept ((retracted_frame t owner key was core.works).others u ne))
        (subst (λ (session : Sessions). LastsOn m packed_form o h core.store (asked_in core.works) session)
        (sym (same_sessions core.works now t (retracted_frame t owner key was core.works))) shows.lasts);
    tips = shows.tips;
    catalog = shows.catalog;
    plain_tables = shows.plain_tables;
    no_directory = shows.no_directory;
    known = shows.known;
  }
  stands_with s (Some faults) keeps = record { stands = keeps.stands; left = keeps.left }

  pub retracted_stands : StandsFor m (record core { works = works_retracted t owner key was core.works }) o h
  retracted_stands = record {
    tells = stands.tells;
    grows = stands.grows;
    bases = stands.bases;
    numbers = stands.numbers;
    tables = stands.tables;
    given = λ u name table is. stands.given u name table (sym (retracted_given t owner key was core.works u name) ∙ is);
    kept = kept_each core.catalog.pointer.0 core.works now stands.tables stands.tables stands.kept
        (λ u. inr (record {
          written = writtens u;
          changes = ap (λ (x : State). x.changes) (sym (undos u));
          seen = λ table alike. alike;
        }));
    stands = subst (λ (s : Standing). StandsWhile m later o h s core.store.offline)
        (same_standing stands.numbers stands.tables)
        (stands_with (standing_of core stands.numbers stands.tables) core.store.offline stands.stands);
  }
