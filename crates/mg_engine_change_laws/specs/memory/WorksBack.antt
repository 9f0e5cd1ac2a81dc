-- What was kept of a table's keys is taken back: of what an engine stands for nothing has changed, but maybe that the
-- transaction no longer asks for its commit.
use Rattle.std.proofs.Common.{◌≡◌, ◌≤◌, ◌⊎◌, inl, inr, refl, sym, ap, ◌∙◌, subst, arith, ℕ, zero, suc, false, List, [], ◌∷◌, length, Option, None, Some}
use Rattle.std.proofs.Math.Path.{fun_ext}
use Rattle.mg_base.specs.Disk.{Meaning}
use Rattle.mg_base.specs.declared.transaction.TxState.TheVariants.{Active}
use Rattle.mg_value.specs.declared.value.Value.{Value}
use Rattle.mg_image.specs.Form.{packed_form}
use Rattle.mg_lasting_laws.specs.Lasting.{LastsOn}
use Rattle.mg_model.specs.declared.change.Deed.{Deed}
use Rattle.mg_model.specs.declared.change.Deed.TheVariants.{Changed, Marked, Saved}
use Rattle.mg_model.specs.declared.opening.Opening.{Opening}
use Rattle.mg_model.specs.History.{Entries}
use Rattle.mg_model.specs.Machine.{changes_in, deeds_by, steps}
use Rattle.mg_pool_overlay_laws.specs.Needs.{Asked, Sessions}
use Rattle.mg_space.specs.declared.links.FireLinks.{FireLinks}
use Rattle.mg_txlist.specs.TxList.{said}
use Rattle.mg_undo.specs.Machine.{changes_of, points_of, undo_of}
use Rattle.mg_undo.specs.Undo.{AreWithin, RetractTakesKeepBack, State as Undo, after_keep, after_retract}
use Rattle.mg_undo.specs.declared.changes.Was.TheVariants.{Untouched}
use Rattle.mg_undo.specs.declared.points.Standing.{Standing as Point}
use Rattle.mg_works.specs.Works.{Working, given_by, given_to, with_change, with_work, without_change, work_of}
use Rattle.mg_works.specs.WorksLaws.{with_its}
use Rattle.mg_core.specs.declared.parts.Core.{Core}
use Rattle.mg_table_making.specs.Keeping.{kept_each, retracted}
use Rattle.mg_engine_step_laws.specs.standing.Standing.{Standing}
use Rattle.mg_engine_step_laws.specs.commits.Unasked.{UnaskingLasts}
use Rattle.mg_engine_meaning_laws.specs.FrameLaws.{kept_all, kept_with, same_asked, same_modes, same_sessions, works_same, works_with}
use Rattle.mg_engine_meaning_laws.specs.Frames.{WorksStay}
use Rattle.mg_engine_meaning_laws.specs.KeptLaws.{kept_each as each_is_kept}
use Rattle.mg_engine_meaning_laws.specs.LawfulLaws.{memory_of}
use Rattle.mg_engine_meaning_laws.specs.Standings.{Numbers, StandsFor, StandsWhile, Tables, asked_in, asked_kept, mode_kept, sessions_in, standing_of, undo_kept, written_kept}
use Rattle.mg_engine_change_laws.specs.rows.MadeLaws.{stays_then}
use Rattle.mg_engine_change_laws.specs.memory.WorksMade.{keys_kept}

-- ---- points stand no higher than the changes

higher : (low high : ℕ) (points : List Point) → low ≤ high → AreWithin low points → AreWithin high points
higher low high [] more within = tt
higher low high (p ∷ ps) more within = (let below = within.0 in omega (arith, more, below), within.1)

many_changes : (number : List ℕ → ℕ) (deeds : List Deed)
    → length (changes_of number deeds) ≡ length (changes_in deeds)
many_changes number [] = refl
many_changes number (Changed c ∷ deeds) = ap suc (many_changes number deeds)
many_changes number (Marked ∷ deeds) = many_changes number deeds
many_changes number (Saved name ∷ deeds) = many_changes number deeds

points_within : (deeds : List Deed) → AreWithin (length (changes_in deeds)) (points_of deeds)
points_within [] = tt
points_within (Changed c ∷ deeds) = higher (length (changes_in deeds)) (length (changes_in (Changed c ∷ deeds)))
    (points_of deeds) (omega arith) (points_within deeds)
points_within (Marked ∷ deeds) = (omega arith, points_within deeds)
points_within (Saved name ∷ deeds) = (omega arith, points_within deeds)

undo_within : (number : List ℕ → ℕ) (deeds : List Deed)
    → AreWithin (length (changes_of number deeds)) (points_of deeds)
undo_within number deeds = higher (length (changes_in deeds)) (length (changes_of number deeds)) (points_of deeds)
    (omega (arith, many_changes number deeds)) (points_within deeds)

-- ---- so many are taken back

abbrev pub taken_back : ℕ → Undo → Undo
taken_back zero undo = undo
taken_back (suc n) undo = taken_back n (after_retract undo)

back_one : (n : ℕ) (undo : Undo) → taken_back n (after_retract undo) ≡ after_retract (taken_back n undo)
back_one zero undo = refl
back_one (suc n) undo = back_one n (after_retract undo)

keys_back : RetractTakesKeepBack → (owner : ℕ) (keys : List Value) (undo : Undo)
    → AreWithin (length undo.changes) undo.points → undo.going_back ≡ false
    → taken_back (length keys) (keys_kept owner keys undo) ≡ undo
keys_back retract owner [] undo within still = refl
keys_back retract owner (key ∷ keys) undo within still =
    back_one (length keys) (keys_kept owner keys (after_keep undo owner key Untouched))
    ∙ (ap after_retract (keys_back retract owner keys (after_keep undo owner key Untouched)
    (higher (length undo.changes) (length (after_keep undo owner key Untouched).changes) undo.points (omega arith) within)
    refl)
    ∙ (retract undo owner key Untouched within ∙ (λ i. record undo { going_back = sym still i })))

-- ---- works

pub back_stays : (t n : ℕ) (works : List Working) → WorksStay works (retracted t n works) t
back_stays t zero works = works_same works t
back_stays t (suc n) works = stays_then works (with_work t without_change works) (retracted t (suc n) works) t
    (works_with t without_change (λ w. refl) (λ w. refl) works (λ w. refl))
    (back_stays t n (with_work t without_change works))

pub back_with : {A : Type 0} (t : ℕ) (f : Option Working → A) → ((w : Working) → f (Some (without_change w)) ≡ f (Some w))
    → (n : ℕ) (works : List Working) → f (work_of (retracted t n works) t) ≡ f (work_of works t)
back_with t f same zero works = refl
back_with t f same (suc n) works = back_with t f same n (with_work t without_change works)
    ∙ kept_with t without_change (λ w. refl) (λ w. refl) works f same

pub back_undo : (t n : ℕ) (works : List Working) (work : Working) → work_of works t ≡ Some work
    → undo_kept (work_of (retracted t n works) t) ≡ taken_back n work.undo
back_undo t zero works work its = ap undo_kept its
back_undo t (suc n) works work its = back_undo t n (with_work t without_change works) (without_change work)
    (with_its t without_change (λ w. refl) (λ w. refl) works work its)

-- the work that has keys kept
pub its_kept : (t owner : ℕ) (keys : List Value) (works : List Working) (work : Working) → work_of works t ≡ Some work
    → (w : Working) × (work_of (kept_each t owner keys works) t ≡ Some w) × (w.undo ≡ keys_kept owner keys work.undo)
its_kept t owner [] works work its = (work, its, refl)
its_kept t owner (key ∷ keys) works work its = its_kept t owner keys (with_work t (with_change owner key Untouched) works)
    (with_change owner key Untouched work)
    (with_its t (with_change owner key Untouched) (λ w. refl) (λ w. refl) works work its)

-- ---- an engine

-- A transaction has to take back what it had to after so many keys were kept and taken back.
pub record TakesBack (t owner : ℕ) (works now : List Working) : Type 0 where
  pub stay : WorksStay works now t
  pub written : written_kept (work_of now t) ≡ written_kept (work_of works t)
  pub given : (name : List ℕ) → given_by (work_of now t) name ≡ given_by (work_of works t) name
  pub asks : (asked_kept (work_of now t) ≡ false) ⊎ (asked_kept (work_of now t) ≡ asked_kept (work_of works t))
  pub keys : List Value
  pub back : (work : Working) → work_of works t ≡ Some work
      → undo_kept (work_of now t) ≡ taken_back (length keys) (keys_kept owner keys work.undo)

module _ (retract : RetractTakesKeepBack) {D : Type 0} (m : Meaning D)
    (unask : UnaskingLasts packed_form D FireLinks m) (core : Core D) (t owner : ℕ) (now : List Working)
    (takes : TakesBack t owner core.works now) (work : Working) (its : work_of core.works t ≡ Some work)
    (active : said core.list t ≡ Active) (o : Opening) (h : Entries) (stands : StandsFor m core o h) where
  abbrev later : Core D
  later = record core { works = now }

  told_undo : work.undo ≡ undo_of (stands.numbers t) (deeds_by t (steps o h))
  told_undo = sym (ap undo_kept its) ∙ ((memory_of m core o h stands).active t
      (sym ((memory_of m core o h stands).state t) ∙ active)).undo

  within : AreWithin (length work.undo.changes) work.undo.points
  within = subst (λ (u : Undo). AreWithin (length u.changes) u.points) (sym told_undo)
      (undo_within (stands.numbers t) (deeds_by t (steps o h)))

  same_undo : undo_kept (work_of now t) ≡ undo_kept (work_of core.works t)
  same_undo = takes.back work its ∙ (keys_back retract owner takes.keys work.undo within
      (ap (λ (u : Undo). u.going_back) told_undo) ∙ sym (ap undo_kept its))

  undos : (u : ℕ) → undo_kept (work_of core.works u) ≡ undo_kept (work_of now u)
  undos u = sym (kept_all core.works now t takes.stay undo_kept same_undo u)

  writtens : (u : ℕ) → written_kept (work_of now u) ≡ written_kept (work_of core.works u)
  writtens u = kept_all core.works now t takes.stay written_kept takes.written u

  givens : (u : ℕ) (name : List ℕ) → given_to now u name ≡ given_to core.works u name
  givens u name = kept_all core.works now t takes.stay (λ (w : Option Working). given_by w name) (takes.given name) u

  same_standing : (numbers : Numbers) (tables : Tables)
      → standing_of core numbers tables ≡ standing_of later numbers tables
  same_standing numbers tables =
      let modes : (λ (u : ℕ). mode_kept (work_of core.works u)) ≡ (λ (u : ℕ). mode_kept (work_of now u))
      = fun_ext (λ u. sym (same_modes core.works now t takes.stay u)) in
      let sessions : sessions_in core.works ≡ sessions_in now
      = sym (same_sessions core.works now t takes.stay) in
      let undone : (λ (u : ℕ). undo_kept (work_of core.works u)) ≡ (λ (u : ℕ). undo_kept (work_of now u))
      = fun_ext undos in
      λ i. record (standing_of core numbers tables) { mode = modes i; session = sessions i; undo = undone i }

  lasts_on : LastsOn m packed_form o h core.store (asked_in core.works) (sessions_in core.works)
      → LastsOn m packed_form o h core.store (asked_in now) (sessions_in now)
  lasts_on lasts = subst (λ (session : Sessions). LastsOn m packed_form o h core.store (asked_in now) session)
      (sym (same_sessions core.works now t takes.stay)) (at takes.asks)
    where
      at : (asked_kept (work_of now t) ≡ false) ⊎ (asked_kept (work_of now t) ≡ asked_kept (work_of core.works t))
          → LastsOn m packed_form o h core.store (asked_in now) (sessions_in core.works)
      at (inl none) = unask o h core.store (asked_in core.works) (asked_in now) (sessions_in core.works) t none
          (λ u ne. ap asked_kept (takes.stay.others u ne)) lasts
      at (inr same) = subst (λ (asks : Asked). LastsOn m packed_form o h core.store asks (sessions_in core.works))
          (sym (same_asked core.works now t takes.stay same)) lasts

  stands_with : (s : Standing) (offline : Option ℕ) → StandsWhile m core o h s offline
      → StandsWhile m later o h s offline
  stands_with s None shows = record {
    image = shows.image;
    held = shows.held;
    stands = shows.stands;
    lasts = lasts_on shows.lasts;
    tips = shows.tips;
    catalog = shows.catalog;
    plain_tables = shows.plain_tables;
    no_directory = shows.no_directory;
    known = shows.known;
  }
  stands_with s (Some faults) keeps = record { stands = keeps.stands; left = keeps.left }

  pub back_stands : StandsFor m (record core { works = now }) o h
  back_stands = record {
    tells = stands.tells;
    grows = stands.grows;
    bases = stands.bases;
    numbers = stands.numbers;
    tables = stands.tables;
    given = λ u name table is. stands.given u name table (sym (givens u name) ∙ is);
    kept = each_is_kept core.catalog.pointer.0 core.works now stands.tables stands.tables stands.kept
        (λ u. inr (record {
          written = writtens u;
          changes = ap (λ (x : Undo). x.changes) (sym (undos u));
          seen = λ table alike. alike;
        }));
    stands = subst (λ (s : Standing). StandsWhile m later o h s core.store.offline)
        (same_standing stands.numbers stands.tables)
        (stands_with (standing_of core stands.numbers stands.tables) core.store.offline stands.stands);
  }
