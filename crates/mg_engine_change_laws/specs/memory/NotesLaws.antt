-- What is kept of tables that are written into counts for nothing else.
use Rattle.std.proofs.Common.{◌≡◌, ◌≢◌, ◌⊎◌, ◌==◌, ◌||◌, inl, inr, ℕ, Bool, true, false, List, [], ◌∷◌, Option, None, Some, if◌then◌else◌, is_some, ap, refl, subst, sym, ◌∙◌}
use Rattle.std.proofs.Math.Path.{fun_ext}
use Rattle.std.proofs.lemmas.Bool.{cases_eq, eq-eqb}
use Rattle.mg_base.specs.Disk.{Meaning}
use Rattle.mg_model.specs.declared.opening.Opening.{Opening}
use Rattle.mg_model.specs.declared.table.Table.{Table}
use Rattle.mg_model.specs.History.{Entries}
use Rattle.mg_pool_overlay_laws.specs.Needs.{Asked, Sessions}
use Rattle.mg_engine_step_laws.specs.standing.Standing.{Standing}
use Rattle.mg_lasting_laws.specs.Lasting.{LastsOn}
use Rattle.mg_image.specs.Form.{packed_form}
use Rattle.mg_image_overlay_laws.specs.tables.TableOwners.{IsOneOf}
use Rattle.mg_works.specs.Works.{Working, given_by, has_session, with_work, with_written, work_of, written_by, written_in, written_to}
use Rattle.mg_works.specs.WorksLaws.{none_untouched, with_its, with_none, with_others}
use Rattle.mg_core.specs.declared.parts.Core.{Core}
use Rattle.mg_engine_meaning_laws.specs.KeptLaws.{kept_behind}
use Rattle.mg_engine_meaning_laws.specs.Standings.{AreTold, KeepsWritten, Numbers, SeesIt, StandsFor, StandsWhile, Tables, asked_in, asked_kept, mode_kept, session_kept, sessions_in, standing_of, undo_kept, written_kept}
use Rattle.mg_taking_back.specs.Noting.{noted, noted_if}
use Rattle.mg_engine_change_laws.specs.memory.KeptTables.{NotedTablesAreKept, NotedWorksStay, NotesStay, WorksStay}

-- what does not look at the tables that are written into is as it was
module _ (t : ℕ) (table : Table) (works : List Working) where
  with_kept : {X : Type 0} (F : Option Working → X) → ((w : Working) → F (Some (with_written table w)) ≡ F (Some w))
      → (u : ℕ) → F (work_of (with_work t (with_written table) works) u) ≡ F (work_of works u)
  with_kept {X} F same u = at (cases_eq u t) (work_of works t) refl
    where
      at : (u ≡ t) ⊎ (u ≢ t) → (found : Option Working) → work_of works t ≡ found
          → F (work_of (with_work t (with_written table) works) u) ≡ F (work_of works u)
      at (inr apart) found is = ap F (with_others t (with_written table) (λ w. refl) (λ w. refl) works u apart)
      at (inl e) None is =
          ap F (ap (work_of (with_work t (with_written table) works)) e
          ∙ with_none t (with_written table) (λ w. refl) (λ w. refl) works t is)
          ∙ sym (ap F (ap (work_of works) e ∙ is))
      at (inl e) (Some w) is =
          ap F (ap (work_of (with_work t (with_written table) works)) e
          ∙ with_its t (with_written table) (λ v. refl) (λ v. refl) works w is)
          ∙ (same w ∙ sym (ap F (ap (work_of works) e ∙ is)))

  kept : {X : Type 0} (F : Option Working → X) → ((w : Working) → F (Some (with_written table w)) ≡ F (Some w))
      → (u : ℕ) → F (work_of (noted t table works) u) ≡ F (work_of works u)
  kept {X} F same u = at _
    where
      at : (b : Bool) → F (work_of (noted_if b t table works) u) ≡ F (work_of works u)
      at true = refl
      at false = with_kept F same u

with_sessions : (t : ℕ) (table : Table) (works : List Working) (session : ℕ)
    → has_session (with_work t (with_written table) works) session ≡ has_session works session
with_sessions t table [] session = refl
with_sessions t table (w ∷ works) session = at (w.number == t) (with_sessions t table works session)
  where
    at : (b : Bool) → has_session (with_work t (with_written table) works) session ≡ has_session works session
        → has_session ((if b then with_written table w else w) ∷ with_work t (with_written table) works) session
        ≡ has_session (w ∷ works) session
    at true more = ap (λ (b : Bool). w.session == session || b) more
    at false more = ap (λ (b : Bool). w.session == session || b) more

same_sessions : (t : ℕ) (table : Table) (works : List Working) (session : ℕ)
    → has_session (noted t table works) session ≡ has_session works session
same_sessions t table works session = at _
  where
    at : (b : Bool) → has_session (noted_if b t table works) session ≡ has_session works session
    at true = refl
    at false = with_sessions t table works session

pub noted_works_stay : NotedWorksStay
noted_works_stay t table works = record {
  mode = kept t table works mode_kept (λ w. refl);
  session = kept t table works session_kept (λ w. refl);
  undo = kept t table works undo_kept (λ w. refl);
  asked = kept t table works asked_kept (λ w. refl);
  given = λ u name. kept t table works (λ (w : Option Working). given_by w name) (λ w. refl) u;
  free = same_sessions t table works;
}

-- ---- an engine

pub noted_tables_are_kept : NotedTablesAreKept
noted_tables_are_kept t table works work its = at (is_some (written_to works t table.pointer.0)) refl
  where
    there : work_of (with_work t (with_written table) works) t ≡ Some (with_written table work)
    there = with_its t (with_written table) (λ w. refl) (λ w. refl) works work its

    at : (b : Bool) → is_some (written_to works t table.pointer.0) ≡ b
        → is_some (written_to (noted_if b t table works) t table.pointer.0) ≡ true
    at true is = is
    at false is = ap (λ (w : Option Working). is_some (written_by w table.pointer.0)) there
        ∙ ap (λ (b : Bool). is_some (if b then Some table else written_in work.written table.pointer.0))
        (eq-eqb table.pointer.0 table.pointer.0 refl)

-- what is kept, with the table before those that are kept already
kept_by : (t catalog : ℕ) (table : Table) (works : List Working) (tables : Tables) → tables t table.name ≡ Some table
    → KeepsWritten catalog works tables → KeepsWritten catalog (noted t table works) tables
kept_by t catalog table works tables seen keeps = at (is_some (written_to works t table.pointer.0)) refl
  where
    u_is : (u : ℕ) → u ≡ t → (w : Working) → work_of works t ≡ Some w
        → work_of (with_work t (with_written table) works) u ≡ Some (with_written table w)
    u_is u e w is = ap (work_of (with_work t (with_written table) works)) e
        ∙ with_its t (with_written table) (λ v. refl) (λ v. refl) works w is

    same_work : (u : ℕ) → (u ≢ t) ⊎ (work_of works t ≡ None)
        → work_of (with_work t (with_written table) works) u ≡ work_of works u
    same_work u (inl apart) = with_others t (with_written table) (λ w. refl) (λ w. refl) works u apart
    same_work u (inr none) = ap (λ (ws : List Working). work_of ws u) (none_untouched works t (with_written table) none)

    alike : (u : ℕ) → u ≡ t → SeesIt (tables u table.name) table
    alike u e = ap (λ (n : ℕ). tables n table.name) e ∙ seen

    -- one that is kept is this one, or was kept
    found : (u : ℕ) (x : Table) → u ≡ t → (w : Working) → work_of works u ≡ Some w → IsOneOf (table ∷ w.written) x
        → SeesIt (tables u x.name) x
    found u x e w is (inl same) = subst (λ (y : Table). SeesIt (tables u y.name) y) same (alike u e)
    found u x e w is (inr more) = keeps.seen u x
        (subst (λ (v : Option Working). IsOneOf (written_kept v) x) (sym is) more)

    -- by whom a work is
    by_work : (P : Option Working → Type 0) (u : ℕ) → (work_of (with_work t (with_written table) works) u
        ≡ work_of works u → P (work_of (with_work t (with_written table) works) u))
        → (u ≡ t → (w : Working) → work_of works u ≡ Some w → P (Some (with_written table w)))
        → P (work_of (with_work t (with_written table) works) u)
    by_work P u same its = on (cases_eq u t) (work_of works t) refl
      where
        on : (u ≡ t) ⊎ (u ≢ t) → (x : Option Working) → work_of works t ≡ x
            → P (work_of (with_work t (with_written table) works) u)
        on (inr apart) x is = same (same_work u (inl apart))
        on (inl e) None is = same (same_work u (inr is))
        on (inl e) (Some w) is = subst P (sym (u_is u e w is)) (its e w (ap (work_of works) e ∙ is))

    -- none was kept that begins there
    none_kept : is_some (written_to works t table.pointer.0) ≡ false → (u : ℕ) → u ≡ t → (w : Working)
        → work_of works u ≡ Some w → is_some (written_in w.written table.pointer.0) ≡ false
    none_kept none u e w was = sym (ap (λ (x : Option Working). is_some (written_by x table.pointer.0))
        (sym (ap (work_of works) e) ∙ was)) ∙ none

    with_it : is_some (written_to works t table.pointer.0) ≡ false
        → KeepsWritten catalog (with_work t (with_written table) works) tables
    with_it none = record {
      seen = λ u x. by_work (λ v. IsOneOf (written_kept v) x → SeesIt (tables u x.name) x) u
          (λ same is. keeps.seen u x (subst (λ (v : Option Working). IsOneOf (written_kept v) x) same is))
          (λ e w was is. found u x e w was is);
      told = λ u. by_work (AreTold catalog) u
          (λ same. subst (AreTold catalog) (sym same)
          (keeps.told u)) (λ e w was. kept_behind catalog table w.written w.undo.changes (none_kept none u e w was)
          (subst (AreTold catalog) was
          (keeps.told u)));
    }

    at : (b : Bool) → is_some (written_to works t table.pointer.0) ≡ b
        → KeepsWritten catalog (noted_if b t table works) tables
    at true is = keeps
    at false is = with_it is

module _ {D : Type 0} (m : Meaning D) (core : Core D) (now : List Working) (stay : WorksStay core.works now) where
  abbrev later : Core D
  later = record core { works = now }

  same_standing : (numbers : Numbers) (tables : Tables)
      → standing_of core numbers tables ≡ standing_of later numbers tables
  same_standing numbers tables =
      let modes : (λ (u : ℕ). mode_kept (work_of core.works u)) ≡ (λ (u : ℕ). mode_kept (work_of now u))
      = fun_ext (λ u. sym (stay.mode u)) in
      let sessions : (λ (u : ℕ). session_kept (work_of core.works u)) ≡ (λ (u : ℕ). session_kept (work_of now u))
      = fun_ext (λ u. sym (stay.session u)) in
      let undos : (λ (u : ℕ). undo_kept (work_of core.works u)) ≡ (λ (u : ℕ). undo_kept (work_of now u))
      = fun_ext (λ u. sym (stay.undo u)) in
      λ i. record (standing_of core numbers tables) { mode = modes i; session = sessions i; undo = undos i }

  same_asked : asked_in core.works ≡ asked_in now
  same_asked = fun_ext (λ u. sym (stay.asked u))

  same_session : sessions_in core.works ≡ sessions_in now
  same_session = fun_ext (λ u. sym (stay.session u))

  stands_with : (o : Opening) (h : Entries) (s : Standing) (offline : Option ℕ) → StandsWhile m core o h s offline
      → StandsWhile m later o h s offline
  stands_with o h s None shows = record {
    image = shows.image;
    held = shows.held;
    stands = shows.stands;
    lasts = subst (λ (session : Sessions). LastsOn m packed_form o h core.store (asked_in now) session) same_session
        (subst (λ (asked : Asked). LastsOn m packed_form o h core.store asked (sessions_in core.works)) same_asked
        shows.lasts);
    tips = shows.tips;
    catalog = shows.catalog;
    plain_tables = shows.plain_tables;
    no_directory = shows.no_directory;
    known = shows.known;
  }
  stands_with o h s (Some faults) keeps = record { stands = keeps.stands; left = keeps.left }

  stands_later : (o : Opening) (h : Entries) (stands : StandsFor m core o h)
      → KeepsWritten core.catalog.pointer.0 now stands.tables → StandsFor m later o h
  stands_later o h stands keeps = record {
    tells = stands.tells;
    grows = stands.grows;
    bases = stands.bases;
    numbers = stands.numbers;
    tables = stands.tables;
    given = λ u name table is. stands.given u name table (sym (stay.given u name) ∙ is);
    kept = keeps;
    stands = subst (λ (s : Standing). StandsWhile m later o h s core.store.offline)
        (same_standing stands.numbers stands.tables)
        (stands_with o h (standing_of core stands.numbers stands.tables) core.store.offline stands.stands);
  }

pub notes_stay : {D : Type 0} (m : Meaning D) → NotesStay D m
notes_stay {D} m core t table o h given stands = stands_later m core (noted t table core.works)
    (noted_works_stay t table core.works) o h stands (kept_by t core.catalog.pointer.0 table core.works stands.tables
    (stands.given t table.name table given) stands.kept)
