-- What stays of the statements of mg_exec beside other transactions, and that they are no COMMIT.
use Rattle.std.proofs.Common.{◌≡◌, ◌++◌, ℕ, true, List, [], ◌∷◌, Option, Some, None, refl, sym, ap, subst, ◌∙◌}
use Rattle.std.specs.Prelude.{IsPermutation, map}
use Rattle.mg_base.specs.declared.numbers.TxNo.{TxNo}
use Rattle.mg_statements.specs.Plain.{Plain}
use Rattle.mg_model.specs.declared.change.Change.{Change}
use Rattle.mg_model.specs.declared.opening.Opening.{Opening}
use Rattle.mg_model.specs.declared.table.Table.{Table}
use Rattle.mg_model.specs.Changes.{KeyedRows, rows_of}
use Rattle.mg_model.specs.EntryLaws.{view_others_entry}
use Rattle.mg_model.specs.History.{Entries}
use Rattle.mg_model.specs.Machine.{view}
use Rattle.mg_records.specs.declared.write.Write.{Write}
use Rattle.mg_records.specs.declared.write.Write.TheVariants as writes_
use Rattle.mg_records.specs.Meaning.{Means}
use Rattle.mg_records.specs.Reading.{IsPlace}
use Rattle.mg_records.specs.Writing.{event_of}
use Rattle.mg_transcript.specs.Courses.{Course}
use Rattle.mg_transcript.specs.Statements.{makings}
use Rattle.mg_exec.specs.declared.phase.NewTable.{NewTable}
use Rattle.mg_exec.specs.declared.phase.Phase.{Phase}
use Rattle.mg_exec.specs.declared.phase.Phase.TheVariants as phases
use Rattle.mg_exec.specs.Phases.{IsReady, IsReadyToCreate, StandsAt}
use Rattle.mg_exec_course_laws.specs.Courses.{IsCourse}
use Rattle.mg_courses.specs.AnyRuns.{any_runs}
use Rattle.mg_courses.specs.Carrying.{RunsAreQuiet, are_quiet, is_quiet}
use Rattle.mg_courses.specs.QuietLaws.{makings_quiet}
use Rattle.mg_courses.specs.Running.{CoursesStay, GoesOnBeside, RunsStay, Spares, as_before, one_beside}

-- ---- beside others

module _ {R P : Type 0} (m : Means R P) (old new : R) (t : ℕ) (spares : Spares m old new t) where
  place_beside : (table : Table) (place : Option P) → IsPlace m old table place → IsPlace m new table place
  place_beside table None is = tt
  place_beside table (Some place) is = spares.places table place is

  creation_beside : (table : NewTable) → IsReadyToCreate m old table → IsReadyToCreate m new table
  creation_beside table ready = record {
    named = ready.named;
    other = ready.other;
    lawful = ready.lawful;
    pages = (ready.pages.0, spares.sizes ready.pages.0 ∙ ready.pages.1, ready.pages.2);
  }

  ready_beside : (phase : Phase P) → IsReady m old t phase → IsReady m new t phase
  ready_beside (phases.Saving name) ready = tt
  ready_beside (phases.Returning name) ready = tt
  ready_beside (phases.Inserting i) ready = record {
    table = spares.tables i.table.name i.table ready.table;
    inserts = ready.inserts;
    binds = ready.binds;
  }
  ready_beside (phases.Reading reading) ready = record {
    way = record {
      table = spares.tables reading.walk.table.name reading.walk.table ready.way.table;
      place = place_beside reading.walk.table reading.walk.place ready.way.place;
    };
    finds = ready.finds;
    binds = ready.binds;
    fit = ready.fit;
  }
  ready_beside (phases.Changing c) ready = record {
    table = spares.tables c.writes.table.name c.writes.table ready.table;
    fits = ready.fits;
  }
  ready_beside (phases.Creating table) ready = creation_beside table ready
  ready_beside (phases.Retrying table) ready = creation_beside table ready
  ready_beside phases.Ended ready = tt
  ready_beside phases.RolledBack ready = tt

  -- what its transaction sees stays
  rows_beside : {h after : Entries} (o : Opening) (name : List ℕ) → GoesOnBeside t h after
      → rows_of (view o after t) name ≡ rows_of (view o h t) name
  rows_beside o name as_before = refl
  rows_beside o name (one_beside {after = between} e others rest) =
      ap (λ (cs : List Change). rows_of cs name) (view_others_entry o between e t others)
      ∙ rows_beside o name rest

  stands_beside : (o : Opening) (h after : Entries) (phase : Phase P) → GoesOnBeside t h after
      → StandsAt m old o h t phase → StandsAt m new o after t phase
  stands_beside o h after (phases.Reading reading) beside read = record {
    visited = read.visited;
    come = record {
      rest = read.come.rest;
      to_come = spares.walks reading.walk.table reading.walk.place read.come.rest read.come.to_come;
      whole = subst (λ (rows : KeyedRows). IsPermutation (read.visited ++ read.come.rest) rows)
          (sym (rows_beside o reading.walk.table.name beside)) read.come.whole;
    };
    kept = read.kept;
  }
  stands_beside o h after phase beside at = tt

pub runs_stay : {R P : Type 0} (m : Means R P) → RunsStay m (any_runs m)
runs_stay m old new t run spares going =
    record { ready = ready_beside m old new t.0 spares run.phase going.ready; its = going.its }

pub courses_stay : {R P : Type 0} (m : Means R P) → CoursesStay m (any_runs m)
courses_stay m old new o h after t run course spares beside at = record {
  statement = at.statement;
  left = at.left;
  stands = stands_beside m old new t.0 spares o h after run.phase beside at.stands;
}

-- ---- no COMMIT

write_quiet : (t : TxNo) (name : List ℕ) (w : Write) (ws : List Write)
    → are_quiet (map (event_of t name) ws) ≡ true → are_quiet (map (event_of t name) (w ∷ ws)) ≡ true
write_quiet t name (writes_.Insert row) ws rest = rest
write_quiet t name (writes_.Change key row) ws rest = rest
write_quiet t name (writes_.Erase key) ws rest = rest

writes_quiet : (t : TxNo) (name : List ℕ) (ws : List Write) → are_quiet (map (event_of t name) ws) ≡ true
writes_quiet t name [] = refl
writes_quiet t name (w ∷ ws) = write_quiet t name w ws (writes_quiet t name ws)

course_quiet : {P : Type 0} (t : TxNo) (s : Plain) (phase : Phase P) (course : Course)
    → IsCourse t s phase course → is_quiet course ≡ true
course_quiet t s (phases.Saving name) course left = ap is_quiet left.1.1
course_quiet t s (phases.Returning name) course left = ap is_quiet left.1.1
course_quiet t s (phases.Inserting i) course left = ap is_quiet left.2.1
course_quiet t s (phases.Reading reading) course left = ap is_quiet left.2.1
course_quiet t s (phases.Changing c) course left =
    ap is_quiet left.1 ∙ writes_quiet t c.writes.table.name c.writes.left.items
course_quiet t s (phases.Creating table) course left = ap is_quiet left.1.1
course_quiet t s (phases.Retrying table) course left = ap is_quiet left.1
    ∙ subst (λ (p : Plain). are_quiet (makings t p) ≡ true) (sym left.0.statement)
    (makings_quiet t table.name left.0.columns)
course_quiet t s phases.Ended course left = absurd left
course_quiet t s phases.RolledBack course left = absurd left

pub runs_are_quiet : {R P : Type 0} (m : Means R P) → RunsAreQuiet (any_runs m)
runs_are_quiet m r o h t run course at = course_quiet t at.statement run.phase course at.left
