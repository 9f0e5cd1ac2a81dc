-- A step of any statement.
use Rattle.std.proofs.Common.{◌≡◌, ℕ, sym, subst}
use Rattle.std.specs.Prelude.{length}
use Rattle.mg_base.specs.declared.numbers.TxNo.{TxNo}
use Rattle.mg_statements.specs.Plain.{Plain, RollbackTo, Savepoint}
use Rattle.mg_model.specs.declared.opening.Opening.{Opening}
use Rattle.mg_model.specs.History.{Entries}
use Rattle.mg_records.specs.Meaning.{Means}
use Rattle.mg_rows.specs.declared.outcome.Outcome.TheVariants as outcomes
use Rattle.mg_exec.specs.declared.phase.Phase.TheVariants as phases
use Rattle.mg_exec.specs.declared.phase.Turn.{Turn}
use Rattle.mg_transcript.specs.Courses.{Begun, Course, Making}
use Rattle.mg_transcript.specs.Statements.{makings}
use Rattle.mg_exec_course_laws.specs.Courses.{StepsTell, Tells}
use Rattle.mg_exec_course_laws.specs.InsertLaws.{inserts_tell}
use Rattle.mg_exec_course_laws.specs.PointLaws.{returns_tell, saves_tell}
use Rattle.mg_exec_course_laws.specs.ReadLaws.{reads_tell}
use Rattle.mg_exec_course_laws.specs.TableLaws.{creates_tell, retries_tell}
use Rattle.mg_exec_course_laws.specs.WriteLaws.{changes_tell}

module _ {R P : Type 0} (m : Means R P) (new : R) (o : Opening) (h : Entries) (t : TxNo) (turn : Turn P) where
  by_course : (s : Plain) (is course : Course) → course ≡ is → Tells m new o h t s is turn
      → Tells m new o h t s course turn
  by_course s is course same tells = subst (λ (c : Course). Tells m new o h t s c turn) (sym same) tells

  by_both : (is s : Plain) (course : Course) (taken : ℕ) → s ≡ is → course ≡ Begun s taken
      → Tells m new o h t is (Begun is taken) turn → Tells m new o h t s course turn
  by_both is s course taken same begun tells = by_course s (Begun s taken) course begun
      (subst (λ (p : Plain). Tells m new o h t p (Begun p taken) turn) (sym same) tells)

pub steps_tell : {R P : Type 0} (m : Means R P) → StepsTell m
steps_tell m old new o h t s (phases.Saving name) course turn at goes =
    by_both m new o h t turn (Savepoint name) s course at.1.0 at.0 at.1.1
    (saves_tell m new o h t name at.1.0 turn goes)
steps_tell m old new o h t s (phases.Returning name) course turn at goes =
    by_both m new o h t turn (RollbackTo name) s course at.1.0 at.0 at.1.1
    (returns_tell m new o h t name at.1.0 turn goes)
steps_tell m old new o h t s (phases.Inserting i) course turn at goes =
    by_course m new o h t turn s (Begun s at.has_left.2.0) course at.has_left.2.1
    (inserts_tell m new o h t s at.has_left.2.0 i.table i.bound turn at.has_left.0 at.has_left.1 at.seen goes)
steps_tell m old new o h t s (phases.Reading reading) course turn at goes =
    by_course m new o h t turn s (Begun s at.has_left.2.0) course at.has_left.2.1
    (reads_tell m new o h t s at.has_left.2.0 reading.walk.table reading.bound (length reading.kept.items) turn
    at.has_left.0 at.has_left.1 at.has_left.2.2 at.active at.seen (goes at.read))
steps_tell m old new o h t s (phases.Changing c) course turn at goes =
    changes_tell m new o h t s c course turn at goes
steps_tell m old new o h t s (phases.Creating table) course turn at goes =
    by_course m new o h t turn s (Begun s at.1.0) course at.1.1
    (creates_tell m new o h t s at.1.0 table turn at.0 goes)
steps_tell m old new o h t s (phases.Retrying table) course turn at goes =
    by_course m new o h t turn s (Making (makings t s) outcomes.Fine) course at.1
    (retries_tell m new o h t s table turn at.0 goes)
steps_tell m old new o h t s phases.Ended course turn at goes = absurd at
steps_tell m old new o h t s phases.RolledBack course turn at goes = absurd at
