-- The tests and the steps of mg_exec as those of runs.
use Rattle.std.proofs.Common.{◌≡◌, ◌⊎◌, ◌<◌, inl, inr, ℕ, Bool, true, false, not, Option, Some, None, Result, Ok, Err, refl, sym, ap, subst, ◌∙◌}
use Rattle.std.specs.Prelude.{IfOk, if◌then◌else◌}
use Rattle.std.specs.Result.{MatchResult}
use Rattle.mg_base.specs.declared.numbers.TxNo.{TxNo}
use Rattle.mg_base.specs.declared.transaction.TxState.TheVariants.{Active}
use Rattle.mg_value.specs.declared.shape.Kind.{Kind}
use Rattle.mg_value.specs.declared.shape.Kind.TheVariants as kinds
use Rattle.mg_sql.specs.Lengths.{HasLengths, IsOfSize}
use Rattle.mg_statements.specs.Plain.{Plain, Table as Creation, Insert, Update, Delete, Totals, Select, RollbackTo, Savepoint}
use Rattle.mg_model.specs.declared.opening.Opening.{Opening}
use Rattle.mg_model.specs.declared.refusal.Refusal.TheVariants as refusals
use Rattle.mg_model.specs.History.{Entries}
use Rattle.mg_model.specs.Machine.{state_of}
use Rattle.mg_records.specs.Meaning.{Means}
use Rattle.mg_records.specs.Reading.{TablesAreSeen, shape_seen}
use Rattle.mg_records.specs.Writing.{IsOfLength}
use Rattle.mg_rows.specs.declared.statement_fault.StatementFault.{StatementFault}
use Rattle.mg_rows.specs.declared.statement_fault.StatementFault.TheVariants.{Engine}
use Rattle.mg_script.specs.declared.reply.Reply.TheVariants as replies
use Rattle.mg_transcript.specs.Courses.{Comes, Course, Later, Parks}
use Rattle.mg_transcript.specs.Statements.{fault_of, looks, table_of}
use Rattle.mg_exec.specs.declared.phase.Phase.{Phase}
use Rattle.mg_exec.specs.declared.phase.Phase.TheVariants as phases
use Rattle.mg_exec.specs.declared.phase.Step.{Step}
use Rattle.mg_exec.specs.declared.phase.Step.TheVariants as steps
use Rattle.mg_exec.specs.declared.run.Run.{Run}
use Rattle.mg_exec.specs.Phases.{IsReady, StandsAt, is_over, refusal_of as refusal_answered_there, rolled_back_at}
use Rattle.mg_exec.specs.Progress.{Advances, IsOneDeed, Nears, still_at}
use Rattle.mg_exec.specs.Running.{Goes, is_rolled_back_at}
use Rattle.mg_exec.specs.Starting.{Runs, TestsAny, refusal_at}
use Rattle.mg_exec.specs.Statements.{Asked, BeginsTested, IsAt}
use Rattle.mg_exec_course_laws.specs.Courses.{IsAtCourse, IsCourse, IsOutsideFault, IsTurnedSo}
use Rattle.mg_exec_course_laws.specs.StepLaws.{steps_tell}
use Rattle.mg_exec_course_laws.specs.TestLaws.{tests_tell}
use Rattle.mg_courses.specs.declared.statements.Stepped.{Stepped}
use Rattle.mg_courses.specs.declared.statements.Stepped.TheVariants.{Waits}
use Rattle.mg_courses.specs.AnyRuns.{HasLeft, IsGoing, any_runs, ended_at, stepped_at}
use Rattle.mg_courses.specs.Running.{IsNearer, IsReadyIf, IsTested, IsTold, StepDone, fault_if_looks, goes_on, over_in, refusal_tested, refusal_told, runs_in_steps}

-- ---- a statement that runs in steps does so here

size_is_length : (kind : Kind) → IsOfSize kind → IsOfLength kind
size_is_length kinds.Int is = tt
size_is_length (kinds.Text most) is = is

pub runs_here : (s : Plain) → runs_in_steps s ≡ true → HasLengths s → Runs s
runs_here (Creation name columns) in_steps lengths = λ i d below. size_is_length _ (lengths i d below)
runs_here (RollbackTo name) in_steps lengths = tt
runs_here (Savepoint name) in_steps lengths = tt
runs_here (Insert table columns values) in_steps lengths = tt
runs_here (Update table sets filter) in_steps lengths = tt
runs_here (Delete table filter) in_steps lengths = tt
runs_here (Totals table totals filter) in_steps lengths = tt
runs_here (Select table values filter sorted) in_steps lengths = tt
runs_here s in_steps lengths = absurd cc

-- ---- the tests

module _ {R P : Type 0} (m : Means R P) (new : R) (o : Opening) (h : Entries) (t : TxNo) (read_only : Bool)
    (size : ℕ) (s : Plain) where
  abbrev told_fault : Option StatementFault
  told_fault = fault_of read_only (shape_seen o h t.0 (table_of s)) size s

  abbrev asked : Asked
  asked = record { t = t; read_only = read_only; statement = s; size = size }

  no_fault : (looks s ≡ false) ⊎ (told_fault ≡ None) → fault_if_looks o h t read_only size s ≡ None
  no_fault (inl none) = ap (λ (b : Bool). if b then told_fault else None) none
  no_fault (inr is) = ap (λ (fault : Option StatementFault). if looks s then fault else None) is ∙ at (looks s)
    where
      at : (b : Bool) → ◌≡◌ {A = Option StatementFault} (if b then None else None) None
      at true = refl
      at false = refl

  first_fault : (fault : StatementFault) → looks s ≡ true → (told_fault ≡ Some fault) ⊎ IsOutsideFault fault
      → (fault_if_looks o h t read_only size s ≡ Some fault) ⊎ IsOutsideFault fault
  first_fault fault does (inl is) = inl (ap (λ (b : Bool). if b then told_fault else None) does ∙ is)
  first_fault fault does (inr outside) = inr outside

  stands_first : (given : Entries) (phase : Phase P) → IsAt m new o h h asked given phase
      → StandsAt m new o h t.0 phase
  stands_first given (phases.Reading reading) at = at.3
  stands_first given phase at = tt

  pub tested : (result : Result (Run R P) StatementFault) → state_of o h t.0 ≡ Active
      → MatchResult result (λ run. TestsAny m new o h t read_only s size (Ok run.phase))
      (λ fault. TestsAny m new o h t read_only s size (Err fault))
      → IfOk result (λ run. BeginsTested m new o h asked run.phase)
      → IsTested m (any_runs m) new o h t read_only size s result
  tested (Ok run) active tests begins =
      let told = tests_tell m new o h t read_only size s (Ok run.phase) active tests in (
        told.0,
        no_fault told.1,
        record { statement = s; left = told.2; stands = stands_first _ run.phase begins.at },
      )
  tested (Err fault) active tests begins =
      let told = tests_tell {P = P} m new o h t read_only size s (Err fault) active tests in
      (told.0, told.1, first_fault fault told.1 told.2)

pub going : {R P : Type 0} (m : Means R P) (new : R) (t : TxNo) (result : Result (Run R P) StatementFault)
    → IfOk result (λ run. IsReady m new t.0 run.phase) → IfOk result (λ run. run.t ≡ t)
    → IfOk result (λ run. IsGoing m new t run)
going m new t (Ok run) ready its = record { ready = ready; its = its }
going m new t (Err fault) ready its = tt

pub refusals_tested : {T : Type 0} (result : Result T StatementFault) → refusal_tested result ≡ refusal_at result
refusals_tested (Ok run) = refl
refusals_tested (Err (Engine refusal)) = refl
refusals_tested (Err fault) = refl

-- ---- a step

err_ended : (P : Type 0) (fault : StatementFault)
    → stepped_at {P = P} phases.Ended (Err fault) ≡ ended_at {P = P} phases.Ended (replies.No fault)
err_ended P (Engine (refusals.Waits on)) = refl
err_ended P (Engine refusal) = refl
err_ended P fault = refl

err_rolled_back : (P : Type 0) (fault : StatementFault)
    → stepped_at {P = P} phases.RolledBack (Err fault) ≡ ended_at {P = P} phases.RolledBack (replies.No fault)
err_rolled_back P (Engine (refusals.Waits on)) = refl
err_rolled_back P (Engine refusal) = refl
err_rolled_back P fault = refl

module _ {R P : Type 0} (m : Means R P) (new : R) (o : Opening) (after : Entries) (t : TxNo) (s : Plain)
    (run : Run R P) where
  left_here : (phase : Phase P) (course : Course) → IsCourse t s phase course → StandsAt m new o after t.0 phase
      → run.phase ≡ phase → HasLeft m new o after t run.phase course
  left_here phase course left stands same = subst (λ (p : Phase P). HasLeft m new o after t p course) (sym same)
      (record { statement = s; left = left; stands = stands })

  -- it is told what the step came to
  told_as : (phase : Phase P) (answer : Result Step StatementFault) (comes : Comes)
      → IsTurnedSo t s phase answer comes → StandsAt m new o after t.0 phase → run.phase ≡ phase
      → IsTold (any_runs m) new o after t run (stepped_at phase answer) comes
  told_as phases.Ended (Ok (steps.Done outcome)) comes is stands same =
      subst (IsTold (any_runs m) new o after t run (ended_at {P = P} phases.Ended (replies.Ok outcome))) (sym is) refl
  told_as phases.Ended (Err fault) comes is stands same =
      subst (λ (stepped : Stepped). IsTold (any_runs m) new o after t run stepped comes) (sym (err_ended P fault))
      (subst (IsTold (any_runs m) new o after t run (ended_at {P = P} phases.Ended (replies.No fault))) (sym is) refl)
  told_as phases.RolledBack (Err fault) comes is stands same =
      subst (λ (stepped : Stepped). IsTold (any_runs m) new o after t run stepped comes)
      (sym (err_rolled_back P fault))
      (subst (IsTold (any_runs m) new o after t run (ended_at {P = P} phases.RolledBack (replies.No fault)))
      (sym is) refl)
  told_as phase (Ok steps.More) (Later course) is stands same = left_here phase course is stands same
  told_as phase (Err (Engine (refusals.Waits on))) (Parks by course) is stands same =
      (is.0, left_here phase course is.1 stands same)
  told_as phase answer comes is stands same = absurd is

-- where its transaction is not rolled back it goes on
goes_as : {P : Type 0} (t : TxNo) (s : Plain) (phase : Phase P) (answer : Result Step StatementFault) (comes : Comes)
    → IsTurnedSo t s phase answer comes → not (is_rolled_back_at phase) ≡ goes_on (stepped_at phase answer)
goes_as t s phases.Ended (Ok (steps.Done outcome)) comes is = refl
goes_as {P = P} t s phases.Ended (Err fault) comes is = ap goes_on (sym (err_ended P fault))
goes_as {P = P} t s phases.RolledBack (Err fault) comes is = ap goes_on (sym (err_rolled_back P fault))
goes_as t s phases.RolledBack (Ok steps.More) (Later course) is = absurd is
goes_as t s phase (Ok steps.More) (Later course) is = refl
goes_as t s phase (Err (Engine (refusals.Waits on))) (Parks by course) is = refl
goes_as t s phase answer comes is = absurd is

module _ {R P : Type 0} (m : Means R P) (old new : R) (o : Opening) (h : Entries) (t : TxNo) (course : Course)
    (seen : TablesAreSeen m) (stands : m.stands old o h) (active : state_of o h t.0 ≡ Active) where
  at_course : (s : Plain) (phase : Phase P) → IsReady m old t.0 phase → IsCourse t s phase course
      → StandsAt m old o h t.0 phase → IsAtCourse m old o h t s phase course
  at_course s (phases.Saving name) ready left at = left
  at_course s (phases.Returning name) ready left at = left
  at_course s (phases.Inserting i) ready left at = record {
    has_left = left;
    seen = (seen old o h t.0 i.table.name i.table stands active ready.table).1;
  }
  at_course s (phases.Reading reading) ready left at = record {
    has_left = left;
    active = active;
    seen = (seen old o h t.0 reading.walk.table.name reading.walk.table stands active ready.way.table).1;
    read = at;
  }
  at_course s (phases.Changing c) ready left at = left
  at_course s (phases.Creating table) ready left at = left
  at_course s (phases.Retrying table) ready left at = left
  at_course s phases.Ended ready left at = left
  at_course s phases.RolledBack ready left at = left

  pub step_done : (before run : Run R P) (answer : Result Step StatementFault) → IsGoing m old t before
      → HasLeft m old o h t before.phase course
      → Goes m old new o h before.t before.phase (record { phase = run.phase; answer = answer })
      → StepDone m (any_runs m) new o h t course run (stepped_at run.phase answer)
  step_done before run answer going at goes =
      let tells = steps_tell m old new o h t at.statement before.phase course
      (record { phase = run.phase; answer = answer })
      (at_course at.statement before.phase going.ready at.left at.stands)
      (subst (λ (u : TxNo). Goes m old new o h u before.phase (record { phase = run.phase; answer = answer }))
      going.its goes) in record {
        after = tells.after;
        comes = tells.comes;
        steps = tells.steps;
        stands = tells.stands;
        told = told_as m new o tells.after t at.statement run run.phase answer tells.comes tells.told tells.stays refl;
        active = tells.active active ∙ goes_as t at.statement run.phase answer tells.comes tells.told;
      }

-- ---- whatever the history

pub refusals_told : {P : Type 0} (phase : Phase P) (answer : Result Step StatementFault)
    → refusal_told (stepped_at phase answer) ≡ refusal_answered_there answer
refusals_told phase (Ok steps.More) = refl
refusals_told phase (Ok (steps.Done outcome)) = refl
refusals_told {P = P} phase (Err (Engine (refusals.Waits on))) = at (is_over phase)
  where
    at : (b : Bool) → refusal_told (if b then ended_at {P = P} phase (replies.No (Engine (refusals.Waits on)))
        else Waits on) ≡ Some (refusals.Waits on)
    at true = refl
    at false = refl
refusals_told phase (Err (Engine refusal)) = refl
refusals_told phase (Err fault) = refl

-- a transaction that is over was rolled back
over_as : {P : Type 0} (t : ℕ) (phase : Phase P)
    → rolled_back_at t phase ≡ (if is_rolled_back_at phase then Some t else None)
over_as t phases.RolledBack = refl
over_as t phase = refl

not_over : {P : Type 0} (t : ℕ) (phase : Phase P) → is_over phase ≡ false → rolled_back_at t phase ≡ None
not_over t phases.RolledBack is = absurd cc
not_over t phase is = refl

-- a statement that has more to do is not at its end
more_goes : {R P : Type 0} (m : Means R P) (old new : R) (t : ℕ) (before after : Phase P)
    → IsOneDeed m old new t before after → is_over after ≡ false
more_goes m old new t before (phases.Reading after) one = refl
more_goes m old new t before (phases.Changing after) one = refl
more_goes m old new t (phases.Reading before) after one = absurd one
more_goes m old new t (phases.Changing before) after one = absurd one
more_goes m old new t before after one = absurd one

ends_as : {P : Type 0} (t : ℕ) (phase : Phase P) (answer : Result Step StatementFault)
    → (answer ≡ Ok steps.More → is_over phase ≡ false)
    → rolled_back_at t phase ≡ over_in t (stepped_at phase answer)
ends_as t phase (Ok steps.More) goes = not_over t phase (goes refl)
ends_as t phase (Ok (steps.Done outcome)) goes = over_as t phase
ends_as {P = P} t phase (Err (Engine (refusals.Waits on))) goes = at (is_over phase) refl
  where
    at : (b : Bool) → is_over phase ≡ b → rolled_back_at t phase
        ≡ over_in t (if b then ended_at {P = P} phase (replies.No (Engine (refusals.Waits on))) else Waits on)
    at true is = over_as t phase
    at false is = not_over t phase is
ends_as t phase (Err (Engine refusal)) goes = over_as t phase
ends_as t phase (Err fault) goes = over_as t phase

module _ {R P : Type 0} (m : Means R P) (old new : R) (t : TxNo) (before run : Run R P)
    (answer : Result Step StatementFault) (its : before.t ≡ t)
    (nears : Nears m old new before.t.0 before.phase (record { phase = run.phase; answer = answer })) where
  near : answer ≡ Ok steps.More → Advances m old new t.0 before.phase run.phase
  near is = subst (λ (u : TxNo). Advances m old new u.0 before.phase run.phase) its (nears is)

  pub ends_so : rolled_back_at t.0 run.phase ≡ over_in t.0 (stepped_at run.phase answer)
  ends_so = ends_as t.0 run.phase answer
      (λ is. more_goes m old new t.0 before.phase run.phase (near is).one)

  nearer_as : (phase : Phase P) (answer : Result Step StatementFault)
      → (answer ≡ Ok steps.More → still_at m new t.0 run.phase < still_at m old t.0 before.phase)
      → IsNearer (any_runs m) old new t before run (stepped_at phase answer)
  nearer_as phase (Ok steps.More) nearer = nearer refl
  nearer_as phase (Ok (steps.Done outcome)) nearer = tt
  nearer_as phase (Err (Engine (refusals.Waits on))) nearer = at (is_over phase)
    where
      at : (b : Bool) → IsNearer (any_runs m) old new t before run
          (if b then ended_at {P = P} phase (replies.No (Engine (refusals.Waits on))) else Waits on)
      at true = tt
      at false = tt
  nearer_as phase (Err (Engine refusal)) nearer = tt
  nearer_as phase (Err fault) nearer = tt

  pub nearer_so : IsNearer (any_runs m) old new t before run (stepped_at run.phase answer)
  nearer_so = nearer_as run.phase answer (λ is. (near is).nearer)

-- one that goes on is ready for it
pub ready_so : {R P : Type 0} (m : Means R P) (new : R) (t : TxNo) (run : Run R P) (phase : Phase P)
    (answer : Result Step StatementFault) → IsGoing m new t run
    → IsReadyIf (any_runs m) new t run (stepped_at phase answer)
ready_so m new t run phase (Ok steps.More) going = going
ready_so m new t run phase (Ok (steps.Done outcome)) going = tt
ready_so {P = P} m new t run phase (Err (Engine (refusals.Waits on))) going = at (is_over phase)
  where
    at : (b : Bool) → IsReadyIf (any_runs m) new t run
        (if b then ended_at {P = P} phase (replies.No (Engine (refusals.Waits on))) else Waits on)
    at true = tt
    at false = going
ready_so m new t run phase (Err (Engine refusal)) going = tt
ready_so m new t run phase (Err fault) going = tt
