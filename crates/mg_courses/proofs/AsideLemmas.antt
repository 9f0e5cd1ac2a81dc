-- What a statement visited is collected behind its step, and the two are one step of it.
use Rattle.std.proofs.lemmas.Bool.{eqb-true}
use Rattle.std.proofs.Common.{◌≡◌, ◌==◌, ◌<◌, ◌+◌, ℕ, Bool, true, false, List, [], ◌∷◌, Option, Some, None, refl, sym, subst, arith}
use Rattle.mg_base.specs.declared.numbers.TxNo.{TxNo}
use Rattle.mg_base.specs.declared.transaction.TxState.TheVariants.{Active}
use Rattle.mg_statements.specs.Plain.{Plain}
use Rattle.mg_model.specs.declared.event.Event.{Event}
use Rattle.mg_model.specs.declared.opening.Opening.{Opening}
use Rattle.mg_model.specs.declared.refusal.Refusal.{Refusal}
use Rattle.mg_model.specs.Changes.{Cells}
use Rattle.mg_model.specs.History.{Entries}
use Rattle.mg_model.specs.Machine.{state_of}
use Rattle.mg_records.specs.Crashing.{HoldsOn}
use Rattle.mg_records.specs.Meaning.{Means}
use Rattle.mg_records.specs.Sessions.{SessionsStay}
use Rattle.mg_rows.specs.declared.outcome.Outcome.{Outcome}
use Rattle.mg_rows.specs.declared.statement_fault.StatementFault.TheVariants.{Engine}
use Rattle.mg_value.specs.declared.shape.Shape.{Shape}
use Rattle.mg_script.specs.declared.reply.Reply.TheVariants as replies
use Rattle.mg_calls.specs.FrameLaws.{frames_after}
use Rattle.mg_calls.specs.Frames.{Frames}
use Rattle.mg_calls.specs.Quiet.{as_it_was}
use Rattle.mg_transcript.specs.Courses.{Course, Begun, Writing, Making, Committing, Comes, Later, Parks, Ends}
use Rattle.mg_transcript.specs.Steps.{Writes, done, waits, undone, WritesAll, none_left, one_more, parks, fails, Marks, refused_mark, no_event, first_event, Follows, answers_so, writes_so, has_fault, falls_short, Steps, visits, stops, faults, finds, finds_not, inserts, inserts_not, makes, makes_not, saves, goes_back, goes_nowhere, goes_not, writes_on, makes_on, writes_page, writes_no_page, commits, is_outside}
use Rattle.mg_courses.specs.declared.statements.Ending.{Ending}
use Rattle.mg_courses.specs.declared.statements.Stepped.{Stepped}
use Rattle.mg_courses.specs.declared.statements.Stepped.TheVariants.{More, Waits, Ended}
use Rattle.mg_courses.specs.declared.work.Work.{Work}
use Rattle.mg_courses.specs.declared.work.Work.TheVariants as works
use Rattle.mg_courses.specs.Aside.{IsAside, IsBegun, IsBehind, MayStop, ends_then, goes_on_then, let_be}
use Rattle.mg_courses.specs.Carrying.{Carries}
use Rattle.mg_courses.specs.CarryLaws.{carries_quietly, carries_then}
use Rattle.mg_courses.specs.Running.{CoursesStay, IsReadyIf, RunMeans, RunsStay, Spares, as_before, over_in, refusal_told}
use Rattle.mg_courses.specs.Working.{IsWorkNearer, IsWorkReady, IsWorkReadyIf, IsWorkTold, WorkDone, work_left}
use Rattle.mg_courses.proofs.SoFarLemmas.{sessions_then}

-- ---- a statement that goes on to a visit has visited

not_written : {o : Opening} {h after : Entries} {t : TxNo} {event : Event} {more : List Event}
    {outcome : Outcome} {comes : Comes} (s : Plain) (taken : ℕ) → Writes o h t event more outcome after comes
    → comes ≡ Later (Begun s taken) → ⊥
not_written {more = []} s taken (done its lawful) is = cc
not_written {more = next ∷ more} s taken (done its lawful) is = cc
not_written s taken (waits on its lawful) is = cc
not_written s taken (undone first answered after its final lawful undoing) is = cc

not_all : {o : Opening} {t : TxNo} {all : List Event} {outcome : Outcome} {h after : Entries} {news : List Event}
    {comes : Comes} (s : Plain) (taken : ℕ) → WritesAll o t all outcome h news after comes
    → comes ≡ Later (Begun s taken) → ⊥
not_all s taken none_left is = cc
not_all s taken (one_more its lawful rest) is = not_all s taken rest is
not_all s taken (parks write) is = cc
not_all s taken (fails write) is = cc

not_marked : {o : Opening} {h after : Entries} {t : TxNo} {outcome : Outcome} {news : List Event} {comes : Comes}
    (s : Plain) (taken : ℕ) → Marks o h t outcome news after comes → comes ≡ Later (Begun s taken) → ⊥
not_marked s taken (refused_mark news refusal lawful) is = cc
not_marked s taken (no_event lawful) is = cc
not_marked s taken (first_event event more after comes lawful write) is = not_written s taken write is

not_followed : {o : Opening} {h after : Entries} {t : TxNo} {asked : Plain} {shape : Shape} {rows : List Cells}
    {comes : Comes} (s : Plain) (taken : ℕ) → Follows o h t asked shape rows after comes
    → comes ≡ Later (Begun s taken) → ⊥
not_followed s taken (answers_so given is answer) goes = cc
not_followed s taken (writes_so news after comes is made marks) goes = not_marked s taken marks goes
not_followed s taken (has_fault fault is made) goes = cc
not_followed s taken (falls_short refusal is) goes = cc

-- it had only begun, and gave no event
pub visited : {o : Opening} {h after : Entries} {t : TxNo} {course : Course} {comes : Comes} (s : Plain) (taken : ℕ)
    → Steps o h t course after comes → comes ≡ Later (Begun s taken) → IsBegun course × (after ≡ h)
visited s taken (visits asked before is) goes = (tt, refl)
visited s taken (stops asked before refusal is) goes = absurd cc
visited s taken (faults asked before shape is seen found) goes = absurd cc
visited s taken (finds asked before shape rows find after comes read is lawful follows) goes =
    absurd (not_followed s taken follows goes)
visited s taken (finds_not asked before shape rows find refusal read is lawful) goes = absurd cc
visited s taken (inserts table columns values before shape news after comes seen made marks) goes =
    absurd (not_marked s taken marks goes)
visited s taken (inserts_not table columns values before shape fault seen made) goes = absurd cc
visited s taken (makes name columns before after comes lawful all) goes = absurd (not_all s taken all goes)
visited s taken (makes_not name columns before refusal lawful) goes = absurd cc
visited s taken (saves name before answer lawful) goes = absurd cc
visited s taken (goes_back name before there lawful) goes = absurd cc
visited s taken (goes_nowhere name before gone) goes = absurd cc
visited s taken (goes_not name before refusal lawful) goes = absurd cc
visited s taken (writes_on event more outcome after comes write) goes = absurd (not_written s taken write goes)
visited s taken (makes_on all outcome after comes write) goes = absurd (not_all s taken write goes)
visited s taken (writes_page written) goes = absurd cc
visited s taken (writes_no_page refusal is) goes = absurd cc
visited s taken (commits answer lawful) goes = absurd cc

-- one that has only begun may end by a refusal from outside
stops_begun : (o : Opening) (h : Entries) (t : TxNo) (course : Course) (refusal : Refusal) → IsBegun course
    → is_outside refusal ≡ true → Steps o h t course h (Ends (replies.No (Engine refusal)))
stops_begun o h t (Begun s taken) refusal begun outside = stops s taken refusal outside
stops_begun o h t (Writing events outcome) refusal begun outside = absurd begun
stops_begun o h t (Making events outcome) refusal begun outside = absurd begun
stops_begun o h t (Committing written) refusal begun outside = absurd begun

-- ---- what a call aside leaves

not_next : (t : ℕ) → (t + 1 == t) ≡ false
not_next t = apart (t + 1 == t) refl
  where
    never : t + 1 ≡ t → ⊥
    never is = omega (arith, is)

    apart : (b : Bool) → (t + 1 == t) ≡ b → (t + 1 == t) ≡ false
    apart true is = absurd (never (eqb-true (t + 1) t is))
    apart false is = is

-- it spares each transaction
pub spares_aside : {R P : Type 0} (m : Means R P) (old new : R) (refusal : Option Refusal) → IsAside m old new refusal
    → (t : ℕ) → Spares m old new t
spares_aside m old new refusal aside t = let frames = aside.frames (t + 1) in record {
  tables = λ name table was. frames.tables t name table (not_next t) was;
  walks = λ table after rows come. frames.walks t table after rows (not_next t) come;
  given = frames.given;
  places = frames.places;
  sizes = frames.sizes;
}

-- ---- a step and what is collected behind it

module _ {R P Run : Type 0} (m : Means R P) (runs : RunMeans R Run) (lasts : HoldsOn m) (old mid new : R)
    (o : Opening) (h : Entries) (t : TxNo) (course : Course) (run : Run) where
  carried : (refusal : Option Refusal) → IsAside m mid new refusal → (after : Entries) → m.stands mid o after
      → Carries m old mid o h after → Carries m old new o h after
  carried refusal aside after stands carries = carries_then m lasts old mid new o h after after carries
      (carries_quietly m lasts mid new None o after after aside.quiet stands as_it_was)

  -- the statement goes on
  pub goes_behind : CoursesStay m runs → IsAside m mid new None
      → WorkDone m runs old mid o h t (works.Statement run) More (Steps o h t course)
      → WorkDone m runs old new o h t (works.Statement run) More (Steps o h t course)
  goes_behind stay aside step = record {
    after = step.after;
    comes = step.comes;
    does = step.does;
    stands = aside.stays o step.after step.stands;
    told = on step.comes step.told;
    active = step.active;
    carries = carried None aside step.after step.stands step.carries;
  }
    where
      on : (comes : Comes) → IsWorkTold runs mid o step.after t (works.Statement run) More comes
          → IsWorkTold runs new o step.after t (works.Statement run) More comes
      on (Later left) told = stay mid new o step.after step.after t run left
          (spares_aside m mid new None aside t.0) as_before told
      on (Parks by left) told = absurd told
      on (Ends reply) told = absurd told

  -- a refusal ends it
  pub ends_behind : (refusal : Refusal) (ending : Ending) → ending.reply ≡ replies.No (Engine refusal)
      → ending.over ≡ false → IsAside m mid new (Some refusal)
      → ((o : Opening) (h : Entries) → m.stands mid o h → MayStop runs mid o h t run refusal)
      → state_of o h t.0 ≡ Active
      → WorkDone m runs old mid o h t (works.Statement run) More (Steps o h t course)
      → WorkDone m runs old new o h t (works.Statement run) (Ended ending) (Steps o h t course)
  ends_behind refusal ending reply over aside may active step =
      on step.after step.comes step.does step.stands step.told step.carries
    where
      ends : (after : Entries) → after ≡ h → IsBegun course → m.stands mid o after → is_outside refusal ≡ true
          → Carries m old mid o h after
          → WorkDone m runs old new o h t (works.Statement run) (Ended ending) (Steps o h t course)
      ends after same begun stands outside carries = record {
        after = h;
        comes = Ends (replies.No (Engine refusal));
        does = stops_begun o h t course refusal begun outside;
        stands = aside.stays o h (subst (λ (k : Entries). m.stands mid o k) same stands);
        told = reply;
        active = rw (active, over) refl;
        carries = subst (λ (k : Entries). Carries m old new o h k) same
            (carried (Some refusal) aside after stands carries);
      }

      from : (s : Plain) (taken : ℕ) (after : Entries) → Steps o h t course after (Later (Begun s taken))
          → m.stands mid o after → is_outside refusal ≡ true → Carries m old mid o h after
          → WorkDone m runs old new o h t (works.Statement run) (Ended ending) (Steps o h t course)
      from s taken after does stands outside carries =
          let it = visited s taken does refl in ends after it.1 it.0 stands outside carries

      on : (after : Entries) (comes : Comes) → Steps o h t course after comes → m.stands mid o after
          → IsWorkTold runs mid o after t (works.Statement run) More comes → Carries m old mid o h after
          → WorkDone m runs old new o h t (works.Statement run) (Ended ending) (Steps o h t course)
      on after (Later (Begun s taken)) does stands told carries =
          from s taken after does stands (may o after stands).outside carries
      on after (Later (Writing events outcome)) does stands told carries =
          absurd ((may o after stands).begun (Writing events outcome) told)
      on after (Later (Making events outcome)) does stands told carries =
          absurd ((may o after stands).begun (Making events outcome) told)
      on after (Later (Committing written)) does stands told carries =
          absurd ((may o after stands).begun (Committing written) told)
      on after (Parks by left) does stands told carries = absurd told
      on after (Ends reply) does stands told carries = absurd told

-- ---- the clauses of a step

module _ {R P Run : Type 0} (m : Means R P) (runs : RunMeans R Run) (lasts : HoldsOn m) (stay : RunsStay m runs)
    (courses : CoursesStay m runs) (collected : R → R → Run → Type 0) (old mid new : R) (t : TxNo)
    (before work : Work Run) where
  pub behind_done : (o : Opening) (h : Entries) (course : Course) (stepped result : Stepped)
      → IsBehind m runs collected mid new t work stepped result → state_of o h t.0 ≡ Active
      → WorkDone m runs old mid o h t work stepped (Steps o h t course)
      → WorkDone m runs old new o h t work result (Steps o h t course)
  behind_done o h course stepped result (let_be same_ rest same) active step =
      subst (λ (r : R). WorkDone m runs old r o h t work stepped (Steps o h t course)) (sym same) step
  behind_done o h course stepped result (goes_on_then run is aside far its) active step =
      subst (λ (w : Work Run). WorkDone m runs old new o h t w More (Steps o h t course)) (sym is)
      (goes_behind m runs lasts old mid new o h t course run courses aside
      (subst (λ (w : Work Run). WorkDone m runs old mid o h t w More (Steps o h t course)) is step))
  behind_done o h course stepped result (ends_then run refusal ending is reply over aside may) active step =
      subst (λ (w : Work Run). WorkDone m runs old new o h t w (Ended ending) (Steps o h t course)) (sym is)
      (ends_behind m runs lasts old mid new o h t course run refusal ending reply over aside may active
      (subst (λ (w : Work Run). WorkDone m runs old mid o h t w More (Steps o h t course)) is step))

  pub behind_ready : (stepped result : Stepped) → IsBehind m runs collected mid new t work stepped result
      → IsWorkReadyIf m runs mid t work stepped → IsWorkReadyIf m runs new t work result
  behind_ready stepped result (let_be same_ rest same) ready =
      subst (λ (r : R). IsWorkReadyIf m runs r t work stepped) (sym same) ready
  behind_ready stepped result (goes_on_then run is aside far its) ready =
      subst (λ (w : Work Run). IsWorkReady m runs new t w) (sym is)
      (stay mid new t run (spares_aside m mid new None aside t.0)
      (subst (λ (w : Work Run). IsWorkReady m runs mid t w) is ready))
  behind_ready stepped result (ends_then run refusal ending is reply over aside may) ready = tt

  pub behind_nearer : (stepped result : Stepped) → IsBehind m runs collected mid new t work stepped result
      → IsWorkNearer m runs old mid t before work stepped → IsWorkNearer m runs old new t before work result
  behind_nearer stepped result (let_be same_ rest same) nearer =
      subst (λ (r : R). IsWorkNearer m runs old r t before work stepped) (sym same) nearer
  behind_nearer stepped result (goes_on_then run is aside far its) nearer =
      subst (λ (n : ℕ). n < work_left m runs old t before) (sym left) nearer
    where
      left : work_left m runs new t work ≡ work_left m runs mid t work
      left = subst (λ (w : Work Run). work_left m runs new t w ≡ work_left m runs mid t w) (sym is) far
  behind_nearer stepped result (ends_then run refusal ending is reply over aside may) nearer = tt

  pub behind_frames : (stepped result : Stepped) → IsBehind m runs collected mid new t work stepped result
      → Frames m old mid t.0 (refusal_told stepped) → Frames m old new t.0 (refusal_told result)
  behind_frames stepped result (let_be same_ rest same) frames =
      subst (λ (r : R). Frames m old r t.0 (refusal_told stepped)) (sym same) frames
  behind_frames stepped result (goes_on_then run is aside far its) frames =
      frames_after m old mid new t.0 None frames (aside.frames t.0)
  behind_frames stepped result (ends_then run refusal ending is reply over aside may) frames =
      rw reply (frames_after m old mid new t.0 (Some refusal) frames (aside.frames t.0))

  pub behind_sessions : (stepped result : Stepped) → IsBehind m runs collected mid new t work stepped result
      → SessionsStay m old mid None (over_in t.0 stepped) → SessionsStay m old new None (over_in t.0 result)
  behind_sessions stepped result (let_be same_ rest same) sessions =
      subst (λ (r : R). SessionsStay m old r None (over_in t.0 stepped)) (sym same) sessions
  behind_sessions stepped result (goes_on_then run is aside far its) sessions =
      sessions_then m old mid new None sessions aside.quiet.sessions
  behind_sessions stepped result (ends_then run refusal ending is reply over aside may) sessions =
      rw over (sessions_then m old mid new None sessions aside.quiet.sessions)

-- a statement that stands so is ready, where it goes on
pub run_ready : {R P Run : Type 0} (m : Means R P) (runs : RunMeans R Run) (r : R) (t : TxNo) (work : Work Run) (run : Run)
    (stepped : Stepped) → work ≡ works.Statement run → IsWorkReadyIf m runs r t work stepped
    → IsReadyIf runs r t run stepped
run_ready {Run = Run} m runs r t work run stepped is ready = by stepped
    (subst (λ (w : Work Run). IsWorkReadyIf m runs r t w stepped) is ready)
  where
    by : (stepped : Stepped) → IsWorkReadyIf m runs r t (works.Statement run) stepped → IsReadyIf runs r t run stepped
    by More ready_ = ready_
    by (Waits on) ready_ = ready_
    by (Ended ending) ready_ = tt
