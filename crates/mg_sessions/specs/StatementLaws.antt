-- What a statement of a session comes to, from its beginning on.
use Rattle.std.proofs.Common.{arith, ◌⊎◌, inl, inr, ◌≡◌, ◌<◌, ℕ, true, false, List, Option, None, Some, sym, ◌∙◌, subst, refl}
use Rattle.mg_base.specs.declared.numbers.TxNo.{TxNo}
use Rattle.mg_model.specs.declared.opening.Opening.{Opening}
use Rattle.mg_model.specs.History.{Entries}
use Rattle.mg_model.specs.Legal.{IsLegal}
use Rattle.mg_records.specs.Crashing.{CrashesHold, HoldsOn}
use Rattle.mg_records.specs.Meaning.{Means}
use Rattle.mg_script.specs.declared.line.Session.{Session}
use Rattle.mg_script.specs.declared.reply.Reply.{Reply}
use Rattle.mg_script.specs.Lines.{takes_steps}
use Rattle.mg_statements.specs.Plain.{Plain, SetTransaction, Commit, Rollback, RollbackTo, Savepoint, Table, Insert, Update, Delete, Totals, Select}
use Rattle.mg_calls.specs.Frames.{Frames}
use Rattle.mg_transcript.specs.Courses.{Course, Comes, Later, Parks, Ends, reply_of}
use Rattle.mg_transcript.specs.Growing.{GrowsBy}
use Rattle.mg_transcript.specs.LegalLaws.{starts_legal}
use Rattle.mg_transcript.specs.OwnEventLaws.{starts_own}
use Rattle.mg_rows.specs.declared.statement_fault.StatementFault.{StatementFault}
use Rattle.mg_rows.specs.declared.statement_fault.StatementFault.TheVariants.{Busy}
use Rattle.mg_transcript.specs.Lines.{Declines, begins, busy, no_statement}
use Rattle.mg_transcript.specs.Sessions.{Unfinished, kept}
use Rattle.mg_transcript.specs.Steps.{Starts, Runs, ends_now}
use Rattle.mg_records.specs.Sessions.{SessionsAreOne}
use Rattle.mg_courses.specs.declared.starting.Started.TheVariants as started
use Rattle.mg_courses.specs.declared.statements.Ending.{Ending}
use Rattle.mg_courses.specs.declared.statements.Stepped.{Stepped}
use Rattle.mg_courses.specs.declared.statements.Stepped.TheVariants.{More, Ended}
use Rattle.mg_courses.specs.declared.work.Work.{Work}
use Rattle.mg_courses.specs.BesideLaws.{WorksStayAt}
use Rattle.mg_courses.specs.CarryLaws.{carries_then, carries_none}
use Rattle.mg_courses.specs.Running.{RunMeans, refusal_told}
use Rattle.mg_courses.specs.Working.{IsWorkAt, IsWorkTold, WorkDone, StartDone, IsStartTold}
use Rattle.mg_pending.specs.declared.pending.Pending.{Pending}
use Rattle.mg_pending.specs.declared.transactions.Transaction.{Transaction}
use Rattle.mg_script.specs.declared.line.TheConstants.{SESSIONS}
use Rattle.mg_pending.specs.declared.transactions.TheConstants.{PLACES}
use Rattle.mg_pending.specs.Transactions.{number_at}
use Rattle.mg_pending.specs.Statements.{has_statement, transactions_after, pending_after, reply_of_step}
use Rattle.mg_pending.specs.AgreeLaws.{same_busy}
use Rattle.mg_pending.specs.Standing.{Agree, StandAt, AreReady}
use Rattle.mg_pending.specs.StandingLaws.{reply_is}
use Rattle.mg_sessions.specs.Coming.{ComesTo, IsKept}
use Rattle.mg_sessions.specs.Lines.{IsTextFault}
use Rattle.mg_sessions.specs.GoLaws.{step_stand, step_others_stand}

-- nothing is done
pub stays_so : {R P Run : Type 0} (m : Means R P) (runs : RunMeans R Run) → CrashesHold m → (r : R)
    (o : Opening) (h : Entries) (all : List (Option Transaction)) (ps : List (Pending Run))
    (us : List Unfinished) (By : Entries → List Unfinished → Type 0)
    → StandAt m runs r o h all ps us → By h us → ComesTo m runs r r o h all ps By
stays_so m runs crashes r o h all ps us By stand does = record {
  after = h;
  then_ = us;
  does = does;
  stand = stand;
  carries = carries_none m crashes r o h stand.stands;
}

-- what is answered, and what is kept, by their equations
pub comes_as : {R P Run : Type 0} (m : Means R P) (runs : RunMeans R Run) (old new : R) (o : Opening)
    (h : Entries) (all all' : List (Option Transaction)) (ps ps' : List (Pending Run))
    (By : Reply → Entries → List Unfinished → Type 0) (reply reply' : Reply) → all' ≡ all → ps' ≡ ps
    → reply' ≡ reply → ComesTo m runs old new o h all ps (By reply)
    → ComesTo m runs old new o h all' ps' (By reply')
comes_as m runs old new o h all all' ps ps' By reply reply' same_all same_ps same_reply comes =
    rw (same_all, same_ps, same_reply) comes

module _ {R P Run : Type 0} (m : Means R P) (runs : RunMeans R Run) (one : SessionsAreOne m)
    (lasts : HoldsOn m) (still : WorksStayAt m runs) (old new : R) (session : Session) (t : TxNo)
    (stepped : Stepped) (all : List (Option Transaction)) (ps : List (Pending Run))
    (ready : AreReady m runs old all ps) (its : number_at all session.0 ≡ Some t)
    (idle : has_statement session.0 ps ≡ false)
    (frames : Frames m old new t.0 (refusal_told stepped)) where
  -- its steps came to something, by a relation that gives events of its transaction alone
  pub went : (o : Opening) (h : Entries) (us : List Unfinished) (work : Work Run)
      (By : Entries → Comes → Type 0) → StandAt m runs old o h all ps us
      → WorkDone m runs old new o h t work stepped By
      → ((after : Entries) (comes : Comes) → By after comes → GrowsBy t h after)
      → ((after : Entries) (comes : Comes) → By after comes → IsLegal o after)
      → ComesTo m runs old new o h (transactions_after session.0 stepped all)
      (pending_after session t work stepped ps) (IsKept session t us By (reply_of_step stepped))
  went o h us work By stand done own legal = record {
    after = done.after;
    then_ = kept session t done.comes us;
    does = record {
      comes = done.comes;
      by_it = done.does;
      answered = reply_is m runs new o session t work all ps done.after stepped done.comes done.told;
      kept_so = refl;
    };
    stand = step_stand m runs one old new session t stepped all ps ready its idle frames still o h done.after us
        stand (own done.after done.comes done.does) done.stands (legal done.after done.comes done.does)
        done.active work done.comes done.told;
    carries = done.carries;
  }

-- a beginning is told as a step: it goes on, or is at its end
pub as_step : {R Run : Type 0} (runs : RunMeans R Run) (new : R) (o : Opening) (after : Entries) (t : TxNo)
    (work : Work Run) (comes : Comes) → IsStartTold runs new o after t (started.Begun work) comes
    → IsWorkTold runs new o after t work More comes
as_step runs new o after t work (Later course) told = told
as_step runs new o after t work (Parks on course) told = absurd told
as_step runs new o after t work (Ends reply) told = absurd told

pub as_end : {R Run : Type 0} (runs : RunMeans R Run) (new : R) (o : Opening) (after : Entries) (t : TxNo)
    (work : Work Run) (ending : Ending) (comes : Comes)
    → IsStartTold runs new o after t (started.Ended ending) comes
    → IsWorkTold runs new o after t work (Ended ending) comes
as_end runs new o after t work ending (Later course) told = absurd told
as_end runs new o after t work ending (Parks on course) told = absurd told
as_end runs new o after t work ending (Ends reply) told = told

module _ {R P Run : Type 0} (m : Means R P) (runs : RunMeans R Run) (old new : R) (o : Opening)
    (h : Entries) (t : TxNo) (By : Entries → Comes → Type 0) where
  pub begun_done : (work : Work Run) → StartDone m runs old new o h t (started.Begun work) By
      → WorkDone m runs old new o h t work More By
  begun_done work done = record {
    after = done.after;
    comes = done.comes;
    does = done.does;
    stands = done.stands;
    told = as_step runs new o done.after t work done.comes done.told;
    active = done.active;
    carries = done.carries;
  }

  pub ended_done : (work : Work Run) (ending : Ending)
      → StartDone m runs old new o h t (started.Ended ending) By
      → WorkDone m runs old new o h t work (Ended ending) By
  ended_done work ending done = record {
    after = done.after;
    comes = done.comes;
    does = done.does;
    stands = done.stands;
    told = as_end runs new o done.after t work ending done.comes done.told;
    active = done.active;
    carries = done.carries;
  }

-- a statement that began went on
module _ {R P Run : Type 0} (m : Means R P) (runs : RunMeans R Run) (one : SessionsAreOne m)
    (lasts : HoldsOn m) (still : WorksStayAt m runs) (old mid new : R) (session : Session) (t : TxNo)
    (all all' : List (Option Transaction)) (ps ps' : List (Pending Run))
    (ready : AreReady m runs old all ps) (its : number_at all session.0 ≡ Some t)
    (idle : has_statement session.0 ps ≡ false) (frames : Frames m old mid t.0 None)
    (work : Work Run) (reply : Reply) where
  pub ran : (o : Opening) (h : Entries) (us : List Unfinished) (size : ℕ) (s : Plain)
      (Done : Reply → Entries → List Unfinished → Type 0)
      → ((after mid_h : Entries) (begun comes : Comes) → Starts o h t size s mid_h begun
      → Runs o t mid_h begun after comes → Done (reply_of comes) after (kept session t comes us))
      → StandAt m runs old o h all ps us
      → StartDone m runs old mid o h t (started.Begun work) (Starts o h t size s)
      → ((o : Opening) (h : Entries) (us : List Unfinished) (course : Course)
      → StandAt m runs mid o h all ps us → IsWorkAt runs mid o h t work course
      → ComesTo m runs mid new o h all' ps' (IsKept session t us (Runs o t h (Later course)) reply))
      → ComesTo m runs old new o h all' ps' (Done reply)
  ran o h us size s Done joins stand done goes = at done.comes done.does done.told
    where
      at : (begun : Comes) → Starts o h t size s done.after begun
          → IsStartTold runs mid o done.after t (started.Begun work) begun
          → ComesTo m runs old new o h all' ps' (Done reply)
      at (Later course) does told =
          let legal = starts_legal does stand.legal in
          let there = step_others_stand m runs one old mid session t More all ps ready its idle frames still o h
          done.after us stand (starts_own does) done.stands legal done.active in
          let went_on = goes o done.after us course there told in
          record {
            after = went_on.after;
            then_ = went_on.then_;
            does = subst (λ (x : Reply). Done x went_on.after went_on.then_) (sym went_on.does.answered)
                (subst (λ (x : List Unfinished). Done (reply_of went_on.does.comes) went_on.after x)
                (sym went_on.does.kept_so)
                (joins went_on.after done.after (Later course) went_on.does.comes does went_on.does.by_it));
            stand = went_on.stand;
            carries = carries_then m lasts old mid new o h done.after went_on.after done.carries went_on.carries;
          }
      at (Parks on course) does told = absurd told
      at (Ends given) does told = absurd told

-- ---- by the equations of what was kept

pub ready_as : {R P Run : Type 0} (m : Means R P) (runs : RunMeans R Run) (r : R)
    (all all' : List (Option Transaction)) (ps ps' : List (Pending Run)) → all' ≡ all → ps' ≡ ps
    → AreReady m runs r all ps → AreReady m runs r all' ps'
ready_as m runs r all all' ps ps' same_all same_ps ready = rw (same_all, same_ps) ready

-- a statement that was at its end at its beginning
module _ {R P Run : Type 0} (m : Means R P) (runs : RunMeans R Run) (one : SessionsAreOne m)
    (still : WorksStayAt m runs) (old new : R) (session : Session) (t : TxNo) (ending : Ending)
    (all : List (Option Transaction)) (ps : List (Pending Run)) (ready : AreReady m runs old all ps)
    (its : number_at all session.0 ≡ Some t) (idle : has_statement session.0 ps ≡ false)
    (frames : Frames m old new t.0 (refusal_told (Ended ending))) where
  pub ended_so : (o : Opening) (h : Entries) (us : List Unfinished) (size : ℕ) (s : Plain)
      (Done : Reply → Entries → List Unfinished → Type 0)
      → ((after : Entries) (comes : Comes) → Starts o h t size s after comes → Runs o t after comes after comes
      → Done (reply_of comes) after (kept session t comes us))
      → StandAt m runs old o h all ps us
      → StartDone m runs old new o h t (started.Ended ending) (Starts o h t size s)
      → ComesTo m runs old new o h (transactions_after session.0 (Ended ending) all) ps (Done ending.reply)
  ended_so o h us size s Done joins stand done = at done.comes done.does done.told
    where
      at : (comes : Comes) → Starts o h t size s done.after comes
          → IsStartTold runs new o done.after t (started.Ended ending) comes
          → ComesTo m runs old new o h (transactions_after session.0 (Ended ending) all) ps (Done ending.reply)
      at (Later course) does told = absurd told
      at (Parks on course) does told = absurd told
      at (Ends reply) does told = record {
        after = done.after;
        then_ = us;
        does = subst (λ (x : Reply). Done x done.after us) (sym told)
            (joins done.after (Ends reply) does (ends_now reply));
        stand = step_others_stand m runs one old new session t (Ended ending) all ps ready its idle frames still o
            h done.after us stand (starts_own does) done.stands (starts_legal does stand.legal) done.active;
        carries = done.carries;
      }

-- what was kept is what a line does
pub kept_does : {R P Run : Type 0} (m : Means R P) (runs : RunMeans R Run) (old new : R) (o : Opening)
    (h : Entries) (all : List (Option Transaction)) (ps : List (Pending Run)) (us : List Unfinished)
    (session : Session) (t : TxNo) (By : Entries → Comes → Type 0) (reply : Reply)
    (Done : Reply → Entries → List Unfinished → Type 0)
    → ((after : Entries) (comes : Comes) → By after comes
    → Done (reply_of comes) after (kept session t comes us))
    → ComesTo m runs old new o h all ps (IsKept session t us By reply)
    → ComesTo m runs old new o h all ps (Done reply)
kept_does m runs old new o h all ps us session t By reply Done joins comes = record {
  after = comes.after;
  then_ = comes.then_;
  does = subst (λ (x : Reply). Done x comes.after comes.then_) (sym comes.does.answered)
      (subst (λ (x : List Unfinished). Done (reply_of comes.does.comes) comes.after x) (sym comes.does.kept_so)
      (joins comes.after comes.does.comes comes.does.by_it));
  stand = comes.stand;
  carries = comes.carries;
}

-- a text that is not read gives no event
pub declined : {R Run : Type 0} (runs : RunMeans R Run) (r : R) (o : Opening) (h : Entries)
    (ps : List (Pending Run)) (us : List Unfinished) (session : Session) (text : List ℕ)
    (fault : StatementFault) → Agree runs r o h ps us
    → ((has_statement session.0 ps ≡ true) × (fault ≡ Busy))
    ⊎ ((has_statement session.0 ps ≡ false) × IsTextFault text fault)
    → Declines o h us session text fault
declined runs r o h ps us session text fault agree (inl busy_now) =
    subst (λ (f : StatementFault). Declines o h us session text f) (sym busy_now.1)
    (busy (same_busy runs r o h session ps us agree ∙ busy_now.0))
declined runs r o h ps us session text fault agree (inr free) =
    subst (λ (f : StatementFault). Declines o h us session text f) (sym free.1.is)
    (no_statement free.1.lower (same_busy runs r o h session ps us agree ∙ free.0) free.1.refuses)

-- a statement that takes steps begins no transaction
pub takes_no_begin : (s : Plain) → takes_steps s ≡ true → begins s ≡ false
takes_no_begin Commit is = refl
takes_no_begin (Insert table columns values) is = refl
takes_no_begin (Update table sets filter) is = refl
takes_no_begin (Delete table filter) is = refl
takes_no_begin (Totals table totals filter) is = refl
takes_no_begin (Select table values filter sorted) is = refl
takes_no_begin (SetTransaction read_only wait snapshot) is = absurd cc
takes_no_begin Rollback is = refl
takes_no_begin (RollbackTo name) is = refl
takes_no_begin (Savepoint name) is = refl
takes_no_begin (Table name columns) is = refl

-- a session with a letter has a place
pub within : (session : ℕ) → session < SESSIONS → session < PLACES
within session lettered = omega (arith, lettered)
