-- One step more.
use Rattle.std.specs.Prelude.{Option}
use Rattle.std.proofs.Common.{◌≡◌, ◌<◌, ◌-◌, ◌&&◌, ℕ, suc, zero, nat_lt, not, Bool, true, false, None, refl, arith, subst}
use Rattle.std.proofs.lemmas.Bool.{lt-ltb, ltb-true}
use Rattle.mg_base.specs.declared.numbers.TxNo.{TxNo}
use Rattle.mg_base.specs.declared.transaction.TxState.TheVariants.{Active}
use Rattle.mg_model.specs.declared.opening.Opening.{Opening}
use Rattle.mg_model.specs.Answers.{is_active}
use Rattle.mg_model.specs.History.{Entries}
use Rattle.mg_model.specs.Machine.{state_of}
use Rattle.mg_records.specs.Crashing.{HoldsOn}
use Rattle.mg_records.specs.Meaning.{Means}
use Rattle.mg_records.specs.Sessions.{SessionsStay}
use Rattle.mg_calls.specs.FrameLaws.{frames_after}
use Rattle.mg_calls.specs.Frames.{Frames}
use Rattle.mg_transcript.specs.Courses.{Course, Comes, Later, Parks, Ends}
use Rattle.mg_transcript.specs.Steps.{Steps, Runs, waits_now, ends_now, one_step, Takes, enough_now, waits_then, ends_then, step_more}
use Rattle.mg_courses.specs.declared.statements.Stepped.{Stepped}
use Rattle.mg_courses.specs.declared.statements.Stepped.TheVariants.{More, Waits, Ended}
use Rattle.mg_courses.specs.declared.work.Work.{Work}
use Rattle.mg_courses.specs.Running.{RunMeans, refusal_told, over_in, rests}
use Rattle.mg_courses.specs.Carrying.{Carries}
use Rattle.mg_courses.specs.CarryLaws.{carries_then}
use Rattle.mg_courses.specs.Working.{IsWorkAt, IsWorkTold, IsWorkReadyIf, IsWorkNearer, WorkDone}
use Rattle.mg_courses.proofs.WorkLemmas.{active_from}
use Rattle.mg_courses.proofs.SoFar.{RunsOn, TakesOn, DoneBy, SoFar, left_of}

pub sessions_then : {R P : Type 0} (m : Means R P) (old mid new : R) (ends : Option ℕ)
    → SessionsStay m old mid None None → SessionsStay m mid new None ends
    → SessionsStay m old new None ends
sessions_then m old mid new ends first second = record {
  free = λ session apart was. second.free session apart (first.free session refl was);
  works = λ t session apart was. second.works t session apart (first.works t session refl was);
  ended = λ t session is was. second.ended t session is (first.works t session refl was);
}

-- ---- a run

module _ {R P Run : Type 0} (m : Means R P) (runs : RunMeans R Run) (lasts : HoldsOn m)
    (old mid new : R) (t : TxNo) (before between work : Work Run) (stepped : Stepped) where
  -- what is done by one relation and a step behind it is done by another one
  abbrev MoreBy : (A B : Opening → TxNo → Entries → Course → Entries → Comes → Type 0) → Type 0
  MoreBy A B = (o : Opening) (h h' after : Entries) (course next : Course) (comes : Comes)
      → A o t h course h' (Later next) → Steps o h' t next after comes → B o t h course after comes

  pub one_more : (A B : Opening → TxNo → Entries → Course → Entries → Comes → Type 0) → MoreBy A B
      → DoneBy m runs old mid t before between More A
      → ((o : Opening) (h : Entries) (course : Course) → m.stands mid o h → state_of o h t.0 ≡ Active
      → IsWorkAt runs mid o h t between course → WorkDone m runs mid new o h t work stepped (Steps o h t course))
      → DoneBy m runs old new t before work stepped B
  one_more A B joins first second o h course stands active at =
      let d = first o h course stands active at in
      on d.after d.comes d.does d.stands d.told d.active d.carries
    where
      on : (h' : Entries) (comes : Comes) → A o t h course h' comes → m.stands mid o h'
          → IsWorkTold runs mid o h' t between More comes → is_active (state_of o h' t.0) ≡ true
          → Carries m old mid o h h'
          → WorkDone m runs old new o h t work stepped (B o t h course)
      on h' (Later next) does stands' told active' carries =
          let e = second o h' next stands' (active_from (state_of o h' t.0) active') told in
          record {
            after = e.after;
            comes = e.comes;
            does = joins o h h' e.after course next e.comes does e.does;
            stands = e.stands;
            told = e.told;
            active = e.active;
            carries = carries_then m lasts old mid new o h h' e.after carries e.carries;
          }
      on h' (Parks by next) does stands' told active' carries = absurd told
      on h' (Ends reply) does stands' told active' carries = absurd told

  pub so_far_more : SoFar m runs old mid t between More
      → IsWorkReadyIf m runs new t work stepped
      → Frames m mid new t.0 (refusal_told stepped)
      → SessionsStay m mid new None (over_in t.0 stepped)
      → SoFar m runs old new t work stepped
  so_far_more first ready frames sessions = record {
    ready = ready;
    frames = frames_after m old mid new t.0 (refusal_told stepped) first.frames frames;
    sessions = sessions_then m old mid new (over_in t.0 stepped) first.sessions sessions;
  }

pub runs_more : {R P Run : Type 0} (m : Means R P) (runs : RunMeans R Run) → HoldsOn m
    → (old mid new : R) (t : TxNo)
    (before between work : Work Run) (stepped : Stepped)
    → DoneBy m runs old mid t before between More RunsOn
    → ((o : Opening) (h : Entries) (course : Course) → m.stands mid o h → state_of o h t.0 ≡ Active
    → IsWorkAt runs mid o h t between course → WorkDone m runs mid new o h t work stepped (Steps o h t course))
    → DoneBy m runs old new t before work stepped RunsOn
runs_more m runs lasts old mid new t before between work stepped =
    one_more m runs lasts old mid new t before between work stepped RunsOn RunsOn
    (λ o h h' after course next comes does step end final rest. does end final (one_step step rest))

pub runs_first : {R P Run : Type 0} (m : Means R P) (runs : RunMeans R Run) (old new : R) (t : TxNo)
    (before work : Work Run) (stepped : Stepped)
    → ((o : Opening) (h : Entries) (course : Course) → m.stands old o h → state_of o h t.0 ≡ Active
    → IsWorkAt runs old o h t before course → WorkDone m runs old new o h t work stepped (Steps o h t course))
    → DoneBy m runs old new t before work stepped RunsOn
runs_first m runs old new t before work stepped steps o h course stands active at =
    let e = steps o h course stands active at in
    record {
      after = e.after;
      comes = e.comes;
      does = λ end final rest. one_step e.does rest;
      stands = e.stands;
      told = e.told;
      active = e.active;
      carries = e.carries;
    }

-- once it rests, the run is whole
pub runs_end : {R P Run : Type 0} (m : Means R P) (runs : RunMeans R Run) (old new : R) (t : TxNo)
    (before work : Work Run) (stepped : Stepped) → rests stepped ≡ true
    → DoneBy m runs old new t before work stepped RunsOn
    → (o : Opening) (h : Entries) (course : Course) → m.stands old o h → state_of o h t.0 ≡ Active
    → IsWorkAt runs old o h t before course
    → WorkDone m runs old new o h t work stepped (Runs o t h (Later course))
runs_end m runs old new t before work stepped rest done o h course stands active at =
    let d = done o h course stands active at in
    record {
      after = d.after;
      comes = d.comes;
      does = d.does d.after d.comes (whole stepped d.comes rest d.told);
      stands = d.stands;
      told = d.told;
      active = d.active;
      carries = d.carries;
    }
  where
    whole : {after : Entries} (stepped : Stepped) (comes : Comes) → rests stepped ≡ true
        → IsWorkTold runs new o after t work stepped comes → Runs o t after comes after comes
    whole More comes rest told = absurd cc
    whole (Waits on) (Later next) rest told = absurd told
    whole (Waits on) (Parks by next) rest told = waits_now by next
    whole (Waits on) (Ends reply) rest told = absurd told
    whole (Ended ending) (Later next) rest told = absurd told
    whole (Ended ending) (Parks by next) rest told = absurd told
    whole (Ended ending) (Ends reply) rest told = ends_now reply

pub left_falls : {R P Run : Type 0} (m : Means R P) (runs : RunMeans R Run) (mid new : R) (t : TxNo)
    (between work : Work Run) (stepped : Stepped)
    → IsWorkNearer m runs mid new t between work stepped
    → left_of m runs new t work stepped < left_of m runs mid t between More
left_falls m runs mid new t between work More nearer = omega (arith, nearer)
left_falls m runs mid new t between work (Waits on) nearer = omega arith
left_falls m runs mid new t between work (Ended ending) nearer = omega arith

-- ---- so many steps

takes_more : {o : Opening} {t : TxNo} {h mid after : Entries} {course : Course} {next comes : Comes}
    (n : ℕ) → 0 < n → Steps o h t course mid next → Takes o t (n - 1) mid next after comes
    → Takes o t n h (Later course) after comes
takes_more zero some step rest = absurd (omega arith)
takes_more {o = o} {t = t} {mid = mid} {after = after} {next = next} {comes = comes} (suc k) some step rest =
    let less : suc k - 1 ≡ k = omega arith in
    step_more step (subst (λ (n : ℕ). Takes o t n mid next after comes) less rest)

pub takes_first : {R P Run : Type 0} (m : Means R P) (runs : RunMeans R Run) (old new : R) (t : TxNo)
    (before work : Work Run) (stepped : Stepped) (most : ℕ) → 0 < most
    → ((o : Opening) (h : Entries) (course : Course) → m.stands old o h → state_of o h t.0 ≡ Active
    → IsWorkAt runs old o h t before course → WorkDone m runs old new o h t work stepped (Steps o h t course))
    → DoneBy m runs old new t before work stepped (TakesOn most (most - 1))
takes_first m runs old new t before work stepped most some steps o h course stands active at =
    let e = steps o h course stands active at in
    record {
      after = e.after;
      comes = e.comes;
      does = λ end final rest. takes_more most some e.does rest;
      stands = e.stands;
      told = e.told;
      active = e.active;
      carries = e.carries;
    }

pub takes_on : {R P Run : Type 0} (m : Means R P) (runs : RunMeans R Run) → HoldsOn m
    → (old mid new : R) (t : TxNo)
    (before between work : Work Run) (stepped : Stepped) (most left : ℕ) → 0 < left
    → DoneBy m runs old mid t before between More (TakesOn most left)
    → ((o : Opening) (h : Entries) (course : Course) → m.stands mid o h → state_of o h t.0 ≡ Active
    → IsWorkAt runs mid o h t between course → WorkDone m runs mid new o h t work stepped (Steps o h t course))
    → DoneBy m runs old new t before work stepped (TakesOn most (left - 1))
takes_on m runs lasts old mid new t before between work stepped most left some =
    one_more m runs lasts old mid new t before between work stepped (TakesOn most left) (TakesOn most (left - 1))
    (λ o h h' after course next comes does step end final rest.
    does end final (takes_more left some step rest))

-- no step is left, or the statement rests: the steps are whole
pub takes_end : {R P Run : Type 0} (m : Means R P) (runs : RunMeans R Run) (old new : R) (t : TxNo)
    (before work : Work Run) (stepped : Stepped) (most left : ℕ)
    → (nat_lt 0 left && not (rests stepped)) ≡ false
    → DoneBy m runs old new t before work stepped (TakesOn most left)
    → (o : Opening) (h : Entries) (course : Course) → m.stands old o h → state_of o h t.0 ≡ Active
    → IsWorkAt runs old o h t before course
    → WorkDone m runs old new o h t work stepped (Takes o t most h (Later course))
takes_end m runs old new t before work stepped most left rest done o h course stands active at =
    let d = done o h course stands active at in
    record {
      after = d.after;
      comes = d.comes;
      does = d.does d.after d.comes (whole left stepped d.comes rest d.told);
      stands = d.stands;
      told = d.told;
      active = d.active;
      carries = d.carries;
    }
  where
    whole : {after : Entries} (left : ℕ) (stepped : Stepped) (comes : Comes)
        → (nat_lt 0 left && not (rests stepped)) ≡ false
        → IsWorkTold runs new o after t work stepped comes → Takes o t left after comes after comes
    whole zero More (Later next) rest told = enough_now next
    whole (suc k) More (Later next) rest told =
        let more : nat_lt 0 (suc k) ≡ true = lt-ltb 0 (suc k) (omega arith) in absurd (cc (more, rest))
    whole left More (Parks by next) rest told = absurd told
    whole left More (Ends reply) rest told = absurd told
    whole left (Waits on) (Later next) rest told = absurd told
    whole left (Waits on) (Parks by next) rest told = waits_then by next
    whole left (Waits on) (Ends reply) rest told = absurd told
    whole left (Ended ending) (Later next) rest told = absurd told
    whole left (Ended ending) (Parks by next) rest told = absurd told
    whole left (Ended ending) (Ends reply) rest told = ends_then reply

-- ---- in a loop

-- a statement that does not rest goes on at once
pub going : (now : Stepped) → not (rests now) ≡ true → now ≡ More
going More is = refl
going (Waits on) is = absurd cc
going (Ended ending) is = absurd cc

pub resting : (now : Stepped) → not (rests now) ≡ false → rests now ≡ true
resting More is = absurd cc
resting (Waits on) is = refl
resting (Ended ending) is = refl

-- both parts of a test
pub left_and_going : (left : ℕ) (now : Stepped) → (nat_lt 0 left && not (rests now)) ≡ true
    → (0 < left) × (not (rests now) ≡ true)
left_and_going left now is = at (nat_lt 0 left) (not (rests now)) refl is
  where
    at : (a b : Bool) → nat_lt 0 left ≡ a → (a && b) ≡ true → (0 < left) × (b ≡ true)
    at true true same both = (ltb-true 0 left same, refl)
    at true false same both = absurd cc
    at false b same both = absurd cc
