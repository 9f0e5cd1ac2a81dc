-- A statement is taken out, takes a step, and is kept, or is given up.
use Rattle.std.proofs.Common.{◌≡◌, ◌<◌, ◌==◌, ℕ, true, false, List, ◌++◌, Option, None, get_or, length, refl, sym, ap, ◌∙◌, subst}
use Rattle.std.specs.List.{remove}
use Rattle.mg_base.specs.declared.numbers.TxNo.{TxNo}
use Rattle.mg_base.specs.declared.transaction.TxState.TheVariants.{Active}
use Rattle.mg_model.specs.declared.opening.Opening.{Opening}
use Rattle.mg_model.specs.History.{Entries}
use Rattle.mg_model.specs.Legal.{IsLegal}
use Rattle.mg_model.specs.Machine.{state_of}
use Rattle.mg_faults.specs.Faults.{tells_fault}
use Rattle.mg_records.specs.Crashing.{HoldsOn}
use Rattle.mg_records.specs.Meaning.{Means}
use Rattle.mg_records.specs.Sessions.{SessionsAreOne, SessionsStay}
use Rattle.mg_script.specs.declared.reply.Reply.{Reply}
use Rattle.mg_calls.specs.Frames.{Frames}
use Rattle.mg_transcript.specs.Courses.{Comes, Course, Later, Parks, Ends, reply_of}
use Rattle.mg_transcript.specs.Growing.{GrowsBy}
use Rattle.mg_transcript.specs.LegalLaws.{takes_legal}
use Rattle.mg_transcript.specs.OwnEventLaws.{takes_own}
use Rattle.mg_transcript.specs.Sessions.{Unfinished}
use Rattle.mg_transcript.specs.Steps.{Steps, step_more}
use Rattle.mg_interleavings.specs.declared.answered.Answered.{Answered}
use Rattle.mg_interleavings.specs.declared.answered.Answered.TheVariants.{Replied}
use Rattle.mg_interleavings.specs.HistoryLaws.{one_of}
use Rattle.mg_interleavings.specs.Interleavings.{TimesOut, waits_for}
use Rattle.mg_courses.specs.declared.statements.Stepped.{Stepped}
use Rattle.mg_courses.specs.declared.statements.Stepped.TheVariants.{More, Waits, Ended}
use Rattle.mg_courses.specs.declared.work.Work.{Work}
use Rattle.mg_courses.specs.BesideLaws.{WorksStayAt, WorksStayReady}
use Rattle.mg_courses.specs.CarryLaws.{carries_then}
use Rattle.mg_courses.specs.Running.{RunMeans, over_in, refusal_told}
use Rattle.mg_courses.specs.Working.{IsWorkAt, IsWorkReadyIf, IsWorkTold, WorkDone}
use Rattle.mg_pending.specs.declared.pending.Pending.{Pending}
use Rattle.mg_pending.specs.declared.transactions.Transaction.{Transaction}
use Rattle.mg_pending.specs.AgreeLaws.{SplitAt}
use Rattle.mg_pending.specs.Standing.{AreReady, CanGoOn, StandAt}
use Rattle.mg_pending.specs.StandingLaws.{live_is_active}
use Rattle.mg_pending.specs.Statements.{has_statement, pending_after, reply_of_step, transactions_after}
use Rattle.mg_sessions.specs.AccountLaws.{account_of, account_then}
use Rattle.mg_sessions.specs.Accounts.{Accounts}
use Rattle.mg_sessions.specs.Coming.{ComesTo, IsKept}
use Rattle.mg_sessions.specs.GoLaws.{step_others_ready, step_others_stand, step_ready}
use Rattle.mg_sessions.specs.HoldingLaws.{kept_for, left_idle, left_ready, left_stand, taken_at, taken_can, taken_transaction, taken_session}
use Rattle.mg_sessions.specs.StatementLaws.{went}
use Rattle.mg_floor.specs.Answering.{refusal_told_by}
use Rattle.mg_floor.specs.Trying.{TriesOnce, takes_a_step, waits_again, waits_so}

-- ---- one step

step_own : {o : Opening} {h after : Entries} {t : TxNo} {course : Course} {comes : Comes}
    → Steps o h t course after comes → GrowsBy t h after
step_own {comes = comes} step = takes_own (step_more step (one_of comes))

step_legal : {o : Opening} {h after : Entries} {t : TxNo} {course : Course} {comes : Comes}
    → Steps o h t course after comes → IsLegal o h → IsLegal o after
step_legal {comes = comes} step legal = takes_legal (step_more step (one_of comes)) legal

-- what is told of it is whether it came to wait for a transaction
told_waits : {R Run : Type 0} (runs : RunMeans R Run) (new : R) (o : Opening) (after : Entries) (t : TxNo)
    (work : Work Run) (on : TxNo) (stepped : Stepped) (comes : Comes) → IsWorkTold runs new o after t work stepped comes
    → waits_for on comes ≡ waits_so on stepped
told_waits runs new o after t work on More (Later course) told = refl
told_waits runs new o after t work on More (Parks by course) told = absurd told
told_waits runs new o after t work on More (Ends reply) told = absurd told
told_waits runs new o after t work on (Waits by) (Later course) told = absurd told
told_waits runs new o after t work on (Waits by) (Parks other course) told = ap (λ (n : TxNo). n.0 == on.0) (sym told.0)
told_waits runs new o after t work on (Waits by) (Ends reply) told = absurd told
told_waits runs new o after t work on (Ended ending) (Later course) told = absurd told
told_waits runs new o after t work on (Ended ending) (Parks by course) told = absurd told
told_waits runs new o after t work on (Ended ending) (Ends reply) told = refl

-- one that came to wait leaves the transactions, and tells no fault
waits_same : (on : TxNo) (stepped : Stepped) (s : ℕ) (all : List (Option Transaction)) → waits_so on stepped ≡ true
    → transactions_after s stepped all ≡ all
waits_same on More s all is = absurd cc
waits_same on (Waits by) s all is = refl
waits_same on (Ended ending) s all is = absurd cc

waits_quiet : (on : TxNo) (stepped : Stepped) → waits_so on stepped ≡ true → tells_fault (refusal_told stepped) ≡ false
waits_quiet on More is = absurd cc
waits_quiet on (Waits by) is = refl
waits_quiet on (Ended ending) is = absurd cc

module _ {R P Run : Type 0} (m : Means R P) (runs : RunMeans R Run) (one : SessionsAreOne m) (lasts : HoldsOn m)
    (still : WorksStayAt m runs) (ready_still : WorksStayReady m runs) (r mid : R) (all : List (Option Transaction))
    (ps : List (Pending Run)) (place : ℕ) (p : Pending Run) (inside : place < length ps) (is : p ≡ get_or ps place p)
    (ready : AreReady m runs r all ps) (stepped : Stepped) (work : Work Run)
    (frames : Frames m r mid p.transaction.0 (refusal_told stepped)) where
  can : CanGoOn m runs r all p
  can = taken_can m runs r all ps place p inside is ready

  left : AreReady m runs r all (remove ps place)
  left = left_ready m runs r all ps place p inside is ready

  idle : has_statement p.session.0 (remove ps place) ≡ false
  idle = left_idle m runs r all ps place p inside is ready

  pub stepped_ready : SessionsStay m r mid None (over_in p.transaction.0 stepped)
      → IsWorkReadyIf m runs mid p.transaction work stepped
      → AreReady m runs mid (transactions_after p.session.0 stepped all)
      (pending_after p.session p.transaction work stepped (remove ps place))
  stepped_ready stay can_go = step_ready m runs one r mid p.session p.transaction stepped all (remove ps place) left can.its
      idle frames ready_still stay work can.lettered can_go

  -- the others, where it came to wait
  pub waits_ready : (on : TxNo) → waits_so on stepped ≡ true → SessionsStay m r mid None (over_in p.transaction.0 stepped)
      → AreReady m runs mid all (remove ps place)
  waits_ready on waits stay =
      subst (λ (a : List (Option Transaction)). AreReady m runs mid a (remove ps place))
      (waits_same on stepped p.session.0 all waits)
      (step_others_ready m runs one r mid p.session p.transaction stepped all (remove ps place) left can.its idle frames
      ready_still stay)

  module _ (o : Opening) (h : Entries) (us : List Unfinished) (d : Pending Run) (stand : StandAt m runs r o h all ps us)
      (s : SplitAt runs r o h ps place d us)
      (steps : (o : Opening) (h : Entries) (course : Course) → m.stands r o h → state_of o h p.transaction.0 ≡ Active
      → IsWorkAt runs r o h p.transaction p.work course
      → WorkDone m runs r mid o h p.transaction work stepped (Steps o h p.transaction course)) where
    abbrev others : List Unfinished
    others = s.before ++ s.behind

    beside : StandAt m runs r o h all (remove ps place) others
    beside = left_stand m runs r all ps place p inside is ready o h us d stand s

    number : p.transaction ≡ s.one.transaction
    number = taken_transaction m runs r all ps place p inside is ready o h us d stand s

    done : WorkDone m runs r mid o h p.transaction work stepped (Steps o h p.transaction s.one.course)
    done = steps o h s.one.course stand.stands
        (live_is_active m runs r o h all (remove ps place) others p.session.0 p.transaction beside can.its)
        (taken_at m runs r all ps place p inside is ready o h us d stand s)

    -- it is kept, and what is known of the step
    pub kept_with : (By : TxNo → Entries → Comes → Type 0)
        → ((after : Entries) (comes : Comes) → Steps o h p.transaction s.one.course after comes
        → IsWorkTold runs mid o after p.transaction work stepped comes → By p.transaction after comes)
        → ((after : Entries) (comes : Comes) → By p.transaction after comes
        → Steps o h p.transaction s.one.course after comes)
        → ComesTo m runs r mid o h (transactions_after p.session.0 stepped all)
        (pending_after p.session p.transaction work stepped (remove ps place))
        (IsKept s.one.session s.one.transaction others (By s.one.transaction) (reply_of_step stepped))
    kept_with By so back =
        kept_for m runs r mid o h (transactions_after p.session.0 stepped all)
        (pending_after p.session p.transaction work stepped (remove ps place)) others p.session s.one.session p.transaction
        s.one.transaction By (reply_of_step stepped)
        (taken_session m runs r all ps place p inside is ready o h us d stand s) number
        (went m runs one lasts still r mid p.session p.transaction stepped all (remove ps place) left can.its idle frames o h
        others work (By p.transaction) beside
        (record {
          after = done.after;
          comes = done.comes;
          does = so done.after done.comes done.does done.told;
          stands = done.stands;
          told = done.told;
          active = done.active;
          carries = done.carries;
        })
        (λ after comes by_it. step_own (back after comes by_it))
        (λ after comes by_it. step_legal (back after comes by_it) stand.legal))

    pub kept_step : ComesTo m runs r mid o h (transactions_after p.session.0 stepped all)
        (pending_after p.session p.transaction work stepped (remove ps place))
        (IsKept s.one.session s.one.transaction others (Steps o h s.one.transaction s.one.course) (reply_of_step stepped))
    kept_step = kept_with (λ t after comes. Steps o h t s.one.course after comes) (λ after comes step told. step)
        (λ after comes step. step)

    -- ---- it was tried once more

    -- it does not wait for the same transaction
    pub tried_kept : (on : TxNo) → waits_so on stepped ≡ false
        → ComesTo m runs r mid o h (transactions_after p.session.0 stepped all)
        (pending_after p.session p.transaction work stepped (remove ps place))
        (TriesOnce o h s.one others on (Replied (reply_of_step stepped)))
    tried_kept on not_again =
        let came = kept_with (λ t after comes. Steps o h t s.one.course after comes × (waits_for on comes ≡ waits_so on stepped))
        (λ after comes step told. (step, told_waits runs mid o after p.transaction work on stepped comes told))
        (λ after comes by_it. by_it.0) in
        record {
          after = came.after;
          then_ = came.then_;
          does = subst (λ (x : Reply). TriesOnce o h s.one others on (Replied x) came.after came.then_)
              (sym came.does.answered)
              (subst (λ (vs : List Unfinished).
              TriesOnce o h s.one others on (Replied (reply_of came.does.comes)) came.after vs) (sym came.does.kept_so)
              (takes_a_step came.after came.does.comes came.does.by_it.0 (came.does.by_it.1 ∙ not_again)));
          stand = came.stand;
          carries = came.carries;
        }

    -- it does, and is given up
    pub tried_given_up : (on : TxNo) → waits_so on stepped ≡ true → (new : R) (all' : List (Option Transaction))
        (ps' : List (Pending Run)) (answer : Answered)
        → ((o : Opening) (h : Entries) (us : List Unfinished) → StandAt m runs mid o h all (remove ps place) us
        → ComesTo m runs mid new o h all' ps' (λ after then_. TimesOut o h p.transaction on after answer × (then_ ≡ us)))
        → ComesTo m runs r new o h all' ps' (TriesOnce o h s.one others on answer)
    tried_given_up on waits new all' ps' answer gives =
        let there : StandAt m runs mid o done.after all (remove ps place) others =
        subst (λ (a : List (Option Transaction)). StandAt m runs mid o done.after a (remove ps place) others)
        (waits_same on stepped p.session.0 all waits)
        (step_others_stand m runs one r mid p.session p.transaction stepped all (remove ps place) left can.its idle frames
        still o h done.after others beside (step_own done.does) done.stands (step_legal done.does stand.legal) done.active) in
        let gone = gives o done.after others there in
        let step = subst (λ (t : TxNo). Steps o h t s.one.course done.after done.comes) number done.does in
        let out = subst (λ (t : TxNo). TimesOut o done.after t on gone.after answer) number gone.does.0 in
        record {
          after = gone.after;
          then_ = gone.then_;
          does = subst (λ (vs : List Unfinished). TriesOnce o h s.one others on answer gone.after vs) (sym gone.does.1)
              (waits_again done.after gone.after done.comes answer step
              (told_waits runs mid o done.after p.transaction work on stepped done.comes done.told ∙ waits) out);
          stand = gone.stand;
          carries = carries_then m lasts r mid new o h done.after gone.after done.carries gone.carries;
        }

  pub given_up_account : (on : TxNo) → waits_so on stepped ≡ true → (new : R) (answer : Answered)
      → Accounts m mid new (refusal_told_by answer) → Accounts m r new (refusal_told_by answer)
  given_up_account on waits new answer second =
      account_then m r mid new (refusal_told stepped) (refusal_told_by answer) (waits_quiet on stepped waits)
      (account_of m r mid p.transaction.0 (refusal_told stepped) frames) second
