-- The turn of a line, and what came of its printing.
use Rattle.std.proofs.Common.{◌≡◌, ℕ, Bool, true, false, List, Option, None, Some, refl, sym, ap, subst, if◌then◌else◌}
use Rattle.mg_base.specs.Streams.{SinkMeaning}
use Rattle.mg_model.specs.declared.opening.Opening.{Opening}
use Rattle.mg_model.specs.declared.refusal.Refusal.{Refusal}
use Rattle.mg_model.specs.History.{Entries}
use Rattle.mg_records.specs.Meaning.{Means}
use Rattle.mg_rows.specs.declared.statement_fault.StatementFault.TheVariants.{Engine}
use Rattle.mg_script.specs.declared.line.Line.{Line}
use Rattle.mg_script.specs.declared.line.LineKind.{LineKind}
use Rattle.mg_script.specs.declared.line.LineKind.TheVariants as kinds
use Rattle.mg_script.specs.declared.reply.Reply.{Reply}
use Rattle.mg_script.specs.declared.reply.Reply.TheVariants as replies
use Rattle.mg_script.specs.Transcript.{HasLetter}
use Rattle.mg_transcript.specs.declared.turn.Flow.{Flow}
use Rattle.mg_transcript.specs.declared.turn.Flow.TheVariants.{GoesOn, Stops}
use Rattle.mg_transcript.specs.declared.turn.Spoken.{Spoken}
use Rattle.mg_transcript.specs.Lines.{last_reply, stops}
use Rattle.mg_transcript.specs.Shorthand.{stops_run}
use Rattle.mg_transcript.specs.Sessions.{Unfinished}
use Rattle.mg_transcript.specs.Transcript.{flow, turn_of}
use Rattle.mg_courses.specs.Running.{RunMeans, refusal_answered}
use Rattle.mg_courses.specs.StopLaws.{flow_goes, goes_on_behind}
use Rattle.mg_pending.specs.declared.pending.Pending.{Pending}
use Rattle.mg_pending.specs.declared.transactions.Transaction.{Transaction}
use Rattle.mg_sessions.specs.AccountLaws.{untold_account}
use Rattle.mg_sessions.specs.Accounts.{Accounts}
use Rattle.mg_sessions.specs.Coming.{ComesTo}
use Rattle.mg_sessions.specs.Lines.{IsObeyable}
use Rattle.mg_turns.specs.Turns.{EndsAs, StopsSo, Turned}
use Rattle.mg_turns.specs.declared.turn.TurnEnd.{TurnEnd}
use Rattle.mg_turns.specs.declared.turn.TurnEnd.TheVariants as turn_ends
use Rattle.mg_scripts.specs.FaultLines.{fault_said}
use Rattle.mg_scripts.specs.Printing.{PrintsLine}
use Rattle.mg_scripts.specs.Runs.{bad_line, is_known, read_as}
use Rattle.mg_scripts.specs.Steps.{GoesOnOr, LineDone, are_fine, end_of_turn, end_or, reason_in}
use Rattle.mg_scripts.specs.declared.lines.LinesEnd.{LinesEnd}
use Rattle.mg_scripts.specs.declared.lines.LinesEnd.TheVariants.{Whole, Stopped, NoMemory, SinkFailed}

-- ---- answers

-- an answer behind which the run stops tells its refusal
stopped_tells : (reply : Reply) (refusal : Refusal) → flow reply ≡ Stops refusal
    → refusal_answered reply ≡ Some refusal
stopped_tells (replies.No (Engine given)) refusal is = at (stops_run given) is
  where
    at : (b : Bool) → (if b then Stops given else GoesOn) ≡ Stops refusal → Some given ≡ Some refusal
    at true is_ = let same : given ≡ refusal = cc in ap Some same
    at false is_ = absurd cc
stopped_tells reply refusal is = absurd cc

stops_or : (reply : Reply) → stops reply ≡ true → flow reply ≡ GoesOn → ⊥
stops_or (replies.No (Engine given)) does goes = at (stops_run given) does goes
  where
    at : (b : Bool) → b ≡ true → (if b then Stops given else GoesOn) ≡ GoesOn → ⊥
    at true does_ goes_ = absurd cc
    at false does_ goes_ = absurd cc
stops_or reply does goes = absurd cc

-- ---- how a run goes on

goes_by : {K : Type 0} (n : SinkMeaning K) (mid now : K) (bytes least : List ℕ) (o : Opening) (after : Entries)
    (then_ : List Unfinished) (reply : Reply) (released : List Spoken) (e : TurnEnd) (failed : Option LinesEnd)
    (f : Flow) → f ≡ flow (last_reply reply released) → EndsAs o (Some e) reply released after then_
    → PrintsLine n mid now bytes least failed
    → GoesOnOr o after then_ reply released failed (end_or (end_of_turn e f) failed)
goes_by n mid now bytes least o after then_ reply released turn_ends.Whole None f is ends prints = (ends, refl)
goes_by n mid now bytes least o after then_ reply released turn_ends.Whole (Some Whole) f is ends prints = prints
goes_by n mid now bytes least o after then_ reply released turn_ends.Whole (Some (Stopped r)) f is ends prints = absurd prints
goes_by n mid now bytes least o after then_ reply released turn_ends.Whole (Some NoMemory) f is ends prints = tt
goes_by n mid now bytes least o after then_ reply released turn_ends.Whole (Some SinkFailed) f is ends prints = refl
goes_by n mid now bytes least o after then_ reply released turn_ends.InVain failed f is ends prints = absurd ends
goes_by n mid now bytes least o after then_ reply released turn_ends.NoRoom failed f is ends prints = tt
goes_by n mid now bytes least o after then_ reply released turn_ends.Stopped failed (Stops r) is ends prints = sym is
goes_by n mid now bytes least o after then_ reply released turn_ends.Stopped failed GoesOn is ends prints =
    absurd (stops_or (last_reply reply released) ends (sym is))

-- The answer that came last at a line is told on as the reason of the run's end, if it ends by it; else it is none by
-- which a run stops, and tells no fault.
account_by : {R P K : Type 0} (m : Means R P) (n : SinkMeaning K) (mid now : K) (bytes least : List ℕ) (old new : R)
    (reply : Reply) (e : TurnEnd) (failed : Option LinesEnd) (f : Flow) → f ≡ flow reply → StopsSo reply (Some e)
    → PrintsLine n mid now bytes least failed → Accounts m old new (refusal_answered reply)
    → Accounts m old new (reason_in (end_or (end_of_turn e f) failed))
account_by m n mid now bytes least old new reply e failed f is so prints a = by e f is so
  where
    -- no refusal is told
    untold : stops reply ≡ false → Accounts m old new None
    untold goes = untold_account m old new (refusal_answered reply) (goes_on_behind reply goes) a

    printed : stops reply ≡ false → (failed : Option LinesEnd) → PrintsLine n mid now bytes least failed
        → Accounts m old new (reason_in failed)
    printed goes None prints_ = untold goes
    printed goes (Some Whole) prints_ = absurd prints_
    printed goes (Some (Stopped r)) prints_ = absurd prints_
    printed goes (Some NoMemory) prints_ = untold goes
    printed goes (Some SinkFailed) prints_ = untold goes

    by : (e : TurnEnd) (f : Flow) → f ≡ flow reply → StopsSo reply (Some e)
        → Accounts m old new (reason_in (end_or (end_of_turn e f) failed))
    by turn_ends.Whole f is_ goes = printed goes failed prints
    by turn_ends.InVain f is_ goes = printed goes failed prints
    by turn_ends.NoRoom f is_ goes = untold goes
    by turn_ends.Stopped (Stops r) is_ so_ = subst (Accounts m old new) (stopped_tells reply r (sym is_)) a
    by turn_ends.Stopped GoesOn is_ so_ = printed (flow_goes reply (sym is_)) failed prints

-- ---- a line

module _ {R P Run K : Type 0} (m : Means R P) (runs : RunMeans R Run) (n : SinkMeaning K) (old new : R)
    (mid now : K) (line : Line) (reply : Reply) (released : List Spoken) (e : TurnEnd) (failed : Option LinesEnd)
    (prints : PrintsLine n mid now (turn_of line reply released) (fault_said line reply released) failed) (end : Option LinesEnd)
    (is : end ≡ end_or (end_of_turn e (flow (last_reply reply released))) failed) where
  pub taken_line : (o : Opening) (size : ℕ) (h : Entries) (us : List Unfinished) (all : List (Option Transaction))
      (ps : List (Pending Run)) (fine : Bool) → fine ≡ are_fine reply released
      → ComesTo m runs old new o h all ps (Turned o h size us line.kind reply released (Some e))
      → LineDone m runs n old new mid now o size h us line all ps end fine
  taken_line o size h us all ps fine fine_is comes = record {
    reply = reply;
    released = released;
    after = comes.after;
    then_ = comes.then_;
    acts = comes.does.acts;
    failed = failed;
    prints = prints;
    goes = subst (GoesOnOr o comes.after comes.then_ reply released failed) (sym is)
        (goes_by n mid now (turn_of line reply released) (fault_said line reply released) o comes.after comes.then_ reply released e failed
        (flow (last_reply reply released)) refl comes.does.ends prints);
    fine_is = fine_is;
    stand = comes.stand;
    carries = comes.carries;
  }

  pub taken_account : StopsSo (last_reply reply released) (Some e)
      → Accounts m old new (refusal_answered (last_reply reply released)) → Accounts m old new (reason_in end)
  taken_account so a = subst (λ (x : Option LinesEnd). Accounts m old new (reason_in x)) (sym is)
      (account_by m n mid now (turn_of line reply released) (fault_said line reply released) old new (last_reply reply released) e failed
      (flow (last_reply reply released)) refl so prints a)

-- a line that is obeyed has a letter where it needs one
pub obeyable_lettered : (kind : LineKind) → IsObeyable kind → HasLetter kind
obeyable_lettered (kinds.Sql session text) may = may
obeyable_lettered (kinds.Held session text) may = may.0
obeyable_lettered (kinds.Step session most) may = may.0
obeyable_lettered (kinds.Go session) may = may
obeyable_lettered (kinds.Write most) may = tt
obeyable_lettered kinds.Collect may = tt
obeyable_lettered (kinds.Sweep most) may = tt
obeyable_lettered (kinds.Prepare session) may = tt
obeyable_lettered (kinds.Put key value) may = tt
obeyable_lettered (kinds.Get key) may = tt
obeyable_lettered kinds.Silent may = tt
obeyable_lettered kinds.Bad may = tt

-- ---- lines of forms that are not obeyed

pub read_known : (line : Line) → is_known line.kind ≡ true → line ≡ read_as line
read_known line known = rw known refl

pub read_unknown : (line : Line) → is_known line.kind ≡ false → bad_line line.number ≡ read_as line
read_unknown line known = rw known refl
