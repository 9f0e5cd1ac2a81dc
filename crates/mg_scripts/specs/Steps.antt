-- What comes of one line.
use Rattle.std.specs.Prelude.{◌≡◌, ◌&&◌, ℕ, Bool, List, Option, None, Some}
use Rattle.std.specs.List.{list_all}
use Rattle.mg_base.specs.Streams.{SinkMeaning}
use Rattle.mg_model.specs.declared.opening.Opening.{Opening}
use Rattle.mg_model.specs.declared.refusal.Refusal.{Refusal}
use Rattle.mg_model.specs.History.{Entries}
use Rattle.mg_records.specs.Meaning.{Means}
use Rattle.mg_script.specs.declared.line.Line.{Line}
use Rattle.mg_script.specs.declared.reply.Reply.{Reply}
use Rattle.mg_transcript.specs.declared.turn.Flow.{Flow}
use Rattle.mg_transcript.specs.declared.turn.Flow.TheVariants.{GoesOn, Stops}
use Rattle.mg_transcript.specs.declared.turn.Spoken.{Spoken}
use Rattle.mg_transcript.specs.Lines.{Acts, IsWhole, last_reply}
use Rattle.mg_transcript.specs.Sessions.{Unfinished}
use Rattle.mg_transcript.specs.Transcript.{fine, flow, turn_of}
use Rattle.mg_courses.specs.Carrying.{Carries}
use Rattle.mg_courses.specs.Running.{RunMeans}
use Rattle.mg_pending.specs.declared.pending.Pending.{Pending}
use Rattle.mg_pending.specs.declared.transactions.Transaction.{Transaction}
use Rattle.mg_pending.specs.Standing.{StandAt}
use Rattle.mg_turns.specs.declared.turn.TurnEnd.{TurnEnd}
use Rattle.mg_turns.specs.declared.turn.TurnEnd.TheVariants as turn_ends
use Rattle.mg_scripts.specs.FaultLines.{fault_said}
use Rattle.mg_scripts.specs.Printing.{PrintsLine}
use Rattle.mg_scripts.specs.declared.lines.LinesEnd.{LinesEnd}
use Rattle.mg_scripts.specs.declared.lines.LinesEnd.TheVariants.{Whole, Stopped, NoMemory, SinkFailed}

-- how a run ends behind an answer, if it does
abbrev pub stop_by : Flow → Option LinesEnd
stop_by (Stops refusal) = Some (Stopped refusal)
stop_by GoesOn = None

-- how a run ends by the turn of a line, if it does
abbrev pub end_of_turn : TurnEnd → Flow → Option LinesEnd
end_of_turn turn_ends.Whole flow = None
end_of_turn turn_ends.InVain flow = None
end_of_turn turn_ends.NoRoom flow = Some NoMemory
end_of_turn turn_ends.Stopped flow = stop_by flow

-- by that, or else by what came of its printing
abbrev pub end_or : Option LinesEnd → Option LinesEnd → Option LinesEnd
end_or None failed = failed
end_or (Some end) failed = Some end

-- each answer at a line is Ok
abbrev pub are_fine : Reply → List Spoken → Bool
are_fine reply released = fine reply && list_all (λ spoken. fine spoken.reply) released

-- the refusal by which a run has ended
abbrev pub reason : LinesEnd → Option Refusal
reason Whole = None
reason (Stopped refusal) = Some refusal
reason NoMemory = None
reason SinkFailed = None

abbrev pub reason_in : Option LinesEnd → Option Refusal
reason_in None = None
reason_in (Some end) = reason end

-- The run goes on behind a line that was obeyed to its end and printed; or it ends so.
abbrev pub GoesOnOr : Opening → Entries → List Unfinished → Reply → List Spoken → Option LinesEnd → Option LinesEnd
    → Type 0
GoesOnOr o after then_ reply released failed None = IsWhole o after then_ reply released × (failed ≡ None)
GoesOnOr o after then_ reply released failed (Some Whole) = ⊥
GoesOnOr o after then_ reply released failed (Some (Stopped refusal)) = flow (last_reply reply released) ≡ Stops refusal
GoesOnOr o after then_ reply released failed (Some NoMemory) = Unit {0}
GoesOnOr o after then_ reply released failed (Some SinkFailed) = failed ≡ Some SinkFailed

-- A line was obeyed and printed.
pub record LineDone {R P Run K : Type 0} (m : Means R P) (runs : RunMeans R Run) (n : SinkMeaning K) (old new : R)
    (before now : K) (o : Opening) (size : ℕ) (h : Entries) (us : List Unfinished) (line : Line)
    (all : List (Option Transaction)) (ps : List (Pending Run)) (end : Option LinesEnd) (is_fine : Bool) : Type 0 where
  pub reply : Reply
  pub released : List Spoken
  pub after : Entries
  pub then_ : List Unfinished
  pub acts : Acts o h size us line.kind reply released after then_
  pub failed : Option LinesEnd
  pub prints : PrintsLine n before now (turn_of line reply released) (fault_said line reply released) failed
  pub goes : GoesOnOr o after then_ reply released failed end
  pub fine_is : is_fine ≡ are_fine reply released
  pub stand : StandAt m runs new o after all ps then_
  pub carries : Carries m old new o h after
