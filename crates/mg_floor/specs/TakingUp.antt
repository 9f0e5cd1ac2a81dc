-- What becomes of a line that a session takes up.
use Rattle.std.specs.Prelude.{◌≡◌, ℕ, Bool, List, ◌∷◌, None, false}
use Rattle.mg_base.specs.declared.numbers.TxNo.{TxNo}
use Rattle.mg_model.specs.declared.answer.Answer.{Answer}
use Rattle.mg_model.specs.declared.event.Event.TheVariants as events
use Rattle.mg_model.specs.declared.opening.Opening.{Opening}
use Rattle.mg_model.specs.declared.refusal.Refusal.TheVariants as refusals
use Rattle.mg_model.specs.History.{Entries, entry}
use Rattle.mg_model.specs.Legal.{IsLawful}
use Rattle.mg_rows.specs.declared.statement_fault.StatementFault.{StatementFault}
use Rattle.mg_rows.specs.declared.statement_fault.StatementFault.TheVariants.{Engine}
use Rattle.mg_script.specs.declared.line.Session.{Session}
use Rattle.mg_script.specs.declared.reply.Reply.{Reply}
use Rattle.mg_script.specs.declared.reply.Reply.TheVariants as replies
use Rattle.mg_sql.specs.Answers.{Parses}
use Rattle.mg_statements.specs.Plain.{Plain, SetTransaction}
use Rattle.mg_transcript.specs.Courses.{Comes, reply_of}
use Rattle.mg_transcript.specs.Lines.{Declines, IsFor, mode_with}
use Rattle.mg_transcript.specs.Sessions.{Unfinished, is_busy, kept, transaction_of}
use Rattle.mg_transcript.specs.Steps.{Starts, reply_to}

-- Its text gives no event, or memory is short; or it begins a transaction; or its statement begins.
pub data TakesUp (o : Opening) (h : Entries) (size : ℕ) (pending : List Unfinished) (session : Session) (text : List ℕ)
    : Reply → Entries → List Unfinished → Type 0 where
  wants_memory : TakesUp o h size pending session text (replies.No (Engine refusals.Memory)) h pending
  declines : (fault : StatementFault) → Declines o h pending session text fault
      → TakesUp o h size pending session text (replies.No fault) h pending
  begins_one : (read_only wait snapshot : Bool) (answer : Answer) → is_busy session pending ≡ false
      → Parses text (SetTransaction read_only wait snapshot) → transaction_of o h session.0 ≡ None
      → IsLawful o h (entry (events.Begin session.0 (mode_with read_only wait snapshot)) answer)
      → TakesUp o h size pending session text (reply_to answer)
      (entry (events.Begin session.0 (mode_with read_only wait snapshot)) answer ∷ h) pending
  starts : (t : TxNo) (s : Plain) (after : Entries) (comes : Comes) → IsFor o h pending session text t s
      → Starts o h t size s after comes
      → TakesUp o h size pending session text (reply_of comes) after (kept session t comes pending)
