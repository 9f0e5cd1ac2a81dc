-- The history of sessions that obey their scripts at once.
use Rattle.std.specs.Prelude.{◌≡◌, ◌==◌, ℕ, Bool, true, false, List, [], ◌∷◌, Some, None}
use Rattle.mg_base.specs.declared.numbers.TxNo.{TxNo}
use Rattle.mg_model.specs.declared.answer.Answer.{Answer}
use Rattle.mg_model.specs.declared.answer.Answer.TheVariants as answers
use Rattle.mg_model.specs.declared.event.Event.TheVariants as events
use Rattle.mg_model.specs.declared.opening.Opening.{Opening}
use Rattle.mg_model.specs.declared.refusal.Refusal.{Refusal}
use Rattle.mg_model.specs.Answers.{is_active}
use Rattle.mg_model.specs.History.{Entries, entry}
use Rattle.mg_model.specs.Legal.{IsLawful}
use Rattle.mg_model.specs.Machine.{state_of}
use Rattle.mg_records.specs.TakingBack.{after_refusal}
use Rattle.mg_rows.specs.declared.statement_fault.StatementFault.{StatementFault}
use Rattle.mg_rows.specs.declared.statement_fault.StatementFault.TheVariants.{Engine}
use Rattle.mg_script.specs.declared.line.LineKind.TheVariants as kinds
use Rattle.mg_script.specs.declared.line.Session.{Session}
use Rattle.mg_script.specs.declared.reply.Reply.TheVariants as replies
use Rattle.mg_sql.specs.Answers.{Parses}
use Rattle.mg_statements.specs.Plain.{Plain, SetTransaction}
use Rattle.mg_transcript.specs.Courses.{Comes, Later, Parks, Ends}
use Rattle.mg_transcript.specs.Lines.{Declines, IsFor, mode_with}
use Rattle.mg_transcript.specs.Sessions.{StandsAmong, Unfinished, is_busy, is_over, transaction_of}
use Rattle.mg_transcript.specs.Steps.{Starts, Steps, reply_to}
use Rattle.mg_interleavings.specs.declared.answered.Answered.{Answered}
use Rattle.mg_interleavings.specs.declared.answered.Answered.TheVariants.{LockTimeout, Replied}
use Rattle.mg_interleavings.specs.Standings.{IsAt, Scripts, Standing, answered, at_start, came_to, passed, with_pending}

-- a statement has come to wait for this transaction
abbrev pub waits_for : TxNo → Comes → Bool
waits_for on (Later course) = false
waits_for on (Parks other course) = other.0 == on.0
waits_for on (Ends reply) = false

-- A statement of t that has waited too long for a transaction is given up: all since its mark is taken back. Where that is
-- refused, this is what it is answered, and the transaction is rolled back where the refusal is one that gives it up.
pub data TimesOut (o : Opening) (h : Entries) (t on : TxNo) : Entries → Answered → Type 0 where
  taken_back : IsLawful o h (entry (events.UndoMark t) answers.Fine)
      → TimesOut o h t on (entry (events.UndoMark t) answers.Fine ∷ h) (LockTimeout on)
  given_up : (later : Refusal) → IsLawful o h (entry (events.UndoMark t) (answers.No later))
      → TimesOut o h t on (after_refusal o h t (events.UndoMark t) later) (Replied (replies.No (Engine later)))

-- Sessions have come so far, and this is the history of what they did: one session after another makes a step, in any
-- order. None takes a line while a statement of it has begun that is not at its end, and behind an answer by which the
-- run stops no step is made.
pub data Interleaves (o : Opening) (size : ℕ) (scripts : Scripts) : Standing → Entries → Type 0 where
  begins : Interleaves o size scripts (at_start scripts) []
  -- ---- a line
  -- it prints nothing
  passes : (standing : Standing) (h : Entries) (session : Session) → Interleaves o size scripts standing h → standing.stopped ≡ false
      → IsAt scripts standing session kinds.Silent → is_busy session standing.pending ≡ false
      → Interleaves o size scripts (passed standing session) h
  -- it gives no event
  declines : (standing : Standing) (h : Entries) (session : Session) (text : List ℕ) (fault : StatementFault)
      → Interleaves o size scripts standing h → standing.stopped ≡ false → IsAt scripts standing session (kinds.Sql session text)
      → is_busy session standing.pending ≡ false → Declines o h standing.pending session text fault
      → Interleaves o size scripts (answered standing session (Replied (replies.No fault))) h
  -- it begins a transaction
  begins_one : (standing : Standing) (h : Entries) (session : Session) (text : List ℕ) (read_only wait snapshot : Bool)
      (answer : Answer) → Interleaves o size scripts standing h → standing.stopped ≡ false
      → IsAt scripts standing session (kinds.Sql session text) → is_busy session standing.pending ≡ false
      → Parses text (SetTransaction read_only wait snapshot) → transaction_of o h session.0 ≡ None
      → IsLawful o h (entry (events.Begin session.0 (mode_with read_only wait snapshot)) answer)
      → Interleaves o size scripts (answered standing session (Replied (reply_to answer)))
      (entry (events.Begin session.0 (mode_with read_only wait snapshot)) answer ∷ h)
  -- its statement begins
  starts : (standing : Standing) (h after : Entries) (session : Session) (text : List ℕ) (t : TxNo) (s : Plain)
      (comes : Comes) → Interleaves o size scripts standing h → standing.stopped ≡ false
      → IsAt scripts standing session (kinds.Sql session text) → IsFor o h standing.pending session text t s
      → Starts o h t size s after comes
      → Interleaves o size scripts (came_to standing standing.pending session t comes) after
  -- ---- a statement that has begun
  -- it takes a step
  steps : (standing : Standing) (h after : Entries) (u : Unfinished) (others : List Unfinished) (comes : Comes)
      → Interleaves o size scripts standing h → standing.stopped ≡ false → StandsAmong standing.pending u others → u.waits_on ≡ None
      → Steps o h u.transaction u.course after comes
      → Interleaves o size scripts (came_to standing others u.session u.transaction comes) after
  -- what it waited for is over, and it takes a step
  goes_on : (standing : Standing) (h after : Entries) (u : Unfinished) (others : List Unfinished) (comes : Comes)
      → Interleaves o size scripts standing h → standing.stopped ≡ false → StandsAmong standing.pending u others
      → is_over o h u.waits_on ≡ true → Steps o h u.transaction u.course after comes
      → Interleaves o size scripts (came_to standing others u.session u.transaction comes) after
  -- it is not, and the statement, tried once more, does not come to wait for it again
  tries_again : (standing : Standing) (h after : Entries) (u : Unfinished) (others : List Unfinished) (on : TxNo)
      (comes : Comes) → Interleaves o size scripts standing h → standing.stopped ≡ false → StandsAmong standing.pending u others
      → u.waits_on ≡ Some on → is_active (state_of o h on.0) ≡ true
      → Steps o h u.transaction u.course after comes → waits_for on comes ≡ false
      → Interleaves o size scripts (came_to standing others u.session u.transaction comes) after
  -- or it does, and has waited too long
  times_out : (standing : Standing) (h mid after : Entries) (u : Unfinished) (others : List Unfinished) (on : TxNo)
      (comes : Comes) (answer : Answered) → Interleaves o size scripts standing h → standing.stopped ≡ false
      → StandsAmong standing.pending u others → u.waits_on ≡ Some on → is_active (state_of o h on.0) ≡ true
      → Steps o h u.transaction u.course mid comes → waits_for on comes ≡ true
      → TimesOut o mid u.transaction on after answer
      → Interleaves o size scripts (answered (with_pending standing others) u.session answer) after
