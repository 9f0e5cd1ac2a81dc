-- What a line does, and which statements that waited go on at it.
use Rattle.std.specs.Prelude.{◌≡◌, ℕ, ℤ, Bool, true, false, List, [], ◌∷◌, ◌++◌, Some, None}
use Rattle.mg_base.specs.declared.numbers.TxNo.{TxNo}
use Rattle.mg_statements.specs.declared.fault.SqlFault.{SqlFault}
use Rattle.mg_statements.specs.declared.fault.SqlFault.TheVariants as texts
use Rattle.mg_sql.specs.Answers.{Parses, FaultIn}
use Rattle.mg_statements.specs.Plain.{Plain, SetTransaction}
use Rattle.mg_model.specs.declared.answer.Answer.{Answer}
use Rattle.mg_model.specs.declared.answer.Answer.TheVariants as answers
use Rattle.mg_model.specs.declared.event.Event.TheVariants as events
use Rattle.mg_model.specs.declared.event.Mode.{Mode}
use Rattle.mg_model.specs.declared.opening.Opening.{Opening}
use Rattle.mg_model.specs.declared.refusal.Refusal.{Refusal}
use Rattle.mg_model.specs.declared.refusal.Refusal.TheVariants as refusals
use Rattle.mg_model.specs.History.{Entries, entry}
use Rattle.mg_model.specs.Legal.{IsLawful}
use Rattle.mg_rows.specs.declared.outcome.Outcome.TheVariants as outcomes
use Rattle.mg_rows.specs.declared.statement_fault.StatementFault.{StatementFault}
use Rattle.mg_rows.specs.declared.statement_fault.StatementFault.TheVariants.{Engine, Busy, InTransaction, NothingHeld}
use Rattle.mg_rows.specs.Faults.{of_sql}
use Rattle.mg_script.specs.declared.line.LineKind.{LineKind}
use Rattle.mg_script.specs.declared.line.LineKind.TheVariants as kinds
use Rattle.mg_script.specs.declared.line.Session.{Session}
use Rattle.mg_script.specs.declared.reply.Reply.{Reply}
use Rattle.mg_script.specs.declared.reply.Reply.TheVariants as replies
use Rattle.mg_transcript.specs.declared.turn.Spoken.{Spoken}
use Rattle.mg_transcript.specs.Courses.{Comes, Later, reply_of}
use Rattle.mg_transcript.specs.Steps.{Starts, Runs, Takes, is_outside, reply_to}
use Rattle.mg_transcript.specs.Sessions.{Unfinished, transaction_of, kept, is_busy, all_stay, Holds, IsFirstReleased}
use Rattle.mg_transcript.specs.Shorthand.{InTransactionOfItsOwn, Puts, Gets, putting, getting, stops_by}

-- ---- the statement of a session

-- the mode of a transaction that is begun so
abbrev pub mode_with : Bool → Bool → Bool → Mode
mode_with read_only wait snapshot =
    record { read_only = read_only; wait = wait; snapshot = snapshot }

-- it begins a transaction
abbrev pub begins : Plain → Bool
begins (SetTransaction read_only wait snapshot) = true
begins s = false

-- A text is read as a statement, or refused with its fault, or memory is short.
abbrev pub RefusesText : List ℕ → SqlFault → Type 0
RefusesText text texts.Memory = Unit {0}
RefusesText text fault = FaultIn text fault

-- Why a statement of a session gives no event, in the order of the tests: the session has one that is
-- held or waits; the text is no statement; it would begin a second transaction, or has none.
pub data Declines (o : Opening) (h : Entries) (pending : List Unfinished) (session : Session)
    (text : List ℕ) : StatementFault → Type 0 where
  busy : is_busy session pending ≡ true → Declines o h pending session text Busy
  no_statement : (fault : SqlFault) → is_busy session pending ≡ false → RefusesText text fault
      → Declines o h pending session text (of_sql fault)
  has_one : (s : Plain) (t : TxNo) → is_busy session pending ≡ false → Parses text s
      → begins s ≡ true → transaction_of o h session.0 ≡ Some t
      → Declines o h pending session text InTransaction
  has_none : (s : Plain) → is_busy session pending ≡ false → Parses text s → begins s ≡ false
      → transaction_of o h session.0 ≡ None
      → Declines o h pending session text (Engine refusals.NoTransaction)

-- the text is a statement of the session's transaction, which has none that is held or waits
pub record IsFor (o : Opening) (h : Entries) (pending : List Unfinished) (session : Session)
    (text : List ℕ) (t : TxNo) (s : Plain) : Type 0 where
  pub free : is_busy session pending ≡ false
  pub parses : Parses text s
  pub of_transaction : begins s ≡ false
  pub its : transaction_of o h session.0 ≡ Some t

-- ---- a line

-- it is about pages alone
abbrev pub tends_pages : LineKind → Bool
tends_pages (kinds.Write most) = true
tends_pages kinds.Collect = true
tends_pages (kinds.Sweep most) = true
tends_pages kind = false

-- What a line itself does after a history, with what it is answered, and which statements there are
-- then that go on later.
pub data Does (o : Opening) (h : Entries) (size : ℕ) (pending : List Unfinished)
    : LineKind → Reply → Entries → List Unfinished → Type 0 where
  -- memory is short before anything is done
  wants_memory : (kind : LineKind)
      → Does o h size pending kind (replies.No (Engine refusals.Memory)) h pending
  silent : Does o h size pending kinds.Silent (replies.Ok outcomes.Fine) h pending
  bad : Does o h size pending kinds.Bad replies.Bad h pending
  -- `A: sql`
  declines : (session : Session) (text : List ℕ) (fault : StatementFault)
      → Declines o h pending session text fault
      → Does o h size pending (kinds.Sql session text) (replies.No fault) h pending
  begins_one : (session : Session) (text : List ℕ) (read_only wait snapshot : Bool) (answer : Answer)
      → is_busy session pending ≡ false → Parses text (SetTransaction read_only wait snapshot)
      → transaction_of o h session.0 ≡ None
      → IsLawful o h (entry (events.Begin session.0 (mode_with read_only wait snapshot)) answer)
      → Does o h size pending (kinds.Sql session text) (reply_to answer)
      (entry (events.Begin session.0 (mode_with read_only wait snapshot)) answer ∷ h) pending
  runs : (session : Session) (text : List ℕ) (t : TxNo) (s : Plain) (mid after : Entries)
      (begun comes : Comes) → IsFor o h pending session text t s → Starts o h t size s mid begun
      → Runs o t mid begun after comes
      → Does o h size pending (kinds.Sql session text) (reply_of comes) after (kept session t comes pending)
  -- `A~ sql`
  declines_held : (session : Session) (text : List ℕ) (fault : StatementFault)
      → Declines o h pending session text fault
      → Does o h size pending (kinds.Held session text) (replies.No fault) h pending
  holds : (session : Session) (text : List ℕ) (t : TxNo) (s : Plain) (after : Entries) (comes : Comes)
      → IsFor o h pending session text t s → Starts o h t size s after comes
      → Does o h size pending (kinds.Held session text) (reply_of comes) after (kept session t comes pending)
  -- `@step A n`, `@go A`
  steps_none : (session : Session) (most : ℕ)
      → ((u : Unfinished) (others : List Unfinished) → Holds pending session u others → ⊥)
      → Does o h size pending (kinds.Step session most) (replies.No NothingHeld) h pending
  goes_none : (session : Session)
      → ((u : Unfinished) (others : List Unfinished) → Holds pending session u others → ⊥)
      → Does o h size pending (kinds.Go session) (replies.No NothingHeld) h pending
  steps_on : (session : Session) (most : ℕ) (u : Unfinished) (others : List Unfinished)
      (after : Entries) (comes : Comes) → Holds pending session u others
      → Takes o u.transaction most h (Later u.course) after comes
      → Does o h size pending (kinds.Step session most) (reply_of comes) after
      (kept session u.transaction comes others)
  goes_on : (session : Session) (u : Unfinished) (others : List Unfinished) (after : Entries)
      (comes : Comes) → Holds pending session u others
      → Runs o u.transaction h (Later u.course) after comes
      → Does o h size pending (kinds.Go session) (reply_of comes) after
      (kept session u.transaction comes others)
  -- `@put`, `@get`
  puts : (key value : ℤ) (after : Entries) (reply : Reply)
      → InTransactionOfItsOwn o h putting (Puts o key value) after reply
      → Does o h size pending (kinds.Put key value) reply after pending
  gets : (key : ℤ) (after : Entries) (reply : Reply)
      → InTransactionOfItsOwn o h getting (Gets o key size) after reply
      → Does o h size pending (kinds.Get key) reply after pending
  -- `@prepare A`
  prepares_busy : (session : Session) → is_busy session pending ≡ true
      → Does o h size pending (kinds.Prepare session) (replies.No Busy) h pending
  prepares_none : (session : Session) → is_busy session pending ≡ false
      → transaction_of o h session.0 ≡ None
      → Does o h size pending (kinds.Prepare session) (replies.No (Engine refusals.NoTransaction)) h pending
  prepares : (session : Session) (t : TxNo) → is_busy session pending ≡ false
      → transaction_of o h session.0 ≡ Some t
      → IsLawful o h (entry (events.Prepare t) answers.Fine)
      → Does o h size pending (kinds.Prepare session) (replies.Tx t)
      (entry (events.Prepare t) answers.Fine ∷ h) pending
  prepares_not : (session : Session) (t : TxNo) (refusal : Refusal) → is_busy session pending ≡ false
      → transaction_of o h session.0 ≡ Some t
      → IsLawful o h (entry (events.Prepare t) (answers.No refusal))
      → Does o h size pending (kinds.Prepare session) (replies.No (Engine refusal))
      (entry (events.Prepare t) (answers.No refusal) ∷ h) pending
  -- a page for it is refused
  prepares_no_page : (session : Session) (t : TxNo) (refusal : Refusal) → is_busy session pending ≡ false
      → transaction_of o h session.0 ≡ Some t → is_outside refusal ≡ true
      → Does o h size pending (kinds.Prepare session) (replies.No (Engine refusal)) h pending
  -- `@write n`, `@collect`, `@sweep n`: they give no event
  tends : (kind : LineKind) → tends_pages kind ≡ true
      → Does o h size pending kind (replies.Ok outcomes.Fine) h pending
  tends_not : (kind : LineKind) (refusal : Refusal) → tends_pages kind ≡ true
      → is_outside refusal ≡ true
      → Does o h size pending kind (replies.No (Engine refusal)) h pending

-- ---- the statements that go on at it

-- the run stops by an answer
abbrev pub stops : Reply → Bool
stops (replies.No fault) = stops_by fault
stops reply = false

-- the answer that came last at a line
abbrev pub last_reply : Reply → List Spoken → Reply
last_reply reply [] = reply
last_reply reply (spoken ∷ more) = last_reply spoken.reply more

abbrev pub speaks : Session → Reply → Spoken
speaks session reply = record { session = session; reply = reply }

-- What comes at a line: what it does itself; and then, one after another, the first of the statements
-- whose waiting is over goes on, until it waits again or is at its end.
pub data Acts (o : Opening) (h : Entries) (size : ℕ) (pending : List Unfinished) (kind : LineKind)
    : Reply → List Spoken → Entries → List Unfinished → Type 0 where
  itself : (reply : Reply) (after : Entries) (then_ : List Unfinished)
      → Does o h size pending kind reply after then_ → Acts o h size pending kind reply [] after then_
  released : (reply : Reply) (released : List Spoken) (mid after : Entries) (now : List Unfinished)
      (u : Unfinished) (others : List Unfinished) (comes : Comes)
      → Acts o h size pending kind reply released mid now
      → stops (last_reply reply released) ≡ false
      → IsFirstReleased o mid now u others
      → Runs o u.transaction mid (Later u.course) after comes
      → Acts o h size pending kind reply (released ++ speaks u.session (reply_of comes) ∷ []) after
      (kept u.session u.transaction comes others)

-- all is done that comes at a line: the run does not stop, and no further statement goes on
pub record IsWhole (o : Opening) (after : Entries) (pending : List Unfinished) (reply : Reply)
    (released : List Spoken) : Type 0 where
  pub flows : stops (last_reply reply released) ≡ false
  pub all_wait : all_stay o after pending ≡ true
