-- The transaction of a session, and the statements that have begun and are not at their end.
use Rattle.std.specs.Prelude.{◌≡◌, ◌==◌, ℕ, Bool, true, false, not, List, [], ◌∷◌, ◌++◌, Option, Some, None, if◌then◌else◌}
use Rattle.std.specs.List.{list_any}
use Rattle.mg_base.specs.declared.numbers.TxNo.{TxNo}
use Rattle.mg_model.specs.declared.answer.Answer.{Answer}
use Rattle.mg_model.specs.declared.answer.Answer.TheVariants.{Tx}
use Rattle.mg_model.specs.declared.event.Event.{Event}
use Rattle.mg_model.specs.declared.event.Event.TheVariants.{Begin}
use Rattle.mg_model.specs.declared.opening.Opening.{Opening}
use Rattle.mg_model.specs.Answers.{is_active}
use Rattle.mg_model.specs.History.{Entries}
use Rattle.mg_model.specs.Machine.{state_of}
use Rattle.mg_script.specs.declared.line.Session.{Session}
use Rattle.mg_transcript.specs.Courses.{Course, Comes, Later, Parks, Ends}

-- ---- transactions

-- the transaction that a session began last, after an event with its answer
abbrev pub begun_after : Event → Answer → ℕ → Option TxNo → Option TxNo
begun_after (Begin session mode) (Tx t) s before = if session == s then Some t else before
begun_after event answer s before = before

abbrev pub last_begun : Entries → ℕ → Option TxNo
last_begun [] s = None
last_begun (e ∷ h) s = begun_after e.event e.answer s (last_begun h s)

-- a transaction, as long as it is active
abbrev pub while_active : Opening → Entries → Option TxNo → Option TxNo
while_active o h None = None
while_active o h (Some t) = if is_active (state_of o h t.0) then Some t else None

-- the transaction of a session: the one that it began last, as long as that is active
abbrev pub transaction_of : Opening → Entries → ℕ → Option TxNo
transaction_of o h s = while_active o h (last_begun h s)

-- ---- statements that go on later

-- A statement of a session's transaction that is held, or waits for a transaction.
pub record Unfinished : Type 0 where
  pub session : Session
  pub transaction : TxNo
  pub course : Course
  pub waits_on : Option TxNo

abbrev pub unfinished : Session → TxNo → Course → Option TxNo → Unfinished
unfinished session t course on =
    record { session = session; transaction = t; course = course; waits_on = on }

-- a statement that goes on later comes behind the others: so those that wait stand in the order in
-- which they came to wait
abbrev pub kept : Session → TxNo → Comes → List Unfinished → List Unfinished
kept session t (Later course) pending = pending ++ unfinished session t course None ∷ []
kept session t (Parks on course) pending = pending ++ unfinished session t course (Some on) ∷ []
kept session t (Ends reply) pending = pending

-- a statement is this session's
abbrev pub is_of_session : Session → Unfinished → Bool
is_of_session session u = u.session.0 == session.0

-- a session has a statement that is held or waits
abbrev pub is_busy : Session → List Unfinished → Bool
is_busy session pending = list_any (is_of_session session) pending

-- what a statement waits for is over: the transaction is no longer active
abbrev pub is_over : Opening → Entries → Option TxNo → Bool
is_over o h None = false
is_over o h (Some on) = not (is_active (state_of o h on.0))

-- none of these statements can go on by itself
abbrev pub all_stay : Opening → Entries → List Unfinished → Bool
all_stay o h pending = not (list_any (λ u. is_over o h u.waits_on) pending)

-- of some statements this one stands between others
pub record StandsAmong (pending : List Unfinished) (u : Unfinished) (others : List Unfinished) : Type 0 where
  pub before : List Unfinished
  pub behind : List Unfinished
  pub are : pending ≡ before ++ u ∷ behind
  pub left : others ≡ before ++ behind

-- a session holds this statement
pub record Holds (pending : List Unfinished) (session : Session) (u : Unfinished)
    (others : List Unfinished) : Type 0 where
  pub among : StandsAmong pending u others
  pub its : u.session ≡ session
  pub held : u.waits_on ≡ None

-- it is the first of those whose waiting is over
pub record IsFirstReleased (o : Opening) (h : Entries) (pending : List Unfinished) (u : Unfinished)
    (others : List Unfinished) : Type 0 where
  pub among : StandsAmong pending u others
  pub earlier : all_stay o h among.before ≡ true
  pub over : is_over o h u.waits_on ≡ true
