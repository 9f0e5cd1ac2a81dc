-- Lists of statements that go on later.
use Rattle.std.specs.Prelude.{◌≡◌, ◌<◌, ◌+◌, ◌==◌, ◌&&◌, ℕ, Bool, true, false, not, List, [], ◌∷◌, ◌++◌, length, set, slice_index_or, Option, Some, None, if◌then◌else◌}
use Rattle.std.specs.List.{list_any}
use Rattle.std.specs.Option.{is_none}
use Rattle.mg_base.specs.declared.numbers.TxNo.{TxNo}
use Rattle.mg_model.specs.declared.refusal.Refusal.TheVariants as refusals
use Rattle.mg_rows.specs.declared.statement_fault.StatementFault.TheVariants.{Engine}
use Rattle.mg_script.specs.declared.line.Session.{Session}
use Rattle.mg_script.specs.declared.reply.Reply.{Reply}
use Rattle.mg_script.specs.declared.reply.Reply.TheVariants as replies
use Rattle.mg_courses.specs.declared.statements.Stepped.{Stepped}
use Rattle.mg_courses.specs.declared.statements.Stepped.TheVariants.{More, Waits, Ended}
use Rattle.mg_courses.specs.declared.work.Work.{Work}
use Rattle.mg_pending.specs.declared.pending.Pending.{Pending}
use Rattle.mg_pending.specs.declared.transactions.Transaction.{Transaction}
use Rattle.mg_pending.specs.Transactions.{has_number}

-- ---- which statement is whose

-- a session has a statement that is held or waits
abbrev pub is_its : {Run : Type 0} → ℕ → Pending Run → Bool
is_its session p = p.session.0 == session

abbrev pub has_statement : {Run : Type 0} → ℕ → List (Pending Run) → Bool
has_statement session pending = list_any (is_its session) pending

-- it holds this one
abbrev pub is_held_by : {Run : Type 0} → ℕ → Pending Run → Bool
is_held_by session p = p.session.0 == session && is_none p.waits_on

-- what it waits for, if it waits, is no live transaction
abbrev pub is_over : List (Option Transaction) → Option TxNo → Bool
is_over all None = false
is_over all (Some on) = not (has_number all on.0)

abbrev pub is_released : {Run : Type 0} → List (Option Transaction) → Pending Run → Bool
is_released all p = is_over all p.waits_on

-- how many are released
abbrev pub released_count : {Run : Type 0} → List (Option Transaction) → List (Pending Run) → ℕ
released_count all [] = 0
released_count all (p ∷ pending) =
    if is_released all p then released_count all pending + 1 else released_count all pending

-- each session has one at most
abbrev pub AreApart : {Run : Type 0} → List (Pending Run) → Type 0
AreApart [] = Unit {0}
AreApart (p ∷ pending) = (has_statement p.session.0 pending ≡ false) × AreApart pending

-- ---- searches

-- a place is the first one that passes a test
pub record IsFirstAt {A : Type 0} (test : A → Bool) (xs : List A) (place : ℕ) : Type 0 where
  pub inside : place < length xs
  pub passes : (d : A) → test (slice_index_or xs place d) ≡ true
  pub before : (k : ℕ) (d : A) → k < place → test (slice_index_or xs k d) ≡ false

-- no place passes it
abbrev pub PassesNowhere : {A : Type 0} → (A → Bool) → List A → Type 0
PassesNowhere {A = A} test xs = (k : ℕ) (d : A) → k < length xs → test (slice_index_or xs k d) ≡ false

-- ---- what becomes of a statement

-- what a statement came to is answered
abbrev pub reply_of_step : Stepped → Reply
reply_of_step More = replies.Held
reply_of_step (Waits on) = replies.No (Engine (refusals.Waits on))
reply_of_step (Ended ending) = ending.reply

-- the transactions, where the one of the session may be over
abbrev pub transactions_after : ℕ → Stepped → List (Option Transaction) → List (Option Transaction)
transactions_after session More all = all
transactions_after session (Waits on) all = all
transactions_after session (Ended ending) all = if ending.over then set all session None else all

abbrev pub pending_of : {Run : Type 0} → Session → TxNo → Work Run → Option TxNo → Pending Run
pending_of session t work on =
    record { session = session; transaction = t; work = work; waits_on = on }

-- the statements, where this one goes on later behind the others, or is at its end
abbrev pub pending_after : {Run : Type 0} → Session → TxNo → Work Run → Stepped → List (Pending Run)
    → List (Pending Run)
pending_after session t work More pending = pending ++ pending_of session t work None ∷ []
pending_after session t work (Waits on) pending = pending ++ pending_of session t work (Some on) ∷ []
pending_after session t work (Ended ending) pending = pending
