-- The events that a statement gives, step by step, and what becomes of it: the step begins after one
-- history and ends with another one.
use Rattle.std.specs.Prelude.{◌≡◌, ◌≤◌, ◌+◌, ℕ, suc, Bool, true, false, List, [], ◌∷◌, length, Option, Some, None, Result, Ok, Err}
use Rattle.mg_base.specs.declared.numbers.TxNo.{TxNo}
use Rattle.mg_value.specs.declared.shape.Shape.{Shape}
use Rattle.mg_expr.specs.declared.expr.Expr.{Expr}
use Rattle.mg_expr.specs.declared.fault.EvalFault.{EvalFault}
use Rattle.mg_statements.specs.declared.statement.Def.{Def}
use Rattle.mg_expr.specs.Trees.{Tree}
use Rattle.mg_statements.specs.Plain.{Plain, tree_in, Commit, Rollback, RollbackTo, Savepoint, Table, Insert}
use Rattle.mg_plan.specs.Statements.{bound_plain}
use Rattle.mg_model.specs.declared.answer.Answer.{Answer}
use Rattle.mg_model.specs.declared.answer.Answer.TheVariants as answers
use Rattle.mg_model.specs.declared.change.Point.TheVariants.{SavepointNamed}
use Rattle.mg_model.specs.declared.event.Event.{Event}
use Rattle.mg_model.specs.declared.event.Event.TheVariants as events
use Rattle.mg_model.specs.declared.opening.Opening.{Opening}
use Rattle.mg_model.specs.declared.refusal.Refusal.{Refusal}
use Rattle.mg_model.specs.declared.refusal.Refusal.TheVariants as refusals
use Rattle.mg_model.specs.Changes.{Cells}
use Rattle.mg_model.specs.History.{Entries, entry, transaction_of}
use Rattle.mg_model.specs.Legal.{IsLawful, is_outer}
use Rattle.mg_model.specs.Machine.{steps, has_point}
use Rattle.mg_faults.specs.Faults.{worse}
use Rattle.mg_records.specs.Reading.{shape_seen}
use Rattle.mg_records.specs.TakingBack.{after_refusal}
use Rattle.mg_rows.specs.declared.outcome.Outcome.{Outcome}
use Rattle.mg_rows.specs.declared.outcome.Outcome.TheVariants as outcomes
use Rattle.mg_rows.specs.declared.fault.NewRowFault.{NewRowFault}
use Rattle.mg_rows.specs.declared.statement_fault.StatementFault.{StatementFault}
use Rattle.mg_rows.specs.declared.statement_fault.StatementFault.TheVariants.{Engine, Arithmetic, NoSavepoint}
use Rattle.mg_rows.specs.Faults.{of_new_row}
use Rattle.mg_script.specs.declared.reply.Reply.{Reply}
use Rattle.mg_script.specs.declared.reply.Reply.TheVariants as replies
use Rattle.mg_transcript.specs.Courses.{Course, Begun, Writing, Making, Committing, Comes, Later, Parks, Ends, with_left}
use Rattle.mg_transcript.specs.Statements.{table_of, filter_of, reads, selects, looks, fault_seen, rows_found, events_of, makings}
use Rattle.mg_transcript.specs.Selects.{Answers, reply_with}

-- ---- one event

-- an answer to an event as the answer of the statement that consists of it
abbrev pub reply_to : Answer → Reply
reply_to answers.Fine = replies.Ok outcomes.Fine
reply_to (answers.Tx t) = replies.Tx t
reply_to (answers.Rows rows) = replies.Ok (outcomes.Rows rows)
reply_to (answers.No refusal) = replies.No (Engine refusal)

-- a statement is refused, and is at its end
abbrev pub refused : Refusal → Comes
refused refusal = Ends (replies.No (Engine refusal))

-- A refusal that no event need carry: want of memory, a fault of the disk, or damage. Want of pages is always carried by
-- one, since what gives no event takes no page.
abbrev pub is_outside : Refusal → Bool
is_outside (refusals.DatabaseFull limit) = false
is_outside refusal = is_outer (answers.No refusal)

-- a refusal that is no waiting
abbrev pub is_final : Refusal → Bool
is_final (refusals.Waits on) = false
is_final refusal = true

-- ---- writes

-- A statement that had set its mark was refused, and is undone; the last is what it answers.
pub data IsUndone (o : Opening) (h : Entries) (t : TxNo) (first : Refusal) : Entries → Refusal → Type 0
  where
    -- all since the mark is taken back
    taken_back : IsLawful o h (entry (events.UndoMark t) answers.Fine)
        → IsUndone o h t first (entry (events.UndoMark t) answers.Fine ∷ h) first
    -- that is refused too, and the worse of the two is answered; the transaction is rolled back where the later
    -- refusal is one that gives it up
    given_up : (later : Refusal) → IsLawful o h (entry (events.UndoMark t) (answers.No later))
        → IsUndone o h t first (after_refusal o h t (events.UndoMark t) later) (worse first later)

-- The next event of a statement of t comes: it takes effect; it waits, and is tried again later; or it is
-- refused, and all since the statement's mark is taken back.
pub data Writes (o : Opening) (h : Entries) (t : TxNo) (event : Event) (more : List Event)
    (outcome : Outcome) : Entries → Comes → Type 0 where
  done : transaction_of event ≡ Some t.0 → IsLawful o h (entry event answers.Fine)
      → Writes o h t event more outcome (entry event answers.Fine ∷ h) (with_left more outcome)
  waits : (on : TxNo) → transaction_of event ≡ Some t.0
      → IsLawful o h (entry event (answers.No (refusals.Waits on)))
      → Writes o h t event more outcome (entry event (answers.No (refusals.Waits on)) ∷ h)
      (Parks on (Writing (event ∷ more) outcome))
  undone : (first answered : Refusal) (after : Entries) → transaction_of event ≡ Some t.0
      → is_final first ≡ true
      → IsLawful o h (entry event (answers.No first))
      → IsUndone o (entry event (answers.No first) ∷ h) t first after answered
      → Writes o h t event more outcome after (refused answered)

-- These events of a statement come in one step, up to one that waits or is refused; where one waits,
-- `all` are tried again later.
pub data WritesAll (o : Opening) (t : TxNo) (all : List Event) (outcome : Outcome)
    : Entries → List Event → Entries → Comes → Type 0 where
  none_left : {h : Entries}
      → WritesAll o t all outcome h [] h (Ends (replies.Ok outcome))
  one_more : {h after : Entries} {event : Event} {more : List Event} {comes : Comes}
      → transaction_of event ≡ Some t.0 → IsLawful o h (entry event answers.Fine)
      → WritesAll o t all outcome (entry event answers.Fine ∷ h) more after comes
      → WritesAll o t all outcome h (event ∷ more) after comes
  parks : {h after : Entries} {event : Event} {more : List Event} {on : TxNo} {course : Course}
      → Writes o h t event more outcome after (Parks on course)
      → WritesAll o t all outcome h (event ∷ more) after (Parks on (Making all outcome))
  fails : {h after : Entries} {event : Event} {more : List Event} {fault : StatementFault}
      → Writes o h t event more outcome after (Ends (replies.No fault))
      → WritesAll o t all outcome h (event ∷ more) after (Ends (replies.No fault))

-- The mark is set, and the first of these events comes; there may be none.
pub data Marks (o : Opening) (h : Entries) (t : TxNo) (outcome : Outcome) : List Event → Entries
    → Comes → Type 0 where
  refused_mark : (news : List Event) (refusal : Refusal)
      → IsLawful o h (entry (events.Mark t) (answers.No refusal))
      → Marks o h t outcome news (entry (events.Mark t) (answers.No refusal) ∷ h) (refused refusal)
  no_event : IsLawful o h (entry (events.Mark t) answers.Fine)
      → Marks o h t outcome [] (entry (events.Mark t) answers.Fine ∷ h) (Ends (replies.Ok outcome))
  first_event : (event : Event) (more : List Event) (after : Entries) (comes : Comes)
      → IsLawful o h (entry (events.Mark t) answers.Fine)
      → Writes o (entry (events.Mark t) answers.Fine ∷ h) t event more outcome after comes
      → Marks o h t outcome (event ∷ more) after comes

-- ---- the end of a reading

-- The table that a statement of t names has this shape, and these are the rows that it finds; it has
-- taken at least a step for each.
pub record IsRead (o : Opening) (h : Entries) (t : TxNo) (s : Plain) (taken : ℕ) (shape : Shape)
    (rows : List Cells) : Type 0 where
  pub visits : reads s ≡ true
  pub seen : shape_seen o h t.0 (table_of s) ≡ Some shape
  pub found : rows_found o h t shape s ≡ Some rows
  pub enough : length rows ≤ taken

-- the event by which a statement tells what it found: its filter is that of the bound statement
pub record IsFind (t : TxNo) (s : Plain) (shape : Shape) (event : Event) : Type 0 where
  pub filter : Option Expr
  pub is : event ≡ events.Find t (table_of s) filter
  pub bound : tree_in filter ≡ filter_of (bound_plain shape.columns s)

-- What follows where a statement has told what it found.
pub data Follows (o : Opening) (h : Entries) (t : TxNo) (s : Plain) (shape : Shape) (rows : List Cells)
    : Entries → Comes → Type 0 where
  -- it only answers of them
  answers_so : (given : Result (List Cells) EvalFault) → selects s ≡ true
      → Answers shape s rows given
      → Follows o h t s shape rows h (Ends (reply_with given))
  -- it sets its mark, and its writes begin
  writes_so : (news : List Event) (after : Entries) (comes : Comes) → selects s ≡ false
      → events_of t shape s rows ≡ Ok news
      → Marks o h t (outcomes.Count (length rows)) news after comes
      → Follows o h t s shape rows after comes
  -- one of its new rows can't stand in the table
  has_fault : (fault : NewRowFault) → selects s ≡ false → events_of t shape s rows ≡ Err fault
      → Follows o h t s shape rows h (Ends (replies.No (of_new_row fault)))
  -- memory is short, or another refusal from outside comes
  falls_short : (refusal : Refusal) → is_outside refusal ≡ true
      → Follows o h t s shape rows h (refused refusal)

-- ---- a step

-- A step of a statement of t after a history.
pub data Steps (o : Opening) (h : Entries) (t : TxNo) : Course → Entries → Comes → Type 0 where
  -- it visits a further record
  visits : (s : Plain) (taken : ℕ) → reads s ≡ true
      → Steps o h t (Begun s taken) h (Later (Begun s (taken + 1)))
  -- the visit is refused from outside
  stops : (s : Plain) (taken : ℕ) (refusal : Refusal) → is_outside refusal ≡ true
      → Steps o h t (Begun s taken) h (refused refusal)
  -- its filter faults on a row
  faults : (s : Plain) (taken : ℕ) (shape : Shape) → reads s ≡ true
      → shape_seen o h t.0 (table_of s) ≡ Some shape → rows_found o h t shape s ≡ None
      → Steps o h t (Begun s taken) h (Ends (replies.No Arithmetic))
  -- it has visited all, and tells what it found
  finds : (s : Plain) (taken : ℕ) (shape : Shape) (rows : List Cells) (find : Event) (after : Entries)
      (comes : Comes) → IsRead o h t s taken shape rows → IsFind t s shape find
      → IsLawful o h (entry find (answers.Rows rows))
      → Follows o (entry find (answers.Rows rows) ∷ h) t s shape rows after comes
      → Steps o h t (Begun s taken) after comes
  -- telling it is refused
  finds_not : (s : Plain) (taken : ℕ) (shape : Shape) (rows : List Cells) (find : Event)
      (refusal : Refusal) → IsRead o h t s taken shape rows → IsFind t s shape find
      → IsLawful o h (entry find (answers.No refusal))
      → Steps o h t (Begun s taken) (entry find (answers.No refusal) ∷ h) (refused refusal)
  -- an INSERT sets its mark, and writes its row
  inserts : (table : List ℕ) (columns : Option (List (List ℕ))) (values : List Tree) (taken : ℕ)
      (shape : Shape) (news : List Event) (after : Entries) (comes : Comes)
      → shape_seen o h t.0 table ≡ Some shape
      → events_of t shape (Insert table columns values) [] ≡ Ok news
      → Marks o h t (outcomes.Count 1) news after comes
      → Steps o h t (Begun (Insert table columns values) taken) after comes
  -- its row can't stand in the table
  inserts_not : (table : List ℕ) (columns : Option (List (List ℕ))) (values : List Tree) (taken : ℕ)
      (shape : Shape) (fault : NewRowFault) → shape_seen o h t.0 table ≡ Some shape
      → events_of t shape (Insert table columns values) [] ≡ Err fault
      → Steps o h t (Begun (Insert table columns values) taken) h (Ends (replies.No (of_new_row fault)))
  -- a CREATE TABLE sets its mark, and all rows of the catalog come that say the table
  makes : (name : List ℕ) (columns : List Def) (taken : ℕ) (after : Entries) (comes : Comes)
      → IsLawful o h (entry (events.Mark t) answers.Fine)
      → WritesAll o t (makings t (Table name columns)) outcomes.Fine
      (entry (events.Mark t) answers.Fine ∷ h) (makings t (Table name columns)) after comes
      → Steps o h t (Begun (Table name columns) taken) after comes
  makes_not : (name : List ℕ) (columns : List Def) (taken : ℕ) (refusal : Refusal)
      → IsLawful o h (entry (events.Mark t) (answers.No refusal))
      → Steps o h t (Begun (Table name columns) taken)
      (entry (events.Mark t) (answers.No refusal) ∷ h) (refused refusal)
  -- a savepoint is set
  saves : (name : List ℕ) (taken : ℕ) (answer : Answer)
      → IsLawful o h (entry (events.Savepoint t name) answer)
      → Steps o h t (Begun (Savepoint name) taken) (entry (events.Savepoint t name) answer ∷ h)
      (Ends (reply_to answer))
  -- the transaction goes back to a savepoint
  goes_back : (name : List ℕ) (taken : ℕ)
      → has_point t.0 (SavepointNamed name) (steps o h) ≡ true
      → IsLawful o h (entry (events.BackTo t name) answers.Fine)
      → Steps o h t (Begun (RollbackTo name) taken) (entry (events.BackTo t name) answers.Fine ∷ h)
      (Ends (replies.Ok outcomes.Fine))
  -- there is none of the name
  goes_nowhere : (name : List ℕ) (taken : ℕ)
      → has_point t.0 (SavepointNamed name) (steps o h) ≡ false
      → Steps o h t (Begun (RollbackTo name) taken) h (Ends (replies.No NoSavepoint))
  -- that is refused; the transaction is rolled back where the refusal is one that gives it up
  goes_not : (name : List ℕ) (taken : ℕ) (refusal : Refusal)
      → IsLawful o h (entry (events.BackTo t name) (answers.No refusal))
      → Steps o h t (Begun (RollbackTo name) taken)
      (after_refusal o h t (events.BackTo t name) refusal) (refused refusal)
  -- the next event comes of a statement that has set its mark
  writes_on : (event : Event) (more : List Event) (outcome : Outcome) (after : Entries) (comes : Comes)
      → Writes o h t event more outcome after comes
      → Steps o h t (Writing (event ∷ more) outcome) after comes
  -- all events come of one that waited with them
  makes_on : (all : List Event) (outcome : Outcome) (after : Entries) (comes : Comes)
      → WritesAll o t all outcome h all after comes → Steps o h t (Making all outcome) after comes
  -- a step of the pages of a COMMIT: one of them is written, or all were before
  writes_page : (written : Bool)
      → Steps o h t (Committing false) h (Later (Committing written))
  -- that is refused from outside
  writes_no_page : (refusal : Refusal) → is_outside refusal ≡ true
      → Steps o h t (Committing false) h (refused refusal)
  -- the transaction is committed
  commits : (answer : Answer) → IsLawful o h (entry (events.Commit t) answer)
      → Steps o h t (Committing true) (entry (events.Commit t) answer ∷ h) (Ends (reply_to answer))

-- ---- the beginning

-- The beginning of a statement of t, for pages of a size: a statement of a table looks, and is tested
-- by what its transaction sees then.
pub data Starts (o : Opening) (h : Entries) (t : TxNo) (size : ℕ) : Plain → Entries → Comes → Type 0
  where
    looks_not : (s : Plain) (refusal : Refusal) → looks s ≡ true
        → IsLawful o h (entry (events.Look t) (answers.No refusal))
        → Starts o h t size s (entry (events.Look t) (answers.No refusal) ∷ h) (refused refusal)
    fails_test : (s : Plain) (fault : StatementFault) → looks s ≡ true
        → IsLawful o h (entry (events.Look t) answers.Fine)
        → fault_seen o (entry (events.Look t) answers.Fine ∷ h) t size s ≡ Some fault
        → Starts o h t size s (entry (events.Look t) answers.Fine ∷ h) (Ends (replies.No fault))
    -- the test is refused from outside
    tests_not : (s : Plain) (refusal : Refusal) → looks s ≡ true
        → IsLawful o h (entry (events.Look t) answers.Fine) → is_outside refusal ≡ true
        → Starts o h t size s (entry (events.Look t) answers.Fine ∷ h) (refused refusal)
    passes : (s : Plain) → looks s ≡ true → IsLawful o h (entry (events.Look t) answers.Fine)
        → fault_seen o (entry (events.Look t) answers.Fine ∷ h) t size s ≡ None
        → Starts o h t size s (entry (events.Look t) answers.Fine ∷ h) (Later (Begun s 0))
    sets_savepoint : (name : List ℕ) → Starts o h t size (Savepoint name) h (Later (Begun (Savepoint name) 0))
    takes_back : (name : List ℕ)
        → Starts o h t size (RollbackTo name) h (Later (Begun (RollbackTo name) 0))
    asks : Starts o h t size Commit h (Later (Committing false))
    asks_not : (refusal : Refusal) → is_outside refusal ≡ true
        → Starts o h t size Commit h (refused refusal)
    rolls_back : (answer : Answer) → IsLawful o h (entry (events.Rollback t) answer)
        → Starts o h t size Rollback (entry (events.Rollback t) answer ∷ h) (Ends (reply_to answer))

-- ---- several steps

-- steps one after another, until the statement waits or is at its end
pub data Runs (o : Opening) (t : TxNo) : Entries → Comes → Entries → Comes → Type 0 where
  waits_now : {h : Entries} (on : TxNo) (course : Course) → Runs o t h (Parks on course) h (Parks on course)
  ends_now : {h : Entries} (reply : Reply) → Runs o t h (Ends reply) h (Ends reply)
  one_step : {h mid after : Entries} {course : Course} {next comes : Comes}
      → Steps o h t course mid next → Runs o t mid next after comes
      → Runs o t h (Later course) after comes

-- so many steps, fewer where it waits or is at its end before
pub data Takes (o : Opening) (t : TxNo) : ℕ → Entries → Comes → Entries → Comes → Type 0 where
  enough_now : {h : Entries} (course : Course) → Takes o t 0 h (Later course) h (Later course)
  waits_then : {n : ℕ} {h : Entries} (on : TxNo) (course : Course)
      → Takes o t n h (Parks on course) h (Parks on course)
  ends_then : {n : ℕ} {h : Entries} (reply : Reply) → Takes o t n h (Ends reply) h (Ends reply)
  step_more : {n : ℕ} {h mid after : Entries} {course : Course} {next comes : Comes}
      → Steps o h t course mid next → Takes o t n mid next after comes
      → Takes o t (suc n) h (Later course) after comes
