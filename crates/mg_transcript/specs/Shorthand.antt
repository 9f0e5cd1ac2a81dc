-- The lines `@put` and `@get`: each is a transaction of its own, of a session of its own.
use Rattle.std.specs.Prelude.{◌≡◌, ◌==◌, ◌&&◌, ℕ, ℤ, Bool, true, false, List, [], ◌∷◌, codes, Option, Some, None}
use Rattle.mg_base.specs.declared.numbers.TxNo.{TxNo}
use Rattle.mg_value.specs.declared.shape.Column.{Column}
use Rattle.mg_value.specs.declared.shape.Kind.{Kind}
use Rattle.mg_value.specs.declared.shape.Kind.TheVariants as kinds
use Rattle.mg_value.specs.declared.shape.Shape.{Shape}
use Rattle.mg_value.specs.declared.value.Value.TheVariants as values
use Rattle.mg_expr.specs.declared.expr.Sign.TheVariants as signs
use Rattle.mg_expr.specs.Trees.{Name, Compare, Integer}
use Rattle.mg_statements.specs.Plain.{Plain, Select}
use Rattle.mg_model.specs.declared.answer.Answer.TheVariants as answers
use Rattle.mg_model.specs.declared.event.Event.{Event}
use Rattle.mg_model.specs.declared.event.Event.TheVariants as events
use Rattle.mg_model.specs.declared.event.Mode.{Mode}
use Rattle.mg_model.specs.declared.opening.Opening.{Opening}
use Rattle.mg_model.specs.declared.refusal.Refusal.{Refusal}
use Rattle.mg_model.specs.declared.refusal.Refusal.TheVariants as refusals
use Rattle.mg_model.specs.Changes.{Cells, row_at}
use Rattle.mg_model.specs.History.{Entries, entry}
use Rattle.mg_model.specs.Legal.{IsLawful}
use Rattle.mg_model.specs.Machine.{view}
use Rattle.mg_model.specs.NewDatabase.{kv_name}
use Rattle.mg_records.specs.Reading.{shape_seen}
use Rattle.mg_rows.specs.declared.statement_fault.StatementFault.{StatementFault}
use Rattle.mg_rows.specs.declared.statement_fault.StatementFault.TheVariants.{Engine, InTransaction}
use Rattle.mg_script.specs.declared.reply.Reply.{Reply}
use Rattle.mg_script.specs.declared.reply.Reply.TheVariants as replies
use Rattle.mg_transcript.specs.Courses.{Later, Ends, Begun}
use Rattle.mg_transcript.specs.Statements.{fault_seen}
use Rattle.mg_transcript.specs.Steps.{is_outside, Runs}
use Rattle.mg_transcript.specs.Sessions.{transaction_of}

-- the session of these lines
abbrev pub SHORTHAND : ℕ
SHORTHAND = 16

-- ---- the end of such a transaction

-- a refusal after which no line is obeyed: a fault of the disk, damage, or want of memory
abbrev pub stops_run : Refusal → Bool
stops_run (refusals.DiskRead faults) = true
stops_run (refusals.DiskWrite faults) = true
stops_run (refusals.Offline faults) = true
stops_run (refusals.Damaged page field found wanted) = true
stops_run refusals.Memory = true
stops_run refusal = false

-- the same of what a statement is answered
abbrev pub stops_by : StatementFault → Bool
stops_by (Engine refusal) = stops_run refusal
stops_by fault = false

-- A line of t was refused: t is rolled back, and the line answers the refusal, or that of the
-- rollback. Where the run stops by it, nothing comes behind it.
pub data GivesUp (o : Opening) (h : Entries) (t : TxNo) (fault : StatementFault)
    : Entries → Reply → Type 0 where
  at_once : stops_by fault ≡ true → GivesUp o h t fault h (replies.No fault)
  rolled_back : stops_by fault ≡ false → IsLawful o h (entry (events.Rollback t) answers.Fine)
      → GivesUp o h t fault (entry (events.Rollback t) answers.Fine ∷ h) (replies.No fault)
  not_even : (later : Refusal) → stops_by fault ≡ false
      → IsLawful o h (entry (events.Rollback t) (answers.No later))
      → GivesUp o h t fault (entry (events.Rollback t) (answers.No later) ∷ h)
      (replies.No (Engine later))

-- A line of t has done what it is for, and commits; where that is refused, t is rolled back.
pub data Settles (o : Opening) (h : Entries) (t : TxNo) (reply : Reply) : Entries → Reply → Type 0 where
  committed : IsLawful o h (entry (events.Commit t) answers.Fine)
      → Settles o h t reply (entry (events.Commit t) answers.Fine ∷ h) reply
  -- a page that it needs can't be written
  pages_refused : (refusal : Refusal) (after : Entries) (answered : Reply) → is_outside refusal ≡ true
      → GivesUp o h t (Engine refusal) after answered → Settles o h t reply after answered
  commit_refused : (refusal : Refusal) (after : Entries) (answered : Reply)
      → IsLawful o h (entry (events.Commit t) (answers.No refusal))
      → GivesUp o (entry (events.Commit t) (answers.No refusal) ∷ h) t (Engine refusal) after answered
      → Settles o h t reply after answered

-- A transaction begins for these lines; `rest` is what t then does, and what it is answered. A session
-- whose last rollback was refused has one still, and begins none.
pub data InTransactionOfItsOwn (o : Opening) (h : Entries) (mode : Mode)
    (rest : Entries → TxNo → Entries → Reply → Type 0) : Entries → Reply → Type 0 where
  has_one : (t : TxNo) → transaction_of o h SHORTHAND ≡ Some t
      → InTransactionOfItsOwn o h mode rest h (replies.No InTransaction)
  begins_none : (refusal : Refusal) → transaction_of o h SHORTHAND ≡ None
      → IsLawful o h (entry (events.Begin SHORTHAND mode) (answers.No refusal))
      → InTransactionOfItsOwn o h mode rest (entry (events.Begin SHORTHAND mode) (answers.No refusal) ∷ h)
      (replies.No (Engine refusal))
  begins_one : (t : TxNo) (after : Entries) (reply : Reply) → transaction_of o h SHORTHAND ≡ None
      → IsLawful o h (entry (events.Begin SHORTHAND mode) (answers.Tx t))
      → rest (entry (events.Begin SHORTHAND mode) (answers.Tx t) ∷ h) t after reply
      → InTransactionOfItsOwn o h mode rest after reply

-- ---- @put

-- it writes, waits for nobody, and reads by one snapshot
abbrev pub putting : Mode
putting = record { read_only = false; wait = false; snapshot = true }

abbrev pub is_number : Kind → Bool
is_number kinds.Int = true
is_number (kinds.Text most) = false

abbrev pub are_two_numbers : List Column → Bool
are_two_numbers (a ∷ b ∷ []) = is_number a.kind && is_number b.kind
are_two_numbers columns = false

-- a table has two columns of numbers, the first of which is its key
abbrev pub is_of_numbers : Option Shape → Bool
is_of_numbers None = false
is_of_numbers (Some shape) = shape.key == 0 && are_two_numbers shape.columns

-- a row of the table
abbrev pub pair_of : ℤ → ℤ → Cells
pair_of key value = values.Int key ∷ values.Int value ∷ []

-- the write of a put, by the row that its transaction sees with the key: a new row, or another one
abbrev pub put_event : TxNo → ℤ → ℤ → Option Cells → Event
put_event t key value None = events.Insert t kv_name (pair_of key value)
put_event t key value (Some row) = events.Change t kv_name (values.Int key) (pair_of key value)

-- What t does for a put.
pub data Puts (o : Opening) (key value : ℤ) (h : Entries) (t : TxNo) : Entries → Reply → Type 0 where
  -- it sees no such table
  sees_none : (after : Entries) (reply : Reply) → is_of_numbers (shape_seen o h t.0 kv_name) ≡ false
      → GivesUp o h t (Engine refusals.NoTable) after reply → Puts o key value h t after reply
  -- the row with the key can't be looked for
  finds_not : (refusal : Refusal) (after : Entries) (reply : Reply) → is_outside refusal ≡ true
      → GivesUp o h t (Engine refusal) after reply → Puts o key value h t after reply
  puts_row : (event : Event) (after : Entries) (reply : Reply)
      → is_of_numbers (shape_seen o h t.0 kv_name) ≡ true
      → event ≡ put_event t key value (row_at (view o h t.0) kv_name (values.Int key))
      → IsLawful o h (entry event answers.Fine)
      → Settles o (entry event answers.Fine ∷ h) t (replies.Tx t) after reply
      → Puts o key value h t after reply
  puts_not : (event : Event) (refusal : Refusal) (after : Entries) (reply : Reply)
      → is_of_numbers (shape_seen o h t.0 kv_name) ≡ true
      → event ≡ put_event t key value (row_at (view o h t.0) kv_name (values.Int key))
      → IsLawful o h (entry event (answers.No refusal))
      → GivesUp o (entry event (answers.No refusal) ∷ h) t (Engine refusal) after reply
      → Puts o key value h t after reply

-- ---- @get

-- it only reads, and by one snapshot
abbrev pub getting : Mode
getting = record { read_only = true; wait = true; snapshot = true }

-- SELECT V FROM KV WHERE K = key
abbrev pub value_of_key : ℤ → Plain
value_of_key key = Select kv_name (Some (Name (codes "V") ∷ []))
    (Some (Compare (Name (codes "K")) signs.Equal (Integer key))) None

-- t commits where it was answered, and is rolled back where it was refused
abbrev pub IsGot : Opening → Entries → TxNo → Reply → Entries → Reply → Type 0
IsGot o h t (replies.No fault) after reply = GivesUp o h t fault after reply
IsGot o h t given after reply = Settles o h t given after reply

-- What t does for a get: it reads, without a `Look`, and tells what it found.
pub data Gets (o : Opening) (key : ℤ) (size : ℕ) (h : Entries) (t : TxNo) : Entries → Reply → Type 0 where
  fails_test : (fault : StatementFault) (after : Entries) (reply : Reply)
      → fault_seen o h t size (value_of_key key) ≡ Some fault
      → GivesUp o h t fault after reply → Gets o key size h t after reply
  tests_not : (refusal : Refusal) (after : Entries) (reply : Reply) → is_outside refusal ≡ true
      → GivesUp o h t (Engine refusal) after reply → Gets o key size h t after reply
  reads_it : (given : Reply) (mid after : Entries) (reply : Reply)
      → fault_seen o h t size (value_of_key key) ≡ None
      → Runs o t h (Later (Begun (value_of_key key) 0)) mid (Ends given)
      → IsGot o mid t given after reply → Gets o key size h t after reply
