-- What the history machine answers to an event, by what a history tells.
use Rattle.std.specs.Prelude.{ℕ, zero, suc, ◌==◌, ◌&&◌, ◌||◌, not, nat_lt, Bool, true, false, List, [], ◌∷◌, filter, map, Option, Some, None, is_some, if◌then◌else◌}
use Rattle.mg_base.specs.declared.transaction.TxState.{TxState}
use Rattle.mg_base.specs.declared.transaction.TxState.TheVariants.{Active, Limbo, Dead, Committed}
use Rattle.mg_base.specs.declared.numbers.TxNo.{TxNo}
use Rattle.mg_value.specs.declared.value.Value.{Value}
use Rattle.mg_expr.specs.declared.expr.Expr.{Expr}
use Rattle.mg_expr.specs.Meaning.{is_true_of}
use Rattle.mg_model.specs.declared.answer.Answer.{Answer}
use Rattle.mg_model.specs.declared.answer.Answer.TheVariants.{Fine, Tx, Rows, No}
use Rattle.mg_model.specs.declared.refusal.Refusal.TheVariants.{UpdateConflict, LockConflict, Waits, Deadlock, InLimbo, DuplicateKey, NoRow, ReadOnly, NotActive, NoTable, TransactionLimit}
use Rattle.mg_model.specs.declared.event.Event.{Event}
use Rattle.mg_model.specs.declared.event.Event.TheVariants.{Begin, Look, Find, Claim, Insert, Change, Erase, Mark, UndoMark, Savepoint, BackTo, Prepare, Commit, Rollback, Decide}
use Rattle.mg_model.specs.declared.event.Mode.{Mode}
use Rattle.mg_model.specs.declared.change.Change.{Change as AnyChange}
use Rattle.mg_model.specs.declared.change.Deed.{Deed}
use Rattle.mg_model.specs.declared.change.Deed.TheVariants.{Changed, Marked, Saved}
use Rattle.mg_model.specs.declared.change.Step.{Step}
use Rattle.mg_model.specs.declared.opening.Opening.{Opening}
use Rattle.mg_model.specs.Changes.{Cells, same_name, is_at, row_at, rows_of}
use Rattle.mg_model.specs.Catalog.{CatalogRows, catalog_name, table_key, shape_in, key_in}
use Rattle.mg_model.specs.History.{Entries}
use Rattle.mg_model.specs.Machine.{next_number, mode_of, state_of, steps, view, cut_at_base, last_wait}

-- what a history tells, as far as answers depend on it
pub record Told : Type 0 where
  -- the number that is drawn next, and the one that can't be drawn
  pub next : ℕ
  pub limit : ℕ
  -- how a transaction runs, and what has become of it
  pub mode : ℕ → Mode
  pub state : ℕ → TxState
  -- whether the second transaction was committed when the first one took its base
  pub saw : ℕ → ℕ → Bool
  -- the transaction that the last event of a transaction waits on
  pub last_wait : ℕ → Option ℕ
  -- the steps that stand, the newest first
  pub steps : List Step
  -- what a transaction sees
  pub view : ℕ → List AnyChange

-- a transaction is committed
abbrev pub is_committed : TxState → Bool
is_committed Active = false
is_committed Limbo = false
is_committed Dead = false
is_committed Committed = true

-- what a history tells
abbrev pub told : Opening → Entries → Told
told o h = record {
  next = next_number o h;
  limit = o.limit.0;
  mode = mode_of h;
  state = state_of o h;
  saw = λ t u. is_committed (state_of o (cut_at_base h t) u);
  last_wait = last_wait h;
  steps = steps o h;
  view = view o h;
}

-- ---- who is in the way

-- a transaction is active or in limbo
abbrev pub is_open : TxState → Bool
is_open Active = true
is_open Limbo = true
is_open Dead = false
is_open Committed = false

-- the changes of u can be in the way of t: u is another transaction which is active, in limbo, or
-- committed after t's base was taken
abbrev pub can_hinder : Told → ℕ → ℕ → Bool
can_hinder k t u =
    not (u == t)
    && (is_open (k.state u)
    || (is_committed (k.state u) && not (k.saw t u)))

-- a step changed this key of this table
abbrev pub changes_key : List ℕ → Value → Deed → Bool
changes_key table key (Changed c) = is_at c table key
changes_key table key Marked = false
changes_key table key (Saved name) = false

-- whose step is the newest that passes both tests
abbrev pub newest_by : (ℕ → Bool) → (Deed → Bool) → List Step → Option ℕ
newest_by who what [] = None
newest_by who what (s ∷ steps) =
    if who s.by.0 && what s.deed then Some s.by.0 else newest_by who what steps

-- the obstacle of a key for t: of the transactions that can be in its way and whose own changes
-- have the key, the one that changed it last
abbrev pub obstacle : Told → ℕ → List ℕ → Value → Option ℕ
obstacle k t table key = newest_by (can_hinder k t) (changes_key table key) k.steps

-- the obstacle of a table's own row in the catalog; the catalog has no such row
abbrev pub table_obstacle : Told → ℕ → List ℕ → Option ℕ
table_obstacle k t table =
    if same_name table catalog_name then None else obstacle k t catalog_name (table_key table)

-- a step changed a row of this table
abbrev pub changes_table : List ℕ → Deed → Bool
changes_table table (Changed c) = same_name c.table table
changes_table table Marked = false
changes_table table (Saved name) = false

-- the lesser of two numbers, if there are two
abbrev pub lesser : ℕ → Option ℕ → ℕ
lesser n None = n
lesser n (Some m) = if nat_lt m n then m else n

-- the least of some transaction and those with a step that passes both tests
abbrev pub least_from : (ℕ → Bool) → (Deed → Bool) → Option ℕ → List Step → Option ℕ
least_from who what least [] = least
least_from who what least (s ∷ steps) =
    if who s.by.0 && what s.deed then Some (lesser s.by.0 (least_from who what least steps))
    else least_from who what least steps

-- the least transaction with a step that passes both tests
abbrev pub least_by : (ℕ → Bool) → (Deed → Bool) → List Step → Option ℕ
least_by who what steps = least_from who what None steps

-- u is another transaction than t, and active or in limbo
abbrev pub is_open_other : Told → ℕ → ℕ → Bool
is_open_other k t u = not (u == t) && is_open (k.state u)

-- the first of two that is there
abbrev pub first_of : Option ℕ → Option ℕ → Option ℕ
first_of (Some u) other = Some u
first_of None other = other

-- the obstacle of a claim: that of the table's own row; where there is none, the least other
-- transaction that is active or in limbo and has changed the table
abbrev pub claim_obstacle : Told → ℕ → List ℕ → Option ℕ
claim_obstacle k t table = first_of (table_obstacle k t table)
    (least_by (is_open_other k t) (changes_table table) k.steps)

-- ---- who waits for whom

abbrev pub is_active : TxState → Bool
is_active Active = true
is_active Limbo = false
is_active Dead = false
is_active Committed = false

-- a transaction, as long as it is active
abbrev pub while_active : (ℕ → TxState) → Option ℕ → Option ℕ
while_active state None = None
while_active state (Some u) = if is_active (state u) then Some u else None

-- a transaction waits on another one where its last event was answered so and that one is active
abbrev pub waits_on : Told → ℕ → Option ℕ
waits_on k t = while_active k.state (k.last_wait t)

-- what holds of the number, if there is one
abbrev pub if_some : (ℕ → Bool) → Option ℕ → Bool
if_some holds None = false
if_some holds (Some u) = holds u

-- following who waits on whom from u comes to t, in so many steps at most
abbrev pub leads_to : (ℕ → Option ℕ) → ℕ → ℕ → ℕ → Bool
leads_to waits zero u t = u == t
leads_to waits (suc most) u t = u == t || if_some (λ v. leads_to waits most v t) (waits u)

-- to wait on u would close a cycle for t. A way without a turn has no more steps than there are
-- transactions
abbrev pub closes : Told → ℕ → ℕ → Bool
closes k t u = leads_to (waits_on k) k.next u t

-- ---- answers

abbrev pub number : ℕ → TxNo
number t = record { 0 = t }

-- what t is answered where u is in its way
abbrev pub verdict_by : TxState → Bool → Bool → ℕ → Answer
verdict_by Committed wait closing u = No (UpdateConflict (number u))
verdict_by Limbo wait closing u = No (InLimbo (number u))
verdict_by Active false closing u = No (LockConflict (number u))
verdict_by Active true true u = No (Deadlock (number u))
verdict_by Active true false u = No (Waits (number u))
verdict_by Dead wait closing u = Fine

abbrev pub verdict : Told → ℕ → ℕ → Answer
verdict k t u = verdict_by (k.state u) (k.mode t).wait (closes k t u) u

-- the verdict on what is in the way; where nothing is, what comes next
abbrev pub past : Told → ℕ → Option ℕ → Answer → Answer
past k t None next = next
past k t (Some u) next = verdict k t u

-- an answer that takes an active transaction
abbrev pub if_active : TxState → Answer → Answer
if_active Active next = next
if_active Limbo next = No (NotActive Limbo)
if_active Dead next = No (NotActive Dead)
if_active Committed next = No (NotActive Committed)

-- what a decision is answered: it takes a transaction in limbo
abbrev pub if_limbo : TxState → Answer
if_limbo Active = No (NotActive Active)
if_limbo Limbo = Fine
if_limbo Dead = No (NotActive Dead)
if_limbo Committed = No (NotActive Committed)

-- what a transaction sees of the catalog
abbrev pub catalog_of : Told → ℕ → CatalogRows
catalog_of k t = row_at (k.view t) catalog_name

abbrev pub has_table : Told → ℕ → List ℕ → Bool
has_table k t table = is_some (shape_in (catalog_of k t) table)

abbrev pub has_row : Told → ℕ → List ℕ → Value → Bool
has_row k t table key = is_some (row_at (k.view t) table key)

-- what a write to a table is answered, and where nothing of the table hinders it, what comes next
abbrev pub if_writable : Told → ℕ → List ℕ → Answer → Answer
if_writable k t table next =
    if (k.mode t).read_only then No ReadOnly
    else (if has_table k t table then next else No NoTable)

-- a new row: refused where the view has its key
abbrev pub answer_insert : Told → ℕ → List ℕ → Value → Answer
answer_insert k t table key =
    if_writable k t table (past k t (table_obstacle k t table)
    (if has_row k t table key then No DuplicateKey
    else past k t (obstacle k t table key) Fine))

-- another row, or none, for a key: refused where the view has no row with it
abbrev pub answer_give : Told → ℕ → List ℕ → Value → Answer
answer_give k t table key =
    if_writable k t table (past k t (table_obstacle k t table)
    (if has_row k t table key then past k t (obstacle k t table key) Fine
    else No NoRow))

-- a claim on a table
abbrev pub answer_claim : Told → ℕ → List ℕ → Answer
answer_claim k t table = if_writable k t table (past k t (claim_obstacle k t table) Fine)

-- a row passes a filter; each row does where there is none
abbrev pub passes : Option Expr → Cells → Bool
passes None row = true
passes (Some expr) row = is_true_of expr row

-- the rows of a table in the view for which the filter is true, in key order
abbrev pub answer_find : Told → ℕ → List ℕ → Option Expr → Answer
answer_find k t table test =
    if has_table k t table
    then Rows (filter (passes test) (map (λ r. r.1) (rows_of (k.view t) table)))
    else No NoTable

-- a transaction begins, with the next number
abbrev pub answer_begin : Told → Answer
answer_begin k = if k.next == k.limit then No TransactionLimit else Tx (number k.next)

-- what an event of an active transaction is answered; the other two have answers of their own
abbrev pub answer_active : Told → ℕ → Event → Answer
answer_active k t (Begin session mode) = Fine
answer_active k t (Decide u commit) = Fine
answer_active k t (Look u) = Fine
answer_active k t (Find u table test) = answer_find k t table test
answer_active k t (Claim u table) = answer_claim k t table
answer_active k t (Insert u table row) =
    answer_insert k t table (key_in (catalog_of k t) table row)
answer_active k t (Change u table key row) = answer_give k t table key
answer_active k t (Erase u table key) = answer_give k t table key
answer_active k t (Mark u) = Fine
answer_active k t (UndoMark u) = Fine
answer_active k t (Savepoint u name) = Fine
answer_active k t (BackTo u name) = Fine
answer_active k t (Prepare u) = Fine
answer_active k t (Commit u) = Fine
answer_active k t (Rollback u) = Fine

-- what an event of a transaction is answered, which has to be active for it
abbrev pub answer_of : Told → ℕ → Event → Answer
answer_of k t e = if_active (k.state t) (answer_active k t e)

-- the machine's answer to an event, by what a history tells
abbrev pub answer_by : Told → Event → Answer
answer_by k (Begin session mode) = answer_begin k
answer_by k (Decide t commit) = if_limbo (k.state t.0)
answer_by k (Look t) = answer_of k t.0 (Look t)
answer_by k (Find t table test) = answer_of k t.0 (Find t table test)
answer_by k (Claim t table) = answer_of k t.0 (Claim t table)
answer_by k (Insert t table row) = answer_of k t.0 (Insert t table row)
answer_by k (Change t table key row) = answer_of k t.0 (Change t table key row)
answer_by k (Erase t table key) = answer_of k t.0 (Erase t table key)
answer_by k (Mark t) = answer_of k t.0 (Mark t)
answer_by k (UndoMark t) = answer_of k t.0 (UndoMark t)
answer_by k (Savepoint t name) = answer_of k t.0 (Savepoint t name)
answer_by k (BackTo t name) = answer_of k t.0 (BackTo t name)
answer_by k (Prepare t) = answer_of k t.0 (Prepare t)
answer_by k (Commit t) = answer_of k t.0 (Commit t)
answer_by k (Rollback t) = answer_of k t.0 (Rollback t)

-- the machine's answer to an event after a history
abbrev pub answer : Opening → Entries → Event → Answer
answer o h e = answer_by (told o h) e
