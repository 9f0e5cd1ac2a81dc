-- The history machine: what has become of each transaction, what stands of its steps, the state of
-- the database, and what each transaction sees of it. No page, chain, state bit or index is here.
use Rattle.std.specs.Prelude.{ℕ, ◌+◌, ◌-◌, ◌==◌, ◌&&◌, ◌||◌, not, nat_lt, Bool, true, false, List, [], ◌∷◌, ◌++◌, map, Option, Some, None, slice_index_or, if◌then◌else◌}
use Rattle.mg_base.specs.declared.transaction.TxState.{TxState}
use Rattle.mg_base.specs.declared.transaction.TxState.TheVariants.{Active, Limbo, Dead, Committed}
use Rattle.mg_value.specs.declared.value.Value.{Value}
use Rattle.mg_model.specs.declared.answer.Answer.{Answer}
use Rattle.mg_model.specs.declared.answer.Answer.TheVariants.{Fine, Tx, Rows, No}
use Rattle.mg_model.specs.declared.refusal.Refusal.TheVariants.{Waits}
use Rattle.mg_model.specs.declared.change.Change.{Change}
use Rattle.mg_model.specs.declared.change.Deed.{Deed}
use Rattle.mg_model.specs.declared.change.Deed.TheVariants.{Changed, Marked, Saved}
use Rattle.mg_model.specs.declared.change.Step.{Step}
use Rattle.mg_model.specs.declared.event.Mode.{Mode}
use Rattle.mg_model.specs.declared.opening.Opening.{Opening}
use Rattle.mg_model.specs.declared.opening.LimboChange.{LimboChange}
use Rattle.mg_model.specs.declared.opening.PlacedRow.{PlacedRow}
use Rattle.mg_model.specs.Changes.{Cells, same_name, row_at}
use Rattle.mg_model.specs.Catalog.{CatalogRows, catalog_name, catalog_shape, key_of, key_in}
use Rattle.mg_model.specs.History.{Entries, transaction_of, Point, LastMark, SavepointNamed, Effect, Begins, Looks, Makes, Gives, Marks, Saves, TakesBack, Ends, Nothing, effect_of}

-- ---- numbers, modes and ends

-- the number that is drawn next
abbrev pub next_after : Effect → ℕ → ℕ
next_after (Begins t mode) next = next + 1
next_after (Looks t) next = next
next_after (Makes t table row) next = next
next_after (Gives t table key row) next = next
next_after (Marks t) next = next
next_after (Saves t name) next = next
next_after (TakesBack t point) next = next
next_after (Ends t end) next = next
next_after Nothing next = next

abbrev pub next_number : Opening → Entries → ℕ
next_number o [] = o.next.0
next_number o (e ∷ h) = next_after (effect_of e) (next_number o h)

-- how a transaction runs
abbrev pub mode_after : Effect → ℕ → Mode → Mode
mode_after (Begins u mode) t old = if u == t then mode else old
mode_after (Looks u) t old = old
mode_after (Makes u table row) t old = old
mode_after (Gives u table key row) t old = old
mode_after (Marks u) t old = old
mode_after (Saves u name) t old = old
mode_after (TakesBack u point) t old = old
mode_after (Ends u end) t old = old
mode_after Nothing t old = old

abbrev pub mode_of : Entries → ℕ → Mode
mode_of [] t = record { read_only = true; wait = false; snapshot = true }
mode_of (e ∷ h) t = mode_after (effect_of e) t (mode_of h t)

-- what had become of a transaction when the history began: 0 is the system's, which is committed,
-- and a number that was not drawn is dead
abbrev pub opening_state : Opening → ℕ → TxState
opening_state o t =
    if t == 0 then Committed
    else (if nat_lt t o.next.0 then slice_index_or o.states (t - 1) Dead else Dead)

-- what has become of a transaction
abbrev pub state_after : Effect → ℕ → TxState → TxState
state_after (Begins u mode) t old = if u == t then Active else old
state_after (Looks u) t old = old
state_after (Makes u table row) t old = old
state_after (Gives u table key row) t old = old
state_after (Marks u) t old = old
state_after (Saves u name) t old = old
state_after (TakesBack u point) t old = old
state_after (Ends u end) t old = if u == t then end else old
state_after Nothing t old = old

abbrev pub state_of : Opening → Entries → ℕ → TxState
state_of o [] t = opening_state o t
state_of o (e ∷ h) t = state_after (effect_of e) t (state_of o h t)

-- the transaction that an answer waits on
abbrev pub waited_on : Answer → Option ℕ
waited_on Fine = None
waited_on (Tx t) = None
waited_on (Rows rows) = None
waited_on (No (Waits on)) = Some on.0
waited_on (No refusal) = None

-- an event is this transaction's
abbrev pub is_of : ℕ → Option ℕ → Bool
is_of t None = false
is_of t (Some u) = u == t

-- the transaction that the last event of a transaction waits on
abbrev pub last_wait : Entries → ℕ → Option ℕ
last_wait [] t = None
last_wait (e ∷ h) t =
    if is_of t (transaction_of e.event) then waited_on e.answer else last_wait h t

-- ---- steps, and what is taken back of them

-- what a transaction did, the newest first
abbrev pub deeds_by : ℕ → List Step → List Deed
deeds_by t [] = []
deeds_by t (s ∷ steps) = if s.by.0 == t then s.deed ∷ deeds_by t steps else deeds_by t steps

-- the changes among what was done
abbrev pub changes_in : List Deed → List Change
changes_in [] = []
changes_in (Changed c ∷ deeds) = c ∷ changes_in deeds
changes_in (Marked ∷ deeds) = changes_in deeds
changes_in (Saved name ∷ deeds) = changes_in deeds

-- the changes that a transaction made, the newest first
abbrev pub changes_by : ℕ → List Step → List Change
changes_by t steps = changes_in (deeds_by t steps)

-- a step sets this point
abbrev pub is_point : Point → Deed → Bool
is_point LastMark Marked = true
is_point LastMark (Changed c) = false
is_point LastMark (Saved name) = false
is_point (SavepointNamed name) (Saved other) = same_name name other
is_point (SavepointNamed name) (Changed c) = false
is_point (SavepointNamed name) Marked = false

-- the point is there still
abbrev pub has_point : ℕ → Point → List Step → Bool
has_point t point [] = false
has_point t point (s ∷ steps) = (s.by.0 == t && is_point point s.deed) || has_point t point steps

-- the steps from the point on: a mark ends, and a savepoint stays
abbrev pub at_point : Point → Step → List Step → List Step
at_point LastMark s steps = steps
at_point (SavepointNamed name) s steps = s ∷ steps

-- the steps without those of a transaction since the point
abbrev pub back_to : ℕ → Point → List Step → List Step
back_to t point [] = []
back_to t point (s ∷ steps) =
    if s.by.0 == t
    then (if is_point point s.deed then at_point point s steps else back_to t point steps)
    else s ∷ back_to t point steps

-- what stands once a transaction is taken back to a point; all, where there is no such point
abbrev pub taken_back : ℕ → Point → List Step → List Step
taken_back t point steps = if has_point t point steps then back_to t point steps else steps

abbrev pub changed : List ℕ → Value → Option Cells → Deed
changed table key row = Changed (record { table = table; key = key; row = row })

abbrev pub step : ℕ → Deed → Step
step t deed = record { by = record { 0 = t }; deed = deed }

-- what stands of all steps after an effect; `catalog` is what a transaction sees of the catalog
abbrev pub steps_after : Effect → (ℕ → CatalogRows) → List Step → List Step
steps_after (Begins t mode) catalog old = old
steps_after (Looks t) catalog old = old
steps_after (Makes t table row) catalog old =
    step t (changed table (key_in (catalog t) table row) (Some row)) ∷ old
steps_after (Gives t table key row) catalog old = step t (changed table key row) ∷ old
steps_after (Marks t) catalog old = step t Marked ∷ old
steps_after (Saves t name) catalog old = step t (Saved name) ∷ old
steps_after (TakesBack t point) catalog old = taken_back t point old
steps_after (Ends t end) catalog old = old
steps_after Nothing catalog old = old

-- ---- the state of the database, the base and the view of a transaction

-- the rows of the catalog among the rows of an opening, by their keys
abbrev pub catalog_changes : List PlacedRow → List Change
catalog_changes [] = []
catalog_changes (p ∷ rows) =
    if same_name p.table catalog_name
    then record { table = p.table; key = key_of catalog_shape p.row; row = Some p.row } ∷ catalog_changes rows
    else catalog_changes rows

-- the opening's database: each of its rows under its key, by the opening's own catalog
abbrev pub placed : CatalogRows → List PlacedRow → List Change
placed catalog [] = []
placed catalog (p ∷ rows) =
    record { table = p.table; key = key_in catalog p.table p.row; row = Some p.row } ∷ placed catalog rows

abbrev pub opening_rows : Opening → List Change
opening_rows o = placed (row_at (catalog_changes o.rows) catalog_name) o.rows

-- a change of a transaction in limbo as a step, which came before all entries
abbrev pub limbo_step : LimboChange → Step
limbo_step c = record { by = c.by; deed = changed c.table c.key c.row }

-- the database after an effect: a transaction that is committed brings its changes
abbrev pub database_after : Effect → (ℕ → List Change) → List Change → List Change
database_after (Begins t mode) own old = old
database_after (Looks t) own old = old
database_after (Makes t table row) own old = old
database_after (Gives t table key row) own old = old
database_after (Marks t) own old = old
database_after (Saves t name) own old = old
database_after (TakesBack t point) own old = old
database_after (Ends t Committed) own old = own t ++ old
database_after (Ends t Active) own old = old
database_after (Ends t Limbo) own old = old
database_after (Ends t Dead) own old = old
database_after Nothing own old = old

-- a transaction takes its base by an effect: where it begins, and under READ COMMITTED where a
-- statement of it begins
abbrev pub takes_base : Effect → ℕ → Bool → Bool
takes_base (Begins u mode) t snapshot = u == t
takes_base (Looks u) t snapshot = u == t && not snapshot
takes_base (Makes u table row) t snapshot = false
takes_base (Gives u table key row) t snapshot = false
takes_base (Marks u) t snapshot = false
takes_base (Saves u name) t snapshot = false
takes_base (TakesBack u point) t snapshot = false
takes_base (Ends u end) t snapshot = false
takes_base Nothing t snapshot = false

abbrev mutual
  -- the steps that stand of all transactions, the newest first
  pub steps : Opening → Entries → List Step
  steps o [] = map limbo_step o.limbo
  steps o (e ∷ h) = steps_after (effect_of e)
      (λ t. row_at (changes_by t (steps o h) ++ base o h t) catalog_name) (steps o h)

  -- the database: the opening's, changed by each transaction that is committed, in that order
  pub database : Opening → Entries → List Change
  database o [] = opening_rows o
  database o (e ∷ h) =
      database_after (effect_of e) (λ t. changes_by t (steps o h)) (database o h)

  -- the database when the transaction took its base
  pub base : Opening → Entries → ℕ → List Change
  base o [] t = opening_rows o
  base o (e ∷ h) t =
      if takes_base (effect_of e) t (mode_of h t).snapshot then database o h else base o h t

-- a transaction's own changes that stand, the newest first
abbrev pub own : Opening → Entries → ℕ → List Change
own o h t = changes_by t (steps o h)

-- what a transaction sees: its own changes laid over its base
abbrev pub view : Opening → Entries → ℕ → List Change
view o h t = own o h t ++ base o h t

-- the history when the transaction took its base
abbrev pub cut_at_base : Entries → ℕ → Entries
cut_at_base [] t = []
cut_at_base (e ∷ h) t =
    if takes_base (effect_of e) t (mode_of h t).snapshot then h else cut_at_base h t
