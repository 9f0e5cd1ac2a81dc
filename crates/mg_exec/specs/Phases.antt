-- Where a statement stands, and what the next call of it asks.
use Rattle.std.specs.Prelude.{◌≡◌, ◌≢◌, ◌==◌, ℕ, ◌&&◌, Bool, true, false, List, All, Option, Some, None, Result, Err}
use Rattle.std.specs.List.{list_any}
use Rattle.mg_value.specs.Names.{IsName}
use Rattle.mg_value.specs.declared.shape.Shape.{Shape}
use Rattle.mg_statements.specs.Plain.{Plain, Table as Creation, Insert, Update, Delete, Totals, Select, plain_of, tree_in}
use Rattle.mg_plan.specs.declared.bound.Bound.{Bound}
use Rattle.mg_plan.specs.Plans.{filter_in}
use Rattle.mg_plan.specs.Statements.{is_typed}
use Rattle.mg_model.specs.declared.opening.Opening.{Opening}
use Rattle.mg_model.specs.declared.refusal.Refusal.{Refusal}
use Rattle.mg_model.specs.declared.table.Table.{Table}
use Rattle.mg_model.specs.Catalog.{catalog_name}
use Rattle.mg_model.specs.Changes.{Cells, KeyedRows}
use Rattle.mg_model.specs.History.{Entries}
use Rattle.mg_records.specs.Meaning.{Means}
use Rattle.mg_records.specs.Reading.{MayStand}
use Rattle.mg_records.specs.Writing.{FitsPages, IsNewShape}
use Rattle.mg_rows.specs.declared.statement_fault.StatementFault.{StatementFault}
use Rattle.mg_rows.specs.declared.statement_fault.StatementFault.TheVariants.{Engine}
use Rattle.mg_rows.specs.Found.{found_keyed}
use Rattle.mg_calls.specs.Frames.{Frames}
use Rattle.mg_calls.specs.Quiet.{AreCalm}
use Rattle.mg_calls.specs.Steps.{AreReady}
use Rattle.mg_calls.specs.Walks.{HasCome, IsOnItsWay}
use Rattle.mg_exec.specs.declared.phase.Inserting.{Inserting}
use Rattle.mg_exec.specs.declared.phase.NewTable.{NewTable}
use Rattle.mg_exec.specs.declared.phase.Reading.{Reading}
use Rattle.mg_exec.specs.declared.phase.Step.{Step}
use Rattle.mg_exec.specs.declared.phase.Phase.{Phase}
use Rattle.mg_exec.specs.declared.phase.Phase.TheVariants as phases
use Rattle.mg_exec.specs.declared.phase.Turn.{Turn}

-- ---- the parts of a statement

-- it is an INSERT; it is a SELECT, of expressions or of totals; it finds rows before it goes on
abbrev pub is_insert : Plain → Bool
is_insert (Insert table columns values) = true
is_insert s = false

abbrev pub is_select : Plain → Bool
is_select (Totals table aggs filter) = true
is_select (Select table values filter sorted) = true
is_select s = false

abbrev pub is_finding : Plain → Bool
is_finding (Update table sets filter) = true
is_finding (Delete table filter) = true
is_finding s = is_select s

-- it writes rows of its table, or makes one
abbrev pub is_writing : Plain → Bool
is_writing (Creation name columns) = true
is_writing (Insert table columns values) = true
is_writing (Update table sets filter) = true
is_writing (Delete table filter) = true
is_writing s = false

-- a statement that would write in a transaction that may not
abbrev pub may_not_write : Bool → Plain → Bool
may_not_write read_only s = read_only && is_writing s

-- ---- what the next call asks

-- an UPDATE sets no column of the key; its columns stand at these places
abbrev pub LeavesKeys : Shape → List ℕ → Plain → Type 0
LeavesKeys shape places (Update table sets filter) = list_any (λ place. place == shape.key) places ≡ false
LeavesKeys shape places s = Unit {0}

-- A statement is bound to its table: its expressions have the types that the table's columns want, and it leaves the
-- keys of rows.
pub record IsBoundTo (table : Table) (bound : Bound) : Type 0 where
  pub typed : is_typed table.shape.columns bound.places.items (plain_of bound.statement) ≡ true
  pub keys : LeavesKeys table.shape bound.places.items (plain_of bound.statement)

-- each of these rows may stand in a table of the shape; those with their keys
abbrev pub AllMayStand : Shape → List Cells → Type 0
AllMayStand shape rows = All (MayStand shape) rows

abbrev pub AllKeptMayStand : Shape → KeyedRows → Type 0
AllKeptMayStand shape kept = All (λ keyed. MayStand shape keyed.1) kept

-- the transaction sees the table
pub record IsReadyToInsert {R P : Type 0} (m : Means R P) (r : R) (t : ℕ) (i : Inserting) : Type 0 where
  pub table : m.table r t i.table.name ≡ Some i.table
  pub inserts : is_insert (plain_of i.bound.statement) ≡ true
  pub binds : IsBoundTo i.table i.bound

-- the transaction sees the table, the walk's place was given, and the rows that were kept may stand in the table
pub record IsReadyToRead {R P : Type 0} (m : Means R P) (r : R) (t : ℕ) (reading : Reading P) : Type 0 where
  pub way : IsOnItsWay m r t reading.walk
  pub finds : is_finding (plain_of reading.bound.statement) ≡ true
  pub binds : IsBoundTo reading.walk.table reading.bound
  pub fit : AllKeptMayStand reading.walk.table.shape reading.kept.items

-- the table has a name and a shape that a new one may have, and fits the keeper's pages
pub record IsReadyToCreate {R P : Type 0} (m : Means R P) (r : R) (table : NewTable) : Type 0 where
  pub named : IsName table.name
  pub other : table.name ≢ catalog_name
  pub lawful : IsNewShape table.shape
  pub pages : FitsPages m r table.shape

abbrev pub IsReady : {R P : Type 0} → Means R P → R → ℕ → Phase P → Type 0
IsReady m r t (phases.Saving name) = Unit {0}
IsReady m r t (phases.Returning name) = Unit {0}
IsReady m r t (phases.Inserting i) = IsReadyToInsert m r t i
IsReady m r t (phases.Reading reading) = IsReadyToRead m r t reading
IsReady m r t (phases.Changing c) = AreReady m r t c.writes
IsReady m r t (phases.Creating table) = IsReadyToCreate m r table
IsReady m r t (phases.Retrying table) = IsReadyToCreate m r table
IsReady m r t phases.Ended = Unit {0}
IsReady m r t phases.RolledBack = Unit {0}

-- ---- what stands of a reading

-- A reading has come to some of the rows that the transaction sees; those of them that pass the
-- filter are kept, and it faulted on none.
pub record HasRead {R P : Type 0} (m : Means R P) (r : R) (o : Opening) (h : Entries) (t : ℕ)
    (reading : Reading P) : Type 0 where
  pub visited : KeyedRows
  pub come : HasCome m r o h t reading.walk visited
  pub kept : found_keyed (tree_in (filter_in reading.bound.statement)) visited ≡ Some reading.kept.items

abbrev pub StandsAt : {R P : Type 0} → Means R P → R → Opening → Entries → ℕ → Phase P → Type 0
StandsAt m r o h t (phases.Reading reading) = HasRead m r o h t reading
StandsAt m r o h t phase = Unit {0}

-- the statement is at its end
abbrev pub is_over : {P : Type 0} → Phase P → Bool
is_over phases.Ended = true
is_over phases.RolledBack = true
is_over phase = false

-- the transaction that is rolled back with it
abbrev pub rolled_back_at : {P : Type 0} → ℕ → Phase P → Option ℕ
rolled_back_at t phases.RolledBack = Some t
rolled_back_at t phase = None

-- ---- answers

-- the refusal of the keeper that is answered
abbrev pub refusal_of : Result Step StatementFault → Option Refusal
refusal_of (Err (Engine refusal)) = Some refusal
refusal_of answer = None

-- the statement is at its end
abbrev pub ended : {P : Type 0} → Result Step StatementFault → Turn P
ended answer = record { phase = phases.Ended; answer = answer }

-- it is at its end since its transaction is rolled back, which this refusal gave up
abbrev pub rolled_back : {P : Type 0} → Refusal → Turn P
rolled_back refusal = record { phase = phases.RolledBack; answer = Err (Engine refusal) }

-- what a step leaves whatever the history: the statement is ready for the next one
pub record Leaves {R P : Type 0} (m : Means R P) (old new : R) (t : ℕ) (turn : Turn P) : Type 0 where
  pub frames : Frames m old new t (refusal_of turn.answer)
  pub ready : IsReady m new t turn.phase
  pub calm : AreCalm m old new (rolled_back_at t turn.phase)
