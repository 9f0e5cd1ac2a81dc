-- What is tested of a statement before a row is read.
use Rattle.std.specs.Prelude.{◌≡◌, ℕ, Bool, true, false, List, [], Option, Some, None, Result, Ok, Err}
use Rattle.mg_base.specs.declared.numbers.TxNo.{TxNo}
use Rattle.mg_value.specs.declared.shape.Shape.{Shape}
use Rattle.mg_statements.specs.Plain.{Plain, plain_of, RollbackTo, Savepoint, Table as Creation, Insert, Update, Delete, Totals, Select}
use Rattle.mg_plan.specs.declared.bound.Bound.{Bound}
use Rattle.mg_plan.specs.declared.fault.PlanFault.{PlanFault}
use Rattle.mg_plan.specs.Refusing.{first_refusal, IsBoundAs}
use Rattle.mg_model.specs.declared.opening.Opening.{Opening}
use Rattle.mg_model.specs.declared.refusal.Refusal.{Refusal}
use Rattle.mg_model.specs.declared.refusal.Refusal.TheVariants.{ReadOnly, NoTable, Memory}
use Rattle.mg_model.specs.declared.table.Table.{Table}
use Rattle.mg_model.specs.History.{Entries}
use Rattle.mg_records.specs.Adding.{IsRefused}
use Rattle.mg_records.specs.Meaning.{Means}
use Rattle.mg_records.specs.Reading.{shape_seen}
use Rattle.mg_rows.specs.declared.statement_fault.StatementFault.{StatementFault}
use Rattle.mg_rows.specs.declared.statement_fault.StatementFault.TheVariants.{Engine}
use Rattle.mg_rows.specs.Faults.{of_plan}
use Rattle.mg_exec.specs.declared.phase.Phase.{Phase}
use Rattle.mg_exec.specs.declared.phase.Phase.TheVariants as phases
use Rattle.mg_exec.specs.NewTables.{CreatesTable, TestsTable}
use Rattle.mg_exec.specs.Phases.{StandsAt, is_insert, may_not_write}

-- a statement that has rows of a table
abbrev pub HasRows : Plain → Type 0
HasRows (Insert table columns values) = Unit {0}
HasRows (Update table sets filter) = Unit {0}
HasRows (Delete table filter) = Unit {0}
HasRows (Totals table totals filter) = Unit {0}
HasRows (Select table values filter sorted) = Unit {0}
HasRows s = ⊥

-- a statement that runs in steps here; CREATE TABLE has lengths that the grammar has
abbrev pub Runs : Plain → Type 0
Runs (Creation name columns) = CreatesTable (Creation name columns)
Runs (RollbackTo name) = Unit {0}
Runs (Savepoint name) = Unit {0}
Runs s = HasRows s

-- where a bound statement begins: an INSERT before its row is computed, any other before all rows
abbrev pub IsBegun : {P : Type 0} → Table → Bound → Phase P → Type 0
IsBegun table bound (phases.Inserting i) = (is_insert (plain_of bound.statement) ≡ true)
    × (i.table ≡ table) × (i.bound ≡ bound)
IsBegun table bound (phases.Reading reading) = (is_insert (plain_of bound.statement) ≡ false)
    × (reading.walk.table ≡ table) × (reading.walk.place ≡ None) × (reading.bound ≡ bound)
    × (reading.kept.items ≡ [])
IsBegun table bound phase = ⊥

-- Why a statement that has looked is refused before a row is read, in the order of the tests.
pub data IsWhyNot (o : Opening) (h : Entries) (t : ℕ) (read_only : Bool) (s : Plain) (name : List ℕ)
    (size : ℕ) : StatementFault → Type 0 where
  -- it would write, and its transaction may not
  it_writes : may_not_write read_only s ≡ true → IsWhyNot o h t read_only s name size (Engine ReadOnly)
  -- the transaction sees no such table
  no_table : may_not_write read_only s ≡ false → shape_seen o h t name ≡ None
      → IsWhyNot o h t read_only s name size (Engine NoTable)
  -- the table can't be read, or the transaction is not active
  not_told : (refusal : Refusal) → may_not_write read_only s ≡ false → IsRefused o h t refusal
      → IsWhyNot o h t read_only s name size (Engine refusal)
  -- it is the first refusal of the binding
  not_bound : (shape : Shape) (fault : PlanFault) → may_not_write read_only s ≡ false
      → shape_seen o h t name ≡ Some shape
      → first_refusal shape.columns shape.key size s ≡ Some fault
      → IsWhyNot o h t read_only s name size (of_plan fault)
  -- memory is short
  no_memory : IsWhyNot o h t read_only s name size (Engine Memory)

-- a statement is bound to the table that its transaction sees, and begins
pub record IsStarted {R P : Type 0} (m : Means R P) (new : R) (o : Opening) (h : Entries) (t : ℕ)
    (read_only : Bool) (s : Plain) (name : List ℕ) (size : ℕ) (phase : Phase P) : Type 0 where
  pub may : may_not_write read_only s ≡ false
  pub table : Table
  pub named : table.name ≡ name
  pub seen : shape_seen o h t name ≡ Some table.shape
  pub passes : first_refusal table.shape.columns table.shape.key size s ≡ None
  pub bound : Bound
  pub binds : IsBoundAs table.shape.columns s bound
  pub begins : IsBegun table bound phase
  pub reads : StandsAt m new o h t phase

-- the tests of a statement that has looked: none of them gives an event
abbrev pub Tests : {R P : Type 0} → Means R P → R → Opening → Entries → TxNo → Bool → Plain → List ℕ
    → ℕ → Result (Phase P) StatementFault → Type 0
Tests m new o h t read_only s name size (Ok phase) =
    m.stands new o h × IsStarted m new o h t.0 read_only s name size phase
Tests m new o h t read_only s name size (Err fault) =
    m.stands new o h × IsWhyNot o h t.0 read_only s name size fault

-- The tests of any statement that runs in steps, which has looked, if it is one that looks. A savepoint is set, or gone
-- back to, by the first step alone: of these nothing is tested.
abbrev pub TestsAny : {R P : Type 0} → Means R P → R → Opening → Entries → TxNo → Bool → Plain → ℕ
    → Result (Phase P) StatementFault → Type 0
TestsAny m new o h t read_only (Savepoint name) size result =
    (result ≡ Ok (phases.Saving name)) × m.stands new o h
TestsAny m new o h t read_only (RollbackTo name) size result =
    (result ≡ Ok (phases.Returning name)) × m.stands new o h
TestsAny m new o h t read_only (Creation name columns) size result =
    TestsTable m new o h t read_only (Creation name columns) name size result
TestsAny m new o h t read_only (Insert table columns values) size result =
    Tests m new o h t read_only (Insert table columns values) table size result
TestsAny m new o h t read_only (Update table sets filter) size result =
    Tests m new o h t read_only (Update table sets filter) table size result
TestsAny m new o h t read_only (Delete table filter) size result =
    Tests m new o h t read_only (Delete table filter) table size result
TestsAny m new o h t read_only (Totals table totals filter) size result =
    Tests m new o h t read_only (Totals table totals filter) table size result
TestsAny m new o h t read_only (Select table values filter sorted) size result =
    Tests m new o h t read_only (Select table values filter sorted) table size result
TestsAny m new o h t read_only s size result = ⊥

-- the refusal of the keeper that is answered
abbrev pub refusal_at : {T : Type 0} → Result T StatementFault → Option Refusal
refusal_at (Err (Engine refusal)) = Some refusal
refusal_at result = None
