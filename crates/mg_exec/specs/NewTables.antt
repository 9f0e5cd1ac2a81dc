-- What is tested of CREATE TABLE before its mark.
use Rattle.std.specs.Prelude.{◌≡◌, ◌⊎◌, ℕ, ◌||◌, Bool, true, false, List, [], All, Option, Some, None, is_some, Result, Ok, Err}
use Rattle.mg_base.specs.declared.numbers.TxNo.{TxNo}
use Rattle.mg_value.specs.Names.{IsName}
use Rattle.mg_value.specs.declared.shape.Shape.{Shape}
use Rattle.mg_statements.specs.declared.statement.Def.{Def}
use Rattle.mg_statements.specs.Plain.{Plain, Table}
use Rattle.mg_plan.specs.declared.fault.PlanFault.{PlanFault}
use Rattle.mg_plan.specs.declared.fault.PlanFault.TheVariants as plans
use Rattle.mg_plan.specs.Refusing.{first_refusal}
use Rattle.mg_plan.specs.Shapes.{shape_of}
use Rattle.mg_model.specs.declared.opening.Opening.{Opening}
use Rattle.mg_model.specs.declared.refusal.Refusal.{Refusal}
use Rattle.mg_model.specs.declared.refusal.Refusal.TheVariants.{ReadOnly, NoTable, TableExists, Memory}
use Rattle.mg_model.specs.Catalog.{catalog_name}
use Rattle.mg_model.specs.Changes.{same_name}
use Rattle.mg_model.specs.History.{Entries}
use Rattle.mg_records.specs.Adding.{IsRefused}
use Rattle.mg_records.specs.Meaning.{Means}
use Rattle.mg_records.specs.Reading.{shape_seen}
use Rattle.mg_records.specs.Writing.{IsOfLength}
use Rattle.mg_rows.specs.declared.statement_fault.StatementFault.{StatementFault}
use Rattle.mg_rows.specs.declared.statement_fault.StatementFault.TheVariants.{Engine}
use Rattle.mg_rows.specs.Faults.{of_plan}
use Rattle.mg_exec.specs.declared.phase.NewTable.{NewTable}
use Rattle.mg_exec.specs.declared.phase.Phase.{Phase}
use Rattle.mg_exec.specs.declared.phase.Phase.TheVariants as phases
use Rattle.mg_exec.specs.Phases.{may_not_write}

-- the columns that a statement defines: those of a new table
abbrev pub columns_defined : Plain → List Def
columns_defined (Table name columns) = columns
columns_defined s = []

-- it is CREATE TABLE, and each VARCHAR in it has 1 to 1000 bytes, as the grammar has it
abbrev pub CreatesTable : Plain → Type 0
CreatesTable (Table name columns) = All (λ column. IsOfLength column.kind) columns
CreatesTable s = ⊥

-- a name is taken where it is the catalog's, or the transaction sees a table of it
abbrev pub is_taken : List ℕ → Option Shape → Bool
is_taken name seen = same_name name catalog_name || is_some seen

-- the refusal that tells that there is no table
abbrev pub is_missing : Refusal → Bool
is_missing NoTable = true
is_missing refusal = false

-- Why CREATE TABLE, which has looked, is refused before its mark, in the order of the tests.
pub data IsWhyNoTable (o : Opening) (h : Entries) (t : ℕ) (read_only : Bool) (s : Plain)
    (name : List ℕ) (size : ℕ) : StatementFault → Type 0 where
  -- its transaction may not write
  may_not : may_not_write read_only s ≡ true → IsWhyNoTable o h t read_only s name size (Engine ReadOnly)
  -- the name is taken
  taken : may_not_write read_only s ≡ false → is_taken name (shape_seen o h t name) ≡ true
      → IsWhyNoTable o h t read_only s name size (Engine TableExists)
  -- whether it is can't be read, or the transaction is not active
  not_read : (refusal : Refusal) → may_not_write read_only s ≡ false
      → same_name name catalog_name ≡ false → IsRefused o h t refusal
      → IsWhyNoTable o h t read_only s name size (Engine refusal)
  -- it is the first refusal of the binding
  not_lawful : (fault : PlanFault) → may_not_write read_only s ≡ false
      → is_taken name (shape_seen o h t name) ≡ false → first_refusal [] 0 size s ≡ Some fault
      → IsWhyNoTable o h t read_only s name size (of_plan fault)
  -- memory is short
  short_of_memory : IsWhyNoTable o h t read_only s name size (Engine Memory)

-- this is the table that CREATE TABLE makes, whose binding nothing refuses; its columns have names
pub record IsPlanned (s : Plain) (name : List ℕ) (size : ℕ) (table : NewTable) : Type 0 where
  pub passes : first_refusal [] 0 size s ≡ None
  pub named : table.name ≡ name
  pub shaped : table.shape ≡ shape_of (columns_defined s)
  pub columns : All (λ (d : Def). IsName d.name) (columns_defined s)

-- the table that CREATE TABLE makes, or the first refusal of its binding
abbrev pub Plans : Plain → List ℕ → ℕ → Result NewTable PlanFault → Type 0
Plans s name size (Ok table) = IsPlanned s name size table
Plans s name size (Err plans.Memory) = Unit {0}
Plans s name size (Err fault) = first_refusal [] 0 size s ≡ Some fault

-- the same, as where it begins
abbrev pub PlansPhase : {P : Type 0} → Plain → List ℕ → ℕ → Result (Phase P) StatementFault → Type 0
PlansPhase s name size (Ok (phases.Creating table)) = IsPlanned s name size table
PlansPhase s name size (Ok phase) = ⊥
PlansPhase s name size (Err fault) = (fault ≡ Engine Memory)
    ⊎ ((lower : PlanFault) × (first_refusal [] 0 size s ≡ Some lower) × (fault ≡ of_plan lower))

-- CREATE TABLE may make this table, and begins
pub record IsToCreate (o : Opening) (h : Entries) (t : ℕ) (read_only : Bool) (s : Plain)
    (name : List ℕ) (size : ℕ) (table : NewTable) : Type 0 where
  pub may : may_not_write read_only s ≡ false
  pub free : is_taken name (shape_seen o h t name) ≡ false
  pub planned : IsPlanned s name size table

-- the tests of CREATE TABLE, which has looked: none of them gives an event
abbrev pub TestsTable : {R P : Type 0} → Means R P → R → Opening → Entries → TxNo → Bool → Plain
    → List ℕ → ℕ → Result (Phase P) StatementFault → Type 0
TestsTable m new o h t read_only s name size (Ok (phases.Creating table)) =
    m.stands new o h × IsToCreate o h t.0 read_only s name size table
TestsTable m new o h t read_only s name size (Ok phase) = ⊥
TestsTable m new o h t read_only s name size (Err fault) =
    m.stands new o h × IsWhyNoTable o h t.0 read_only s name size fault
