-- What a statement needs, what is tested of it before a row is read, and what it finds and writes.
use Rattle.std.specs.Prelude.{ℕ, ◌&&◌, ◌||◌, Bool, true, false, List, [], ◌∷◌, map, Option, Some, None, Result, Ok, Err, if◌then◌else◌}
use Rattle.std.specs.Option.{is_some}
use Rattle.mg_base.specs.declared.numbers.TxNo.{TxNo}
use Rattle.mg_value.specs.declared.shape.Column.{Column}
use Rattle.mg_value.specs.declared.shape.Shape.{Shape}
use Rattle.mg_expr.specs.Trees.{Tree}
use Rattle.mg_statements.specs.Plain.{Plain, Table, Insert, Update, Delete, Totals, Select}
use Rattle.mg_plan.specs.declared.fault.PlanFault.{PlanFault}
use Rattle.mg_plan.specs.Refusing.{first_refusal}
use Rattle.mg_plan.specs.Shapes.{shape_of}
use Rattle.mg_plan.specs.Statements.{bound_plain, places_in}
use Rattle.mg_model.specs.declared.event.Event.{Event}
use Rattle.mg_model.specs.declared.event.Event.TheVariants as events
use Rattle.mg_model.specs.declared.opening.Opening.{Opening}
use Rattle.mg_model.specs.declared.refusal.Refusal.TheVariants as refusals
use Rattle.mg_model.specs.Catalog.{catalog_name, key_of}
use Rattle.mg_model.specs.Changes.{Cells, KeyedRows, rows_of, same_name}
use Rattle.mg_model.specs.History.{Entries}
use Rattle.mg_model.specs.Machine.{view, mode_of}
use Rattle.mg_records.specs.Reading.{shape_seen}
use Rattle.mg_records.specs.Writing.{rows_made}
use Rattle.mg_rows.specs.declared.fault.NewRowFault.{NewRowFault}
use Rattle.mg_rows.specs.declared.statement_fault.StatementFault.{StatementFault}
use Rattle.mg_rows.specs.declared.statement_fault.StatementFault.TheVariants.{Engine}
use Rattle.mg_rows.specs.Faults.{of_plan}
use Rattle.mg_rows.specs.Found.{found}
use Rattle.mg_rows.specs.NewRows.{inserted, updated}

-- ---- the parts of a statement

-- the table that it names
abbrev pub table_of : Plain → List ℕ
table_of (Table name columns) = name
table_of (Insert table columns values) = table
table_of (Update table sets filter) = table
table_of (Delete table filter) = table
table_of (Totals table totals filter) = table
table_of (Select table values filter sorted) = table
table_of s = []

-- its filter, none where it has none
abbrev pub filter_of : Plain → Option Tree
filter_of (Update table sets filter) = filter
filter_of (Delete table filter) = filter
filter_of (Totals table totals filter) = filter
filter_of (Select table values filter sorted) = filter
filter_of s = None

-- it visits the rows of a table; it is one that only answers of them
abbrev pub reads : Plain → Bool
reads (Update table sets filter) = true
reads (Delete table filter) = true
reads (Totals table totals filter) = true
reads (Select table values filter sorted) = true
reads s = false

abbrev pub selects : Plain → Bool
selects (Totals table totals filter) = true
selects (Select table values filter sorted) = true
selects s = false

-- it writes, and so may not stand in a transaction that only reads
abbrev pub writes : Plain → Bool
writes (Table name columns) = true
writes (Insert table columns values) = true
writes (Update table sets filter) = true
writes (Delete table filter) = true
writes s = false

-- it is of a table, and so looks before all else
abbrev pub looks : Plain → Bool
looks s = writes s || selects s

-- ---- what is tested before a row is read

-- the first of two that is there
abbrev pub first_of : Option StatementFault → Option StatementFault → Option StatementFault
first_of None next = next
first_of (Some fault) next = Some fault

-- a transaction that only reads takes no statement that writes
abbrev pub mode_fault : Bool → Plain → Option StatementFault
mode_fault read_only s =
    if read_only && writes s then Some (Engine refusals.ReadOnly) else None

-- no table is made that is there, and no other statement names one that is not; the catalog is there
-- for those that would make it, and not for others
abbrev pub table_fault : Plain → Option Shape → Option StatementFault
table_fault (Table name columns) seen =
    if same_name name catalog_name || is_some seen then Some (Engine refusals.TableExists) else None
table_fault s (Some shape) = None
table_fault s None = Some (Engine refusals.NoTable)

-- the columns of the table and the place of its key, none and 0 where there is no table
abbrev pub columns_in : Option Shape → List Column
columns_in None = []
columns_in (Some shape) = shape.columns

abbrev pub key_in : Option Shape → ℕ
key_in None = 0
key_in (Some shape) = shape.key

abbrev pub binding_fault : Option PlanFault → Option StatementFault
binding_fault None = None
binding_fault (Some fault) = Some (of_plan fault)

-- Why a statement is refused before a row is read, if it is, for pages of a size: the mode of its
-- transaction, the table that this sees by the name, and then the first refusal of the binding.
abbrev pub fault_of : Bool → Option Shape → ℕ → Plain → Option StatementFault
fault_of read_only seen size s = first_of (mode_fault read_only s)
    (first_of (table_fault s seen)
    (binding_fault (first_refusal (columns_in seen) (key_in seen) size s)))

-- the same for a transaction after a history
abbrev pub fault_seen : Opening → Entries → TxNo → ℕ → Plain → Option StatementFault
fault_seen o h t size s =
    fault_of (mode_of h t.0).read_only (shape_seen o h t.0 (table_of s)) size s

-- ---- what it finds

-- rows without their keys
abbrev pub bare : KeyedRows → List Cells
bare rows = map (λ row. row.1) rows

-- the rows of its table that a transaction sees and that pass its filter, in key order; none where the filter
-- faults on one of them
abbrev pub rows_found : Opening → Entries → TxNo → Shape → Plain → Option (List Cells)
rows_found o h t shape s =
    found (filter_of (bound_plain shape.columns s)) (bare (rows_of (view o h t.0) (table_of s)))

-- ---- what it writes

-- each new row comes in the place of the one with its key
abbrev pub changes : TxNo → List ℕ → Shape → List Cells → List Event
changes t table shape news = map (λ row. events.Change t table (key_of shape row) row) news

-- each row that was found goes
abbrev pub erases : TxNo → List ℕ → Shape → List Cells → List Event
erases t table shape rows = map (λ row. events.Erase t table (key_of shape row)) rows

-- what is made of what was computed, where that could be
abbrev pub made_of : {A B : Type 0} → (A → B) → Result A NewRowFault → Result B NewRowFault
made_of f (Ok x) = Ok (f x)
made_of f (Err fault) = Err fault

-- The events of its writes, by the rows that it found, or why one of its new rows can't stand in the
-- table. All new rows are computed before the first of them is written.
abbrev pub written_by : TxNo → Shape → List ℕ → Plain → List Cells → Result (List Event) NewRowFault
written_by t shape places (Insert table columns values) rows =
    made_of (λ row. events.Insert t table row ∷ []) (inserted shape.columns places values)
written_by t shape places (Update table sets filter) rows =
    made_of (changes t table shape) (updated shape.columns places (map (λ set. set.1) sets) rows)
written_by t shape places (Delete table filter) rows = Ok (erases t table shape rows)
written_by t shape places s rows = Ok []

-- the same of a statement that is not bound
abbrev pub events_of : TxNo → Shape → Plain → List Cells → Result (List Event) NewRowFault
events_of t shape s rows =
    written_by t shape (places_in shape.columns s) (bound_plain shape.columns s) rows

-- the events of a new table: the rows of the catalog that say it, that of the table first
abbrev pub makings : TxNo → Plain → List Event
makings t (Table name columns) =
    map (λ row. events.Insert t catalog_name row) (rows_made name (shape_of columns))
makings t s = []
