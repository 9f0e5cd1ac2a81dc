-- The writes that a statement makes of the rows that it found.
use Rattle.std.specs.Prelude.{◌≡◌, ℕ, List, [], ◌∷◌, map, All, Result, Ok, Err}
use Rattle.mg_expr.specs.Trees.{tree_of}
use Rattle.mg_statements.specs.declared.statement.Statement.{Statement}
use Rattle.mg_statements.specs.declared.statement.Statement.TheVariants as statements
use Rattle.mg_value.specs.declared.shape.Shape.{Shape}
use Rattle.mg_plan.specs.declared.bound.Bound.{Bound}
use Rattle.mg_model.specs.declared.table.Table.{Table}
use Rattle.mg_model.specs.Catalog.{key_of}
use Rattle.mg_model.specs.Changes.{Cells}
use Rattle.mg_records.specs.declared.write.Write.{Write}
use Rattle.mg_records.specs.declared.write.Write.TheVariants as writes
use Rattle.mg_rows.specs.declared.fault.NewRowFault.{NewRowFault}
use Rattle.mg_rows.specs.declared.fault.NewRowFault.TheVariants as faults
use Rattle.mg_rows.specs.NewRows.{inserted, updated}

-- the one write of an INSERT
abbrev pub insertion_of : Result Cells NewRowFault → Result (List Write) NewRowFault
insertion_of (Ok row) = Ok (writes.Insert row ∷ [])
insertion_of (Err fault) = Err fault

-- the writes of an UPDATE: each new row, which has the key of the row of which it is made
abbrev pub changes_of : Shape → Result (List Cells) NewRowFault → Result (List Write) NewRowFault
changes_of shape (Ok made) = Ok (map (λ row. writes.Change (key_of shape row) row) made)
changes_of shape (Err fault) = Err fault

-- the writes of a DELETE: each row goes
abbrev pub erasures_of : Shape → List Cells → List Write
erasures_of shape rows = map (λ row. writes.Erase (key_of shape row)) rows

-- the writes that a bound statement makes of the rows that it found, in their order (an INSERT finds
-- none), or the fault of the first row that can't be made
abbrev pub made_by : Statement → List ℕ → Shape → List Cells → Result (List Write) NewRowFault
made_by (statements.Insert table columns values) places shape rows =
    insertion_of (inserted shape.columns places (map tree_of values.items))
made_by (statements.Update table sets filter) places shape rows =
    changes_of shape (updated shape.columns places (map (λ set. tree_of set.value) sets.items) rows)
made_by (statements.Delete table filter) places shape rows = Ok (erasures_of shape rows)
made_by s places shape rows = Ok []

abbrev pub writes_made : Table → Bound → List Cells → Result (List Write) NewRowFault
writes_made table bound rows = made_by bound.statement bound.places.items table.shape rows

-- these are the writes that are made, and each of them fits
abbrev pub AreMade : Result (List Write) NewRowFault → (Write → Type 0) → List Write → Type 0
AreMade made fits given = (made ≡ Ok given) × All fits given

-- no writes are made, for this fault, or for want of memory
abbrev pub MakesNone : Result (List Write) NewRowFault → NewRowFault → Type 0
MakesNone made faults.Memory = Unit {0}
MakesNone made fault = made ≡ Err fault
