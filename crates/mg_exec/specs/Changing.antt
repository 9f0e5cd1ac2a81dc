-- The steps of a statement that writes.
use Rattle.std.specs.Prelude.{◌≡◌, ℕ, List, length, Ok, Err}
use Rattle.mg_base.specs.declared.numbers.TxNo.{TxNo}
use Rattle.mg_model.specs.declared.opening.Opening.{Opening}
use Rattle.mg_model.specs.declared.refusal.Refusal.TheVariants.{Waits}
use Rattle.mg_model.specs.declared.table.Table.{Table}
use Rattle.mg_model.specs.Changes.{Cells}
use Rattle.mg_model.specs.History.{Entries}
use Rattle.mg_records.specs.declared.write.Write.{Write}
use Rattle.mg_records.specs.Meaning.{Means}
use Rattle.mg_rows.specs.declared.fault.NewRowFault.{NewRowFault}
use Rattle.mg_rows.specs.declared.outcome.Outcome.TheVariants.{Count}
use Rattle.mg_rows.specs.declared.statement_fault.StatementFault.TheVariants.{Engine}
use Rattle.mg_rows.specs.Faults.{of_new_row}
use Rattle.mg_calls.specs.declared.steps.Writes.{Writes}
use Rattle.mg_calls.specs.declared.steps.Wrote.{Wrote}
use Rattle.mg_calls.specs.declared.steps.Wrote.TheVariants as wrote
use Rattle.mg_calls.specs.Steps.{WritesNext, MarksAndWrites}
use Rattle.mg_exec.specs.declared.phase.Changing.{Changing}
use Rattle.mg_exec.specs.declared.phase.Phase.TheVariants as phases
use Rattle.mg_exec.specs.declared.phase.Step.TheVariants as steps
use Rattle.mg_exec.specs.declared.phase.Turn.{Turn}
use Rattle.mg_plan.specs.declared.bound.Bound.{Bound}
use Rattle.mg_exec.specs.Making.{MakesNone, writes_made}
use Rattle.mg_exec.specs.Phases.{ended, rolled_back}

-- where a statement stands after a step that writes: it goes on, or stays where its write waits; at
-- its end the count of its writes is answered, or a refusal
abbrev pub turned : {P : Type 0} → Changing → Wrote → Turn P
turned c wrote.More = record { phase = phases.Changing c; answer = Ok steps.More }
turned c wrote.Done = ended (Ok (steps.Done (Count c.count)))
turned c (wrote.Waits on) = record { phase = phases.Changing c; answer = Err (Engine (Waits on)) }
turned c (wrote.Refused refusal) = ended (Err (Engine refusal))
turned c (wrote.RolledBack refusal) = rolled_back refusal

-- these writes are left, of so many
abbrev pub with_left : Writes → ℕ → Changing
with_left left count = record { writes = left; count = count }

-- a step of a statement that has set its mark makes the next of its writes
pub record Changes {R P : Type 0} (m : Means R P) (new : R) (o : Opening) (h : Entries) (t : TxNo)
    (before : Changing) (turn : Turn P) : Type 0 where
  pub result : Wrote
  pub left : Writes
  pub table : left.table ≡ before.writes.table
  pub stands_so : turn ≡ turned (with_left left before.count) result
  pub writes : WritesNext m new o h t before.writes.table.name before.writes.left.items left.left.items result

-- the first step of one sets its mark and makes the first of these writes
pub record BeginsToWrite {R P : Type 0} (m : Means R P) (new : R) (o : Opening) (h : Entries) (t : TxNo)
    (table : Table) (made : List Write) (turn : Turn P) : Type 0 where
  pub result : Wrote
  pub left : Writes
  pub table_stays : left.table ≡ table
  pub stands_so : turn ≡ turned (with_left left (length made)) result
  pub writes : MarksAndWrites m new o h t table.name made left.left.items result

-- A statement that has all its rows makes its writes of them, and begins to write; or they can't be
-- made, and no event is given.
pub data StartsToWrite {R P : Type 0} (m : Means R P) (new : R) (o : Opening) (h : Entries) (t : TxNo)
    (table : Table) (bound : Bound) (rows : List Cells) (turn : Turn P) : Type 0 where
  begins : (made : List Write) → writes_made table bound rows ≡ Ok made
      → BeginsToWrite m new o h t table made turn → StartsToWrite m new o h t table bound rows turn
  makes_none : (fault : NewRowFault) → MakesNone (writes_made table bound rows) fault
      → turn ≡ ended (Err (of_new_row fault)) → m.stands new o h
      → StartsToWrite m new o h t table bound rows turn
