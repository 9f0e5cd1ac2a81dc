-- The steps of CREATE TABLE.
use Rattle.std.specs.Prelude.{◌≡◌, Ok, Err}
use Rattle.mg_base.specs.declared.numbers.TxNo.{TxNo}
use Rattle.mg_model.specs.declared.opening.Opening.{Opening}
use Rattle.mg_model.specs.declared.refusal.Refusal.TheVariants.{Waits}
use Rattle.mg_model.specs.History.{Entries}
use Rattle.mg_records.specs.Meaning.{Means}
use Rattle.mg_records.specs.Writing.{rows_made}
use Rattle.mg_rows.specs.declared.outcome.Outcome.TheVariants.{Fine}
use Rattle.mg_rows.specs.declared.statement_fault.StatementFault.TheVariants.{Engine}
use Rattle.mg_calls.specs.declared.writing.Written.{Written}
use Rattle.mg_calls.specs.declared.writing.Written.TheVariants as written
use Rattle.mg_calls.specs.Tables.{MakesOne, MarksAndMakes}
use Rattle.mg_exec.specs.declared.phase.NewTable.{NewTable}
use Rattle.mg_exec.specs.declared.phase.Phase.TheVariants as phases
use Rattle.mg_exec.specs.declared.phase.Step.TheVariants.{Done}
use Rattle.mg_exec.specs.declared.phase.Turn.{Turn}
use Rattle.mg_exec.specs.Phases.{ended, rolled_back}

-- where CREATE TABLE stands after its table was to be made: at its end, or where it was, if it waits
abbrev pub turned_table : {P : Type 0} → NewTable → Written → Turn P
turned_table table written.Done = ended (Ok (Done Fine))
turned_table table (written.Waits on) =
    record { phase = phases.Retrying table; answer = Err (Engine (Waits on)) }
turned_table table (written.Refused refusal) = ended (Err (Engine refusal))
turned_table table (written.RolledBack refusal) = rolled_back refusal

-- its first step sets its mark, and makes its table
pub record Creates {R P : Type 0} (m : Means R P) (new : R) (o : Opening) (h : Entries) (t : TxNo)
    (table : NewTable) (turn : Turn P) : Type 0 where
  pub result : Written
  pub stands_so : turn ≡ turned_table table result
  pub makes : MarksAndMakes m new o h t (rows_made table.name table.shape) result

-- a later one tries again to make it
pub record Retries {R P : Type 0} (m : Means R P) (new : R) (o : Opening) (h : Entries) (t : TxNo)
    (table : NewTable) (turn : Turn P) : Type 0 where
  pub result : Written
  pub stands_so : turn ≡ turned_table table result
  pub makes : MakesOne m new o h t (rows_made table.name table.shape) result
