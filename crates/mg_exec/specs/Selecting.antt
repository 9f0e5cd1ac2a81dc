-- What a SELECT answers, as the answer of its last step.
use Rattle.std.specs.Prelude.{List, Result, Ok, Err}
use Rattle.mg_expr.specs.declared.fault.EvalFault.{EvalFault}
use Rattle.mg_model.specs.Changes.{Cells}
use Rattle.mg_rows.specs.declared.outcome.Outcome.TheVariants as outcomes
use Rattle.mg_rows.specs.declared.statement_fault.StatementFault.{StatementFault}
use Rattle.mg_rows.specs.Faults.{of_eval}
use Rattle.mg_exec.specs.declared.phase.Step.{Step}
use Rattle.mg_exec.specs.declared.phase.Step.TheVariants.{Done}

-- that as the answer of the statement
abbrev pub answer_told : Result (List Cells) EvalFault → Result Step StatementFault
answer_told (Ok rows) = Ok (Done (outcomes.Rows rows))
answer_told (Err fault) = Err (of_eval fault)
