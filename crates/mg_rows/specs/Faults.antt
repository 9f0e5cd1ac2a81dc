-- Which fault of a statement, or of a new row, the fault of one of its parts is.
use Rattle.mg_expr.specs.declared.fault.EvalFault.{EvalFault}
use Rattle.mg_expr.specs.declared.fault.EvalFault.TheVariants as evals
use Rattle.mg_model.specs.declared.refusal.Refusal.TheVariants as refusals
use Rattle.mg_plan.specs.declared.fault.PlanFault.{PlanFault}
use Rattle.mg_plan.specs.declared.fault.PlanFault.TheVariants as plans
use Rattle.mg_statements.specs.declared.fault.SqlFault.{SqlFault}
use Rattle.mg_statements.specs.declared.fault.SqlFault.TheVariants as texts
use Rattle.mg_rows.specs.declared.fault.NewRowFault.{NewRowFault}
use Rattle.mg_rows.specs.declared.fault.NewRowFault.TheVariants as rows
use Rattle.mg_rows.specs.declared.statement_fault.StatementFault.{StatementFault}
use Rattle.mg_rows.specs.declared.statement_fault.StatementFault.TheVariants.{Engine, Syntax, NameTooLong, NumberTooLarge, TooDeep, NoColumn, TypeMismatch, Arithmetic, NullNotAllowed, TextTooLong, KeyChange, TooMany, KeyTooLong, ColumnExists, OneKey, CountMismatch}

-- of a text that is no statement
abbrev pub of_sql : SqlFault → StatementFault
of_sql (texts.Syntax at) = Syntax at
of_sql (texts.NameTooLong at) = NameTooLong at
of_sql (texts.NumberTooLarge at) = NumberTooLarge at
of_sql (texts.TooDeep at) = TooDeep at
of_sql texts.Memory = Engine refusals.Memory

-- of a statement that can't be bound; a row too long is one of the machine's refusals
abbrev pub of_plan : PlanFault → StatementFault
of_plan plans.ColumnExists = ColumnExists
of_plan (plans.TooMany limit) = TooMany limit
of_plan plans.NoColumn = NoColumn
of_plan plans.OneKey = OneKey
of_plan plans.CountMismatch = CountMismatch
of_plan plans.KeyChange = KeyChange
of_plan plans.TypeMismatch = TypeMismatch
of_plan (plans.RowTooLong len limit) = Engine (refusals.RowTooLong len limit)
of_plan (plans.KeyTooLong len limit) = KeyTooLong len limit
of_plan plans.Memory = Engine refusals.Memory

-- the fault of a new row that the fault of a value in it is
abbrev pub of_value : EvalFault → NewRowFault
of_value evals.Arithmetic = rows.Arithmetic
of_value evals.Memory = rows.Memory

-- of an expression
abbrev pub of_eval : EvalFault → StatementFault
of_eval evals.Arithmetic = Arithmetic
of_eval evals.Memory = Engine refusals.Memory

-- of a new row
abbrev pub of_new_row : NewRowFault → StatementFault
of_new_row rows.Arithmetic = Arithmetic
of_new_row rows.NullNotAllowed = NullNotAllowed
of_new_row (rows.TextTooLong len most) = TextTooLong len most
of_new_row rows.Memory = Engine refusals.Memory
