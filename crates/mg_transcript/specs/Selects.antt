-- What a SELECT answers of the rows that it found.
use Rattle.std.specs.Prelude.{List, Result, Ok, Err}
use Rattle.mg_value.specs.declared.shape.Shape.{Shape}
use Rattle.mg_expr.specs.declared.fault.EvalFault.{EvalFault}
use Rattle.mg_statements.specs.Plain.{Plain}
use Rattle.mg_plan.specs.Statements.{bound_plain, places_in}
use Rattle.mg_model.specs.Changes.{Cells}
use Rattle.mg_rows.specs.declared.outcome.Outcome.TheVariants as outcomes
use Rattle.mg_rows.specs.Answering.{Answers as BoundAnswers}
use Rattle.mg_rows.specs.Faults.{of_eval}
use Rattle.mg_script.specs.declared.reply.Reply.{Reply}
use Rattle.mg_script.specs.declared.reply.Reply.TheVariants as replies

-- what a SELECT that is not bound gives of the rows that it found
abbrev pub Answers : Shape → Plain → List Cells → Result (List Cells) EvalFault → Type 0
Answers shape s rows given =
    BoundAnswers (bound_plain shape.columns s) (places_in shape.columns s) shape.key rows given

-- that as the answer of the statement
abbrev pub reply_with : Result (List Cells) EvalFault → Reply
reply_with (Ok rows) = replies.Ok (outcomes.Rows rows)
reply_with (Err fault) = replies.No (of_eval fault)
