-- What a reading has answered.
use Rattle.std.specs.Prelude.{Bool, false, Option, Some, None}
use Rattle.mg_model.specs.declared.refusal.Refusal.TheVariants as refusals
use Rattle.mg_rows.specs.declared.statement_fault.StatementFault.{StatementFault}
use Rattle.mg_rows.specs.declared.statement_fault.StatementFault.TheVariants.{Engine}
use Rattle.mg_script.specs.declared.reply.Reply.{Reply}
use Rattle.mg_script.specs.declared.reply.Reply.TheVariants as replies
use Rattle.mg_courses.specs.declared.statements.Ending.{Ending}
use Rattle.mg_courses.specs.declared.statements.Stepped.{Stepped}
use Rattle.mg_courses.specs.declared.statements.Stepped.TheVariants.{More, Waits, Ended}

-- why it was refused, if it was
abbrev pub fault_in : Reply → Option StatementFault
fault_in (replies.No fault) = Some fault
fault_in reply = None

abbrev pub answered_so : Reply → Bool → Ending
answered_so reply over = record { reply = reply; over = over }

-- A reading is at its end; one that is told to go on or to wait, as none is, is told as its answer would be.
abbrev pub at_end : Stepped → Ending
at_end More = answered_so replies.Held false
at_end (Waits on) = answered_so (replies.No (Engine (refusals.Waits on))) false
at_end (Ended ending) = ending
