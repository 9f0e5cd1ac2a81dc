use Rattle.std.proofs.Common.{sym, ap, ◌∙◌, refl}
use Rattle.mg_script.specs.Lines.{takes_steps}
use Rattle.mg_statements.specs.Plain.{plain_of}
use Rattle.mg_statements.specs.declared.fault.SqlFault.TheVariants.{Syntax, NameTooLong, NumberTooLarge, TooDeep}
use Rattle.mg_script.proofs.ReadingLemmas.{faulty_held}
use Rattle.mg_script.proofs.reading.may_be_held.Goals as goal

pub returns-in-Ok : goal.returns-in-Ok
returns-in-Ok c = (
  λ takes s parses.
      ap takes_steps (c.texts_are_one_statement.ensures c.args.text.now s (plain_of c.in-Ok.statement) parses c.in-Ok.ensures)
      ∙ (sym c.is_in_steps-is.ensures ∙ takes),
  λ held. c.is_in_steps-is.ensures ∙ held (plain_of c.in-Ok.statement) c.in-Ok.ensures,
)

pub returns-in-Err-Syntax : goal.returns-in-Err-Syntax
returns-in-Err-Syntax c =
    faulty_held c.args.text.now (Syntax c.in-Err-Syntax.field-0-0) c.statements_have_no_fault.ensures (rw c.in-Err-Syntax.field-0-is at c.in-Err-Syntax.ensures)

pub returns-in-Err-NameTooLong : goal.returns-in-Err-NameTooLong
returns-in-Err-NameTooLong c =
    faulty_held c.args.text.now (NameTooLong c.in-Err-NameTooLong.field-0-0) c.statements_have_no_fault.ensures (rw c.in-Err-NameTooLong.field-0-is at c.in-Err-NameTooLong.ensures)

pub returns-in-Err-NumberTooLarge : goal.returns-in-Err-NumberTooLarge
returns-in-Err-NumberTooLarge c =
    faulty_held c.args.text.now (NumberTooLarge c.in-Err-NumberTooLarge.field-0-0) c.statements_have_no_fault.ensures (rw c.in-Err-NumberTooLarge.field-0-is at c.in-Err-NumberTooLarge.ensures)

pub returns-in-Err-TooDeep : goal.returns-in-Err-TooDeep
returns-in-Err-TooDeep c =
    faulty_held c.args.text.now (TooDeep c.in-Err-TooDeep.field-0-0) c.statements_have_no_fault.ensures (rw c.in-Err-TooDeep.field-0-is at c.in-Err-TooDeep.ensures)
