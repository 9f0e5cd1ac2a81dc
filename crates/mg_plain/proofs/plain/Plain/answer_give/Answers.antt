-- What hinders at the table comes first.
use Rattle.mg_plain.specs.Keeping.{told_in}
use Rattle.mg_plain.specs.Kept.{kept}
use Rattle.mg_plain.proofs.AnswerLemmas.{give_hindered, give_missing, give_found}
use Rattle.mg_plain.proofs.plain.Plain.answer_give.Goals as goal

pub returns-in-Some : goal.returns-in-Some
returns-in-Some c = give_hindered (told_in (kept c.args.self.now)) c.args.t c.args.table.now c.args.key.now c.in_ok-refusal.field-0 c.in-Some.refusal c.in_ok-refusal.ensures c.in-Some.is

pub returns-then-has_row : goal.returns-then-has_row
returns-then-has_row c = give_found (told_in (kept c.args.self.now)) c.args.t c.args.table.now c.args.key.now c.in_ok-refusal.field-0 c.answer_key.result c.in_ok-refusal.ensures c.in-None.is c.if-has_row.ensures c.answer_key.ensures

pub returns-else-has_row : goal.returns-else-has_row
returns-else-has_row c = give_missing (told_in (kept c.args.self.now)) c.args.t c.args.table.now c.args.key.now c.in_ok-refusal.field-0 c.in_ok-refusal.ensures c.in-None.is c.if-has_row.ensures
