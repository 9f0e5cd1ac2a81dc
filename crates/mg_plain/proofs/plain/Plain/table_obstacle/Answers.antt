-- The catalog has none, another table that of its key.
use Rattle.mg_plain.specs.Keeping.{told_in}
use Rattle.mg_plain.specs.Kept.{kept}
use Rattle.mg_plain.proofs.AnswerLemmas.{catalog_free, table_hindered}
use Rattle.mg_plain.proofs.ExitLemmas.{no_answer}
use Rattle.mg_plain.proofs.plain.Plain.table_obstacle.Goals as goal

pub returns-then-same_name : goal.returns-then-same_name
returns-then-same_name c = catalog_free (told_in (kept c.args.self.now)) c.args.t c.args.table.now c.as_slice.result.now
    c.as_slice.ensures.bytes c.if-same_name.ensures

pub returns : goal.returns
returns c = table_hindered (told_in (kept c.args.self.now)) c.args.t c.args.table.now c.as_slice.result.now
    c.as_slice-2.result.now c.in_ok-key.key c.obstacle.result c.as_slice.ensures.bytes c.if-same_name.ensures
    c.as_slice-2.ensures.bytes c.in_ok-key.ensures c.obstacle.ensures

pub returns-in_err-key : goal.returns-in_err-key
returns-in_err-key c = no_answer _ c.from_residual.result c.from_residual.ensures.0
