use Rattle.mg_trace.specs.PuttingLaws.{puts_both}
use Rattle.mg_trace.proofs.answer.put_row.Goals as goal

pub returns : goal.returns
returns c = puts_both _ _ _ _ _ c.word.ensures c.row.ensures
