use Rattle.mg_trace.specs.PuttingLaws.{puts_both}
use Rattle.mg_trace.proofs.event.put_insert.Goals as goal

pub returns : goal.returns
returns c = puts_both _ _ _ _ _ c.put_named.ensures (puts_both _ _ _ _ _ c.word.ensures c.row.ensures)
