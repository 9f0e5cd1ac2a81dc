use Rattle.mg_trace.specs.PuttingLaws.{puts_both}
use Rattle.mg_trace.proofs.event.put_mode.Goals as goal

pub returns : goal.returns
returns c =
    puts_both _ _ _ _ _ c.put_either.ensures (puts_both _ _ _ _ _ c.put_either-2.ensures c.put_either-3.ensures)
