use Rattle.mg_trace.specs.PuttingLaws.{puts_both}
use Rattle.mg_trace.proofs.opening.put_change.Goals as goal

pub returns : goal.returns
returns c =
    puts_both _ _ _ _ _ c.put_by.ensures
    (puts_both _ _ _ _ _ c.word.ensures
    (puts_both _ _ _ _ _ c.name.ensures (puts_both _ _ _ _ _ c.put_what.ensures c.word-2.ensures)))
