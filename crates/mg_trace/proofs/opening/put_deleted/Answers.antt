use Rattle.std.proofs.Common.{ap}
use Rattle.mg_value.specs.Values.{printed}
use Rattle.mg_trace.specs.PuttingLaws.{puts_as, puts_both}
use Rattle.mg_trace.proofs.opening.put_deleted.Goals as goal

pub returns : goal.returns
returns c =
    puts_both _ _ _ _ _ c.word.ensures (puts_as _ _ _ _ (ap printed c.value.ensures.value) c.value-2.ensures)
