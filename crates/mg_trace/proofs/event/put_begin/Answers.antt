use Rattle.std.proofs.Common.{ap}
use Rattle.std.specs.Prelude.{codes}
use Rattle.mg_trace.specs.PuttingLaws.{puts_as, puts_both}
use Rattle.mg_trace.specs.Text.{by_text}
use Rattle.mg_trace.proofs.event.put_begin.Goals as goal

pub returns : goal.returns
returns c =
    puts_both _ _ _ _ _ (puts_as _ _ _ _ (ap (by_text (codes "BEGIN ")) c.from.ensures) c.put_by.ensures)
    (puts_both _ _ _ _ _ c.word.ensures c.put_mode.ensures)
