use Rattle.mg_trace.specs.PuttingLaws.{puts_both}
use Rattle.mg_trace.proofs.LoopLemmas.{number_put}
use Rattle.mg_trace.proofs.opening.put_next.Goals as goal

pub returns : goal.returns
returns c =
    puts_both _ _ _ _ _ c.word.ensures
    (puts_both _ _ _ _ _ (number_put _ _ _ _ c.from.ensures c.number.ensures) c.word-2.ensures)
