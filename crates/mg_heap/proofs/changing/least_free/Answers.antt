use Rattle.std.proofs.Common.{arith}
use Rattle.mg_heap.proofs.ChangingLemmas.{least_here, least_on}
use Rattle.mg_heap.proofs.changing.least_free.Goals as goal

pub returns-then-not-is_used : goal.returns-then-not-is_used
returns-then-not-is_used c = least_here c.args.b.now c.loop-slot.slot c.is_used.result (omega arith)
    c.loop-slot.invariant c.is_used.ensures cc

pub loop-slot-preserved : goal.loop-slot-preserved
loop-slot-preserved c = least_on c.args.b.now c.loop-slot.slot c.is_used.result c.loop-slot.invariant
    c.is_used.ensures cc
