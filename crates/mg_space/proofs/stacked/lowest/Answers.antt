use Rattle.mg_space.proofs.StackedLemmas.{none_stacked, stacked_on}
use Rattle.mg_space.proofs.stacked.lowest.Goals as goal

pub loop-slot-init : goal.loop-slot-init
loop-slot-init c = none_stacked c.args.b.now

pub loop-slot-preserved : goal.loop-slot-preserved
loop-slot-preserved c = stacked_on c.args.b.now c.loop-slot.slot c.loop-slot.low c.in-Some.next
    c.loop-slot.invariant c.in-Some.ensures
