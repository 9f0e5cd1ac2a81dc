use Rattle.std.proofs.Common.{rules}
use Rattle.std.proofs.lemmas.List.{length-set}
use Rattle.mg_pool.proofs.LeastLemmas.{mark_turn}
use Rattle.mg_pool.proofs.dirty.mark_all.Goals as goal

pub loop-i-preserved : goal.loop-i-preserved
loop-i-preserved g c =
    (rw c.mark.ensures (mark_turn c.args.who c.args.pages.now.items c.loop-i.pages.items c.loop-i.i c.index_mut-entry.result.now (search rules) c.loop-i.invariant.0 c.index_mut-entry.ensures.value), c.loop-i.invariant.1, rw length-set c.loop-i.invariant.2)
