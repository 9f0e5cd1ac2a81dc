use Rattle.std.proofs.Common.{sym}
use Rattle.mg_careful.proofs.ReadyLemmas.{least_more}
use Rattle.mg_careful.proofs.ready.least_ready.Goals as goal

pub loop-i-preserved : goal.loop-i-preserved
loop-i-preserved c = rw c.lesser-least.ensures (least_more _ c.loop-i.i c.loop-i.least c.ready_page.result c.loop-i.invariant (sym c.ready_page.ensures))
