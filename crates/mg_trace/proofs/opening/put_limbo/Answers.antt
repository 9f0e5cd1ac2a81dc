use Rattle.mg_trace.specs.Openings.{limbo_line}
use Rattle.mg_trace.specs.PuttingLaws.{puts_none}
use Rattle.mg_trace.proofs.LoopLemmas.{item_put, items_put}
use Rattle.mg_trace.proofs.opening.put_limbo.Goals as goal

pub returns : goal.returns
returns c =
    items_put limbo_line c.args.changes.now c.loop-change.change-index c.args.trace.now c.loop-change.trace
    c.loop-change-test.false c.loop-change.invariant

pub loop-change-init : goal.loop-change-init
loop-change-init c = puts_none c.args.trace.now

pub loop-change-preserved : goal.loop-change-preserved
loop-change-preserved c =
    item_put limbo_line c.args.changes.now c.loop-change.change-index c.change-item.result c.args.trace.now
    c.loop-change.trace c.put_change.new.trace c.loop-change-test.true c.change-item.is c.loop-change.invariant
    c.put_change.ensures
