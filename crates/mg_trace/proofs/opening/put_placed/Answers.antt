use Rattle.mg_trace.specs.Openings.{row_line}
use Rattle.mg_trace.specs.PuttingLaws.{puts_none}
use Rattle.mg_trace.proofs.LoopLemmas.{item_put, items_put}
use Rattle.mg_trace.proofs.opening.put_placed.Goals as goal

pub returns : goal.returns
returns c =
    items_put row_line c.args.rows.now c.loop-placed.placed-index c.args.trace.now c.loop-placed.trace
    c.loop-placed-test.false c.loop-placed.invariant

pub loop-placed-init : goal.loop-placed-init
loop-placed-init c = puts_none c.args.trace.now

pub loop-placed-preserved : goal.loop-placed-preserved
loop-placed-preserved c =
    item_put row_line c.args.rows.now c.loop-placed.placed-index c.placed-item.result c.args.trace.now
    c.loop-placed.trace c.put_placed_row.new.trace c.loop-placed-test.true c.placed-item.is c.loop-placed.invariant
    c.put_placed_row.ensures
