use Rattle.mg_trace.specs.Text.{spaced_row}
use Rattle.mg_trace.specs.PuttingLaws.{puts_both, puts_none}
use Rattle.mg_trace.proofs.LoopLemmas.{item_put, items_put}
use Rattle.mg_trace.proofs.answer.put_rows.Goals as goal

pub returns : goal.returns
returns c =
    puts_both _ _ _ _ _ c.word.ensures
    (items_put spaced_row c.args.rows.now c.loop-row.row-index c.word.new.self c.loop-row.trace
    c.loop-row-test.false c.loop-row.invariant)

pub loop-row-init : goal.loop-row-init
loop-row-init c = puts_none c.word.new.self

pub loop-row-preserved : goal.loop-row-preserved
loop-row-preserved c =
    item_put spaced_row c.args.rows.now c.loop-row.row-index c.row-item.result c.word.new.self
    c.loop-row.trace c.put_row.new.trace c.loop-row-test.true c.row-item.is c.loop-row.invariant c.put_row.ensures
