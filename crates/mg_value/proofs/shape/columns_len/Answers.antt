use Rattle.std.proofs.Common.{arith}
use Rattle.mg_value.proofs.ShapeLemmas.{widths_more, kinds_more}
use Rattle.mg_value.proofs.shape.columns_len.Goals as goal

pub loop-column-preserved : goal.loop-column-preserved
loop-column-preserved c = record {
  sum = omega (arith, c.loop-column.invariant.sum, c.width-len.ensures.width, widths_more c.args.columns.now c.loop-column.column-index c.column-item.result c.loop-column-test.true c.column-item.is);
  bound = omega (arith, c.loop-column.invariant.bound, c.width-len.ensures.most);
  kinds = kinds_more c.args.columns.now c.loop-column.column-index c.column-item.result c.loop-column-test.true c.column-item.is (omega (arith, c.width-len.ensures.width, c.width-len.ensures.most)) c.loop-column.invariant.kinds;
}
