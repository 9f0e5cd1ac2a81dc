use Rattle.std.proofs.Common.{arith}
use Rattle.mg_load_rows.proofs.RowLemmas.{sum_all, sum_few, sum_more}
use Rattle.mg_load_rows.proofs.figures.sum_of.Goals as goal

pub loop-i-preserved : goal.loop-i-preserved
loop-i-preserved c = sum_more c.loop-i.i c.loop-i.sum c.group_of-sum.result c.loop-i.invariant
    c.group_of-sum.ensures.group

pub overflow_add-sum : goal.overflow_add-sum
overflow_add-sum c = omega (
  arith,
  c.loop-i.invariant,
  sum_few c.loop-i.i,
  c.group_of-sum.ensures.below,
  c.requires,
)

pub returns : goal.returns
returns c = sum_all c.loop-i.i c.args.rows c.loop-i.sum c.loop-i.auto.i-end c.loop-i-test.false
    c.loop-i.invariant
