use Rattle.std.proofs.Common.{arith}
use Rattle.mg_load_rows.proofs.RowLemmas.{sevens_all, sevens_few, sevens_more}
use Rattle.mg_load_rows.proofs.figures.sevens_of.Goals as goal

pub loop-i-preserved : goal.loop-i-preserved
loop-i-preserved c = sevens_more c.loop-i.i c.loop-i.sevens c.seven-sevens.result c.loop-i.invariant
    c.seven-sevens.ensures.seven

pub overflow_add-sevens : goal.overflow_add-sevens
overflow_add-sevens c = omega (
  arith,
  c.loop-i.invariant,
  sevens_few c.loop-i.i,
  c.seven-sevens.ensures.most,
  c.requires,
)

pub returns : goal.returns
returns c = sevens_all c.loop-i.i c.args.rows c.loop-i.sevens c.loop-i.auto.i-end c.loop-i-test.false
    c.loop-i.invariant
