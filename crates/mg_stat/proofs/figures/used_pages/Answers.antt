use Rattle.std.proofs.Common.{arith}
use Rattle.mg_base.specs.Image.{page_at}
use Rattle.mg_base.specs.declared.geometry.TheConstants.{GREATEST_LIMIT}
use Rattle.mg_stat.proofs.FigureLemmas.{used_all, used_few, used_more}
use Rattle.mg_stat.proofs.figures.used_pages.Goals as goal

pub loop-n-preserved : goal.loop-n-preserved
loop-n-preserved c = used_more c.args.size (page_at c.args.size c.args.pages.now) c.loop-n.n
    c.loop-n.used c.used_bit-used.result c.loop-n.invariant c.used_bit-used.ensures.bit

pub overflow_add-used : goal.overflow_add-used
overflow_add-used c = omega (
  arith,
  c.loop-n.invariant,
  used_few c.args.size (page_at c.args.size c.args.pages.now) c.loop-n.n,
  c.used_bit-used.ensures.most,
)

pub returns : goal.returns
returns c = used_all c.args.size (page_at c.args.size c.args.pages.now) c.loop-n.n GREATEST_LIMIT
    c.loop-n.used c.loop-n.auto.n-end c.loop-n-test.false c.loop-n.invariant
