use Rattle.mg_base.specs.Image.{page_at}
use Rattle.mg_stat.proofs.FigureLemmas.{bit_passed}
use Rattle.mg_stat.proofs.figures.used_bit.Goals as goal

pub returns-in-Ok-clause-bit : goal.returns-in-Ok-clause-bit
returns-in-Ok-clause-bit c = bit_passed c.args.size (page_at c.args.size c.args.pages.now) c.args.n
    c.check_bit.result c.check_bit.ensures c.in-Ok.is
