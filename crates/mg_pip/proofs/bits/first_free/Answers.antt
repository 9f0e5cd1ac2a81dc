use Rattle.std.proofs.Common.{◌+◌, ◌/◌, arith}
use Rattle.mg_pip.proofs.PipPageLemmas.{all_used, first_free_is, least_used}
use Rattle.mg_pip.proofs.bits.first_free.Goals as goal

pub returns-in_err-at : goal.returns-in_err-at
returns-in_err-at c = rw c.from_residual.ensures
    (all_used c.args.b.now c.args.below (16 + (c.args.below
    + 7) / 8) (omega arith) c.in_err-at.ensures)

pub returns-then-bit-below : goal.returns-then-bit-below
returns-then-bit-below c = first_free_is c.args.b.now c.args.below (16
    + (c.args.below
    + 7) / 8) c.in_ok-at.at c.first_open_bit.result c.in_ok-at.ensures
    c.first_open_bit.ensures.inside c.first_open_bit.ensures.clear
    c.first_open_bit.ensures.least c.if-bit-below.true

pub returns-else-bit-below : goal.returns-else-bit-below
returns-else-bit-below c = λ bit inside.
    least_used c.args.b.now (16 + (c.args.below
    + 7) / 8) c.in_ok-at.at c.first_open_bit.result c.in_ok-at.ensures
    c.first_open_bit.ensures.least c.first_open_bit.ensures.inside bit (omega arith)
