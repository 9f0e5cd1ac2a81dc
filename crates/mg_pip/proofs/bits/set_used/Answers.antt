use Rattle.std.proofs.Common.{ap, ◌∙◌}
use Rattle.std.specs.Prelude.{◌==◌, ℕ}
use Rattle.mg_pip.proofs.PipPageLemmas.{one_if_used, sets_used}
use Rattle.mg_pip.proofs.bits.set_used.Goals as goal

pub returns : goal.returns
returns c = sets_used c.args.b.now c.args.bit c.with_bit.result c.args.used c.from.result c.requires
    (ap (λ (x : ℕ). x == 1) c.from.ensures ∙
    one_if_used c.args.used) c.with_bit.ensures.set c.with_bit.ensures.others
