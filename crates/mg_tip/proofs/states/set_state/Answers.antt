use Rattle.std.proofs.Common.{arith, ◌∙◌}
use Rattle.mg_tip.proofs.TipPageLemmas.{sets_state}
use Rattle.mg_tip.proofs.states.set_state.Goals as goal

pub returns : goal.returns
returns c = sets_state c.args.b.now c.args.i c.with_bits.result c.args.s (omega (
  arith,
  c.requires,
)) (c.with_bits.ensures.set ∙ c.bits_of.ensures) c.with_bits.ensures.others
