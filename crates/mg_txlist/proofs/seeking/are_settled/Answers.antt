use Rattle.std.proofs.Common.{refl, arith}
use Rattle.mg_txlist.proofs.SeekingLemmas.{settled_four}
use Rattle.mg_txlist.proofs.seeking.are_settled.Goals as goal

pub returns : goal.returns
returns c = settled_four c.args.b.now c.args.place _ c.shows_no_limbo.result
    (let first = c.if-place-gt0.false in omega (arith, first)) refl c.shows_no_limbo.ensures
