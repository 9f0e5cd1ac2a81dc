use Rattle.std.proofs.Common.{arith}
use Rattle.mg_pointer.proofs.PointerPageLemmas.{sets_next}
use Rattle.mg_pointer.proofs.next.set_next.Goals as goal

pub returns : goal.returns
returns c = rw c.put_u32.ensures (sets_next c.args.b.now c.args.p.0 c.requires (omega arith))
