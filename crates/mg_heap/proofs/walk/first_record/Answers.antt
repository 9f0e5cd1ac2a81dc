use Rattle.std.proofs.Common.{arith}
use Rattle.mg_heap.proofs.WalkLemmas.{none_left}
use Rattle.mg_heap.proofs.walk.first_record.Goals as goal

pub returns : goal.returns
returns c = none_left c.args.b.now c.args.from c.loop-place.place (omega arith) c.loop-place.invariant
