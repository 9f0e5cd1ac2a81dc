use Rattle.std.proofs.Common.{◌-◌}
use Rattle.mg_txlist.proofs.SeekingLemmas.{HasNone}
use Rattle.mg_txlist.proofs.list.TxList.next_limbo.Given as goal

abbrev pub invariant-loop-t : goal.invariant-loop-t
invariant-loop-t l = HasNone l.self l.fn.from.0 l.t

abbrev pub decreases-loop-t : goal.decreases-loop-t
decreases-loop-t l = l.self.first - l.t
