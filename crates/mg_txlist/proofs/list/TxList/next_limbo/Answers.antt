use Rattle.mg_txlist.proofs.SeekingLemmas.{none_four}
use Rattle.mg_txlist.proofs.list.TxList.next_limbo.Goals as goal

pub loop-t-preserved-then-are_four_settled : goal.loop-t-preserved-then-are_four_settled
loop-t-preserved-then-are_four_settled c = none_four c.args.self.now c.args.from.0 c.loop-t.t
    c.requires.some c.loop-t.invariant c.if-are_four_settled.ensures
