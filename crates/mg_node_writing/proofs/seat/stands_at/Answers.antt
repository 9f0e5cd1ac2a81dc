use Rattle.std.proofs.Common.{arith}
use Rattle.mg_node_writing.proofs.SeatLemmas.{plain_ends}
use Rattle.mg_node_writing.proofs.seat.stands_at.Goals as goal

pub order_with-requires : goal.order_with-requires
order_with-requires c =
    plain_ends c.args.b.now c.args.n c.place.result c.requires.lawful c.place.ensures.is (omega arith)
