use Rattle.mg_check_tables.proofs.SeatLemmas.{entry_more}
use Rattle.mg_check_tables.proofs.seats.list_entries.Goals as goal

pub loop-i-preserved : goal.loop-i-preserved
loop-i-preserved c = entry_more c.args.page.now c.args.seat.owner c.args.seat.page c.args.seat.place
    c.loop-i.i c.seat_of.result c.args.seats.now.items c.loop-i.seats.items c.push.new.self.items
    c.seat_of.ensures.holder c.seat_of.ensures.page c.seat_of.ensures.owner c.seat_of.ensures.place
    c.loop-i.invariant c.in_ok-push.ensures.items
