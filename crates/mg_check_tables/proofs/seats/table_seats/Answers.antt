use Rattle.std.proofs.Common.{length}
use Rattle.mg_base.specs.Image.{page_at}
use Rattle.mg_check_tables.proofs.SeatLemmas.{zero_seats}
use Rattle.mg_check_tables.proofs.seats.table_seats.Goals as goal

pub returns-then-first-eq0 : goal.returns-then-first-eq0
returns-then-first-eq0 c = zero_seats c.args.size (page_at c.args.size c.args.pages.now)
    (length c.args.pages.now) c.args.holder c.args.first c.new.result.items c.check_link.result
    c.new.ensures.items c.if-first-eq0.true c.check_link.ensures.test
