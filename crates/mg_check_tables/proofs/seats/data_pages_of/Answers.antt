use Rattle.std.proofs.Common.{length}
use Rattle.mg_base.specs.Image.{page_at}
use Rattle.mg_check_tables.proofs.SeatLemmas.{never_failed, passed_pages}
use Rattle.mg_check_tables.proofs.seats.data_pages_of.Goals as goal

pub returns : goal.returns
returns c = passed_pages c.args.size (page_at c.args.size c.args.pages.now) (length c.args.pages.now)
    c.args.holder c.args.first c.as_slice.result.now c.in_ok-it.it.seats.items c.in_ok-it.it.test
    c.seat_pages.result c.in_ok-it.ensures c.in-Ok.is c.as_slice.ensures.value c.seat_pages.ensures

pub unreachable-requires : goal.unreachable-requires
unreachable-requires c = never_failed c.args.size (page_at c.args.size c.args.pages.now)
    (length c.args.pages.now) c.args.holder c.args.first c.in_ok-it.it.seats.items c.in_ok-it.it.test
    c.in-Err.field-0 c.in_ok-it.ensures c.requires.none c.in-Err.is
