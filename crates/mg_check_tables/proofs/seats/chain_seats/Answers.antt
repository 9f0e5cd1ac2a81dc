use Rattle.std.proofs.Common.{arith, length}
use Rattle.mg_base.specs.Image.{page_at}
use Rattle.mg_check_tables.proofs.PointerLemmas.{few_entries, lawful_pointer, room_left}
use Rattle.mg_check_tables.proofs.SeatLemmas.{listed_few, listed_more, listing_ends, listing_first, listing_goes_on, listing_stops}
use Rattle.mg_pointer.specs.PointerPage.{count_in}
use Rattle.mg_check_tables.proofs.seats.chain_seats.Goals as goal

pub returns-in-Err : goal.returns-in-Err
returns-in-Err c = listing_stops c.args.size (page_at c.args.size c.args.pages.now)
    (length c.args.pages.now) c.args.holder c.args.first c.loop-n.seats.items c.loop-n.from c.loop-n.n
    c.loop-n.at c.loop-n.place c.loop-n.invariant c.in-Err.damage c.check_seat.result c.requires.some
    c.loop-n-test.true c.in-Err.is c.check_seat.ensures.found

pub returns : goal.returns
returns c = listing_ends c.args.size (page_at c.args.size c.args.pages.now)
    (length c.args.pages.now) c.args.holder c.args.first c.loop-n.seats.items c.loop-n.from c.loop-n.n
    c.loop-n.at c.loop-n.place c.loop-n.invariant c.requires.some c.loop-n-test.false

pub loop-n-preserved : goal.loop-n-preserved
loop-n-preserved c = listing_goes_on c.args.size (page_at c.args.size c.args.pages.now)
    (length c.args.pages.now) c.args.holder c.args.first c.loop-n.seats.items c.loop-n.from c.loop-n.n
    c.loop-n.at c.loop-n.place c.loop-n.invariant c.list_entries.new.seats.items
    c.page_there-page.result.now c.next_of-n.result.0 c.count_of-place.result c.check_seat.result
    c.loop-n-test.true c.in-Ok.is c.check_seat.ensures.found c.in-Ok.ensures.wanted
    (c.page_there-page.ensures c.args.size) c.in_ok-list_entries.ensures.adds c.next_of-n.ensures
    c.count_of-place.ensures.count c.count_of-place.ensures.most

pub list_entries-requires-clause-lawful : goal.list_entries-requires-clause-lawful
list_entries-requires-clause-lawful c = lawful_pointer c.args.size c.args.pages.now c.args.first
    c.loop-n.at c.loop-n.n c.page_there-page.result.now c.requires.image
    (c.page_there-page.ensures c.args.size) c.in-Ok.ensures.wanted

pub loop-n-init : goal.loop-n-init
loop-n-init c = listing_first c.args.size (page_at c.args.size c.args.pages.now)
    (length c.args.pages.now) c.args.holder c.args.first c.new-seats.result.items
    c.new-seats.ensures.items

pub loop-n-smaller : goal.loop-n-smaller
loop-n-smaller c = omega (
  arith,
  listed_more c.args.size (page_at c.args.size c.args.pages.now) (length c.args.pages.now)
      c.args.holder c.args.first c.loop-n.seats.items c.loop-n.from c.loop-n.n c.loop-n.at
      c.loop-n.place c.loop-n.invariant c.in-Ok.ensures.wanted,
)

pub overflow_add-at : goal.overflow_add-at
overflow_add-at c = omega (
  arith,
  listed_more c.args.size (page_at c.args.size c.args.pages.now) (length c.args.pages.now)
      c.args.holder c.args.first c.loop-n.seats.items c.loop-n.from c.loop-n.n c.loop-n.at
      c.loop-n.place c.loop-n.invariant c.in-Ok.ensures.wanted,
)

pub list_entries-requires-clause-room : goal.list_entries-requires-clause-room
list_entries-requires-clause-room c = room_left c.loop-n.place c.loop-n.at
    (count_in c.page_there-page.result.now) c.loop-n.invariant.room
    (listed_few c.args.size (page_at c.args.size c.args.pages.now) (length c.args.pages.now)
    c.args.holder c.args.first c.loop-n.seats.items c.loop-n.from c.loop-n.n c.loop-n.at
    c.loop-n.place c.loop-n.invariant)
    (few_entries c.page_there-page.result.now (lawful_pointer c.args.size c.args.pages.now c.args.first c.loop-n.at c.loop-n.n
    c.page_there-page.result.now c.requires.image (c.page_there-page.ensures c.args.size)
    c.in-Ok.ensures.wanted))

pub count_of-place-requires : goal.count_of-place-requires
count_of-place-requires c = lawful_pointer c.args.size c.args.pages.now c.args.first c.loop-n.at c.loop-n.n
    c.page_there-page.result.now c.requires.image (c.page_there-page.ensures c.args.size)
    c.in-Ok.ensures.wanted

pub next_of-n-requires : goal.next_of-n-requires
next_of-n-requires c = lawful_pointer c.args.size c.args.pages.now c.args.first c.loop-n.at c.loop-n.n
    c.page_there-page.result.now c.requires.image (c.page_there-page.ensures c.args.size)
    c.in-Ok.ensures.wanted

pub overflow_add-place : goal.overflow_add-place
overflow_add-place c = omega (
  arith,
  room_left c.loop-n.place c.loop-n.at c.count_of-place.result
      c.loop-n.invariant.room
      (listed_few c.args.size (page_at c.args.size c.args.pages.now) (length c.args.pages.now)
      c.args.holder c.args.first c.loop-n.seats.items c.loop-n.from c.loop-n.n c.loop-n.at
      c.loop-n.place c.loop-n.invariant)
      c.count_of-place.ensures.most,
)
