use Rattle.std.proofs.Common.{arith, ap, inl, length, refl, ◌∙◌}
use Rattle.mg_base.specs.Image.{page_at}
use Rattle.mg_check_tables.proofs.ChainLemmas.{at_few, at_first, at_more, ends_adds, ends_decided, fails_one, goes_on, stops_adds_call, stops_one}
use Rattle.mg_check_tables.proofs.PointerLemmas.{few_entries, lawful_pointer, room_left}
use Rattle.mg_pointer.specs.PointerPage.{count_in, next_in}
use Rattle.mg_check_tables.proofs.table.note_chain.Goals as goal

pub returns-in-Err-clause-adds : goal.returns-in-Err-clause-adds
returns-in-Err-clause-adds c = stops_adds_call c.args.size (page_at c.args.size c.args.pages.now)
    (length c.args.pages.now) c.args.holder c.args.first c.args.findings.now.items
    c.loop-n.findings.items c.loop-n.from c.loop-n.n c.loop-n.at c.loop-n.place c.loop-n.invariant
    c.note.new.findings.items c.in-Err.damage c.check_seat.result c.note.result c.loop-n-test.true
    c.in-Err.is c.check_seat.ensures.found c.note.ensures.adds

pub returns-in-Err-clause-cause : goal.returns-in-Err-clause-cause
returns-in-Err-clause-cause c = λ failed. stops_one c.args.size
    (page_at c.args.size c.args.pages.now) (length c.args.pages.now) c.args.holder c.args.first
    c.args.findings.now.items c.loop-n.findings.items c.loop-n.from c.loop-n.n c.loop-n.at
    c.loop-n.place c.loop-n.invariant c.in-Err.damage c.check_seat.result c.loop-n-test.true
    c.in-Err.is c.check_seat.ensures.found

pub returns-in-Err-clause-decided : goal.returns-in-Err-clause-decided
returns-in-Err-clause-decided c = inl (stops_one c.args.size
    (page_at c.args.size c.args.pages.now) (length c.args.pages.now) c.args.holder c.args.first
    c.args.findings.now.items c.loop-n.findings.items c.loop-n.from c.loop-n.n c.loop-n.at
    c.loop-n.place c.loop-n.invariant c.in-Err.damage c.check_seat.result c.loop-n-test.true
    c.in-Err.is c.check_seat.ensures.found)

pub returns-in_err-note_entries-clause-cause : goal.returns-in_err-note_entries-clause-cause
returns-in_err-note_entries-clause-cause c = λ failed. fails_one c.args.size
    (page_at c.args.size c.args.pages.now) (length c.args.pages.now) c.args.holder c.args.first
    c.args.findings.now.items c.loop-n.findings.items c.loop-n.from c.loop-n.n c.loop-n.at
    c.loop-n.place c.loop-n.invariant c.check_seat.result c.loop-n-test.true c.in-Ok.is
    c.check_seat.ensures.found (c.in_err-note_entries.ensures.cause refl)

pub returns-in_err-note_entries-clause-decided : goal.returns-in_err-note_entries-clause-decided
returns-in_err-note_entries-clause-decided c = inl (fails_one c.args.size
    (page_at c.args.size c.args.pages.now) (length c.args.pages.now) c.args.holder c.args.first
    c.args.findings.now.items c.loop-n.findings.items c.loop-n.from c.loop-n.n c.loop-n.at
    c.loop-n.place c.loop-n.invariant c.check_seat.result c.loop-n-test.true c.in-Ok.is
    c.check_seat.ensures.found (c.in_err-note_entries.ensures.cause refl))

pub returns-clause-adds : goal.returns-clause-adds
returns-clause-adds c = ends_adds c.args.size (page_at c.args.size c.args.pages.now)
    (length c.args.pages.now) c.args.holder c.args.first c.args.findings.now.items
    c.loop-n.findings.items c.loop-n.from c.loop-n.n c.loop-n.at c.loop-n.place c.loop-n.invariant
    c.loop-n-test.false

pub returns-clause-decided : goal.returns-clause-decided
returns-clause-decided c = ends_decided c.args.size (page_at c.args.size c.args.pages.now)
    (length c.args.pages.now) c.args.holder c.args.first c.args.findings.now.items
    c.loop-n.findings.items c.loop-n.from c.loop-n.n c.loop-n.at c.loop-n.place c.loop-n.invariant
    c.loop-n-test.false

pub loop-n-preserved : goal.loop-n-preserved
loop-n-preserved c = goes_on c.args.size (page_at c.args.size c.args.pages.now)
    (length c.args.pages.now) c.args.holder c.args.first c.args.findings.now.items
    c.loop-n.findings.items c.loop-n.from c.loop-n.n c.loop-n.at c.loop-n.place c.loop-n.invariant
    c.note_entries.new.findings.items c.next_of-n.result.0 c.count_of-place.result c.check_seat.result
    c.loop-n-test.true c.in-Ok.is c.check_seat.ensures.found c.in-Ok.ensures.wanted
    c.in_ok-note_entries.ensures.adds c.note_entries.ensures.decided
    (c.next_of-n.ensures ∙ ap next_in (c.page_there-page.ensures c.args.size))
    (c.count_of-place.ensures.count ∙ ap count_in (c.page_there-page.ensures c.args.size))
    c.count_of-place.ensures.most

pub note_entries-requires-clause-lawful : goal.note_entries-requires-clause-lawful
note_entries-requires-clause-lawful c = lawful_pointer c.args.size c.args.pages.now c.args.first
    c.loop-n.at c.loop-n.n c.page_there-page.result.now c.requires
    (c.page_there-page.ensures c.args.size) c.in-Ok.ensures.wanted

pub loop-n-init : goal.loop-n-init
loop-n-init c = at_first c.args.size (page_at c.args.size c.args.pages.now)
    (length c.args.pages.now) c.args.holder c.args.first c.args.findings.now.items

pub loop-n-smaller : goal.loop-n-smaller
loop-n-smaller c = omega (
  arith,
  at_more c.args.size (page_at c.args.size c.args.pages.now) (length c.args.pages.now)
      c.args.holder c.args.first c.args.findings.now.items c.loop-n.findings.items c.loop-n.from
      c.loop-n.n c.loop-n.at c.loop-n.place c.loop-n.invariant c.in-Ok.ensures.wanted,
)

pub overflow_add-at : goal.overflow_add-at
overflow_add-at c = omega (
  arith,
  at_more c.args.size (page_at c.args.size c.args.pages.now) (length c.args.pages.now)
      c.args.holder c.args.first c.args.findings.now.items c.loop-n.findings.items c.loop-n.from
      c.loop-n.n c.loop-n.at c.loop-n.place c.loop-n.invariant c.in-Ok.ensures.wanted,
)

pub note_entries-requires-clause-room : goal.note_entries-requires-clause-room
note_entries-requires-clause-room c = room_left c.loop-n.place c.loop-n.at
    (count_in c.page_there-page.result.now) c.loop-n.invariant.room
    (at_few c.args.size (page_at c.args.size c.args.pages.now) (length c.args.pages.now)
    c.args.holder c.args.first c.args.findings.now.items c.loop-n.findings.items c.loop-n.from
    c.loop-n.n c.loop-n.at c.loop-n.place c.loop-n.invariant)
    (few_entries c.page_there-page.result.now (lawful_pointer c.args.size c.args.pages.now c.args.first c.loop-n.at c.loop-n.n
    c.page_there-page.result.now c.requires (c.page_there-page.ensures c.args.size)
    c.in-Ok.ensures.wanted))

pub count_of-place-requires : goal.count_of-place-requires
count_of-place-requires c = lawful_pointer c.args.size c.args.pages.now c.args.first c.loop-n.at c.loop-n.n
    c.page_there-page.result.now c.requires (c.page_there-page.ensures c.args.size)
    c.in-Ok.ensures.wanted

pub next_of-n-requires : goal.next_of-n-requires
next_of-n-requires c = lawful_pointer c.args.size c.args.pages.now c.args.first c.loop-n.at c.loop-n.n
    c.page_there-page.result.now c.requires (c.page_there-page.ensures c.args.size)
    c.in-Ok.ensures.wanted

pub overflow_add-place : goal.overflow_add-place
overflow_add-place c = omega (
  arith,
  room_left c.loop-n.place c.loop-n.at c.count_of-place.result
      c.loop-n.invariant.room
      (at_few c.args.size (page_at c.args.size c.args.pages.now) (length c.args.pages.now)
      c.args.holder c.args.first c.args.findings.now.items c.loop-n.findings.items c.loop-n.from
      c.loop-n.n c.loop-n.at c.loop-n.place c.loop-n.invariant)
      c.count_of-place.ensures.most,
)
