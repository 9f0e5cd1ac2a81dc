use Rattle.std.proofs.Common.{arith, ap, inl, length, refl, ◌∙◌}
use Rattle.mg_base.specs.Image.{page_at}
use Rattle.mg_check_tables.proofs.EntryLemmas.{adds_all, adds_entry, decided_all, decided_entry, one_entry, seat_is}
use Rattle.mg_pointer.specs.PointerPage.{count_in}
use Rattle.mg_check_tables.proofs.entries.note_entries.Goals as goal

pub loop-i-preserved : goal.loop-i-preserved
loop-i-preserved c =
    let same = seat_is (page_at c.args.size c.args.pages.now) c.args.page.now c.args.seat.owner
    c.args.seat.page c.args.seat.place c.loop-i.i c.seat_of.result c.requires.page
    c.seat_of.ensures.holder c.seat_of.ensures.page c.seat_of.ensures.owner c.seat_of.ensures.place in
    let many = c.count_of-i-end.ensures.count ∙ ap count_in c.requires.page in (
      adds_entry c.args.size (page_at c.args.size c.args.pages.now) (length c.args.pages.now)
          c.args.seat.owner c.args.seat.page c.args.seat.place c.loop-i.i c.seat_of.result
          c.args.findings.now.items c.loop-i.findings.items c.note_data.new.findings.items same
          c.loop-i.invariant.0 c.in_ok-note_data.ensures.adds,
      decided_entry c.args.size (page_at c.args.size c.args.pages.now) (length c.args.pages.now)
          c.args.seat.owner c.args.seat.page c.args.seat.place c.loop-i.i c.seat_of.result
          (omega (arith, many, c.loop-i-test.true)) same c.loop-i.invariant.1 c.note_data.ensures.decided,
    )

pub returns-in_err-note_data-clause-cause : goal.returns-in_err-note_data-clause-cause
returns-in_err-note_data-clause-cause c = λ failed.
    let same = seat_is (page_at c.args.size c.args.pages.now) c.args.page.now c.args.seat.owner
    c.args.seat.page c.args.seat.place c.loop-i.i c.seat_of.result c.requires.page
    c.seat_of.ensures.holder c.seat_of.ensures.page c.seat_of.ensures.owner c.seat_of.ensures.place in
    let many = c.count_of-i-end.ensures.count ∙ ap count_in c.requires.page in
    one_entry c.args.size (page_at c.args.size c.args.pages.now) (length c.args.pages.now)
    c.args.seat.owner c.args.seat.page c.args.seat.place c.loop-i.i c.seat_of.result
    (omega (arith, many, c.loop-i-test.true)) same (c.in_err-note_data.ensures.cause refl)

pub returns-in_err-note_data-clause-decided : goal.returns-in_err-note_data-clause-decided
returns-in_err-note_data-clause-decided c =
    let same = seat_is (page_at c.args.size c.args.pages.now) c.args.page.now c.args.seat.owner
    c.args.seat.page c.args.seat.place c.loop-i.i c.seat_of.result c.requires.page
    c.seat_of.ensures.holder c.seat_of.ensures.page c.seat_of.ensures.owner c.seat_of.ensures.place in
    let many = c.count_of-i-end.ensures.count ∙ ap count_in c.requires.page in
    inl (one_entry c.args.size (page_at c.args.size c.args.pages.now) (length c.args.pages.now)
    c.args.seat.owner c.args.seat.page c.args.seat.place c.loop-i.i c.seat_of.result
    (omega (arith, many, c.loop-i-test.true)) same (c.in_err-note_data.ensures.cause refl))

pub returns-clause-adds : goal.returns-clause-adds
returns-clause-adds c =
    let many = c.count_of-i-end.ensures.count ∙ ap count_in c.requires.page in
    adds_all c.args.size (page_at c.args.size c.args.pages.now) (length c.args.pages.now)
    c.args.seat.owner c.args.seat.page c.args.seat.place c.loop-i.i c.args.findings.now.items
    c.loop-i.findings.items (omega (arith, many, c.loop-i-test.false))
    (omega (arith, many, c.loop-i.auto.i-end)) c.loop-i.invariant.0

pub returns-clause-decided : goal.returns-clause-decided
returns-clause-decided c =
    let many = c.count_of-i-end.ensures.count ∙ ap count_in c.requires.page in
    decided_all c.args.size (page_at c.args.size c.args.pages.now) (length c.args.pages.now)
    c.args.seat.owner c.args.seat.page c.args.seat.place c.loop-i.i
    (omega (arith, many, c.loop-i-test.false)) c.loop-i.invariant.1
