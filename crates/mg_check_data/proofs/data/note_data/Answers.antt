use Rattle.std.proofs.Common.{List, inl, length, subst, sym, ℕ}
use Rattle.mg_base.specs.Image.{page_at}
use Rattle.mg_check_data.specs.DataRung.{IsCellFinding, IsWholeFinding}
use Rattle.mg_check_data.proofs.DataLemmas.{cells_adds, cells_decided, cells_one, one_whole, whole_adds}
use Rattle.mg_slots.specs.DataPage.{IsDataPage}
use Rattle.mg_check_data.proofs.data.note_data.Goals as goal

pub returns-in-Err-clause-adds : goal.returns-in-Err-clause-adds
returns-in-Err-clause-adds c = whole_adds
    (IsWholeFinding c.args.size (page_at c.args.size c.args.pages.now) (length c.args.pages.now)
    c.args.seat)
    (IsCellFinding (page_at c.args.size c.args.pages.now c.args.seat.page) c.args.seat.page)
    c.args.findings.now.items c.note.new.findings.items c.in-Err.damage c.check_whole.result
    c.note.result c.in-Err.is c.check_whole.ensures.found c.note.ensures.adds

pub returns-in-Err-clause-cause : goal.returns-in-Err-clause-cause
returns-in-Err-clause-cause c = λ failed. one_whole
    (IsWholeFinding c.args.size (page_at c.args.size c.args.pages.now) (length c.args.pages.now)
    c.args.seat)
    (IsCellFinding (page_at c.args.size c.args.pages.now c.args.seat.page) c.args.seat.page)
    c.in-Err.damage c.check_whole.result c.in-Err.is c.check_whole.ensures.found

pub returns-in-Err-clause-decided : goal.returns-in-Err-clause-decided
returns-in-Err-clause-decided c = inl (one_whole
    (IsWholeFinding c.args.size (page_at c.args.size c.args.pages.now) (length c.args.pages.now)
    c.args.seat)
    (IsCellFinding (page_at c.args.size c.args.pages.now c.args.seat.page) c.args.seat.page)
    c.in-Err.damage c.check_whole.result c.in-Err.is c.check_whole.ensures.found)

pub note_cells-requires : goal.note_cells-requires
note_cells-requires c = subst (λ (p : List ℕ). IsDataPage p) (sym (c.page_there.ensures c.args.size))
    c.in-Ok.ensures.wanted.lawful

pub returns-in-Ok-clause-adds : goal.returns-in-Ok-clause-adds
returns-in-Ok-clause-adds c = cells_adds c.args.size (page_at c.args.size c.args.pages.now)
    (length c.args.pages.now) c.args.seat c.page_there.result.now c.check_whole.result
    (c.page_there.ensures c.args.size) c.in-Ok.is c.check_whole.ensures.found
    c.args.findings.now.items c.note_cells.new.findings.items c.note_cells.result
    c.note_cells.ensures.adds

pub returns-in-Ok-clause-cause : goal.returns-in-Ok-clause-cause
returns-in-Ok-clause-cause c = λ failed. cells_one c.args.size
    (page_at c.args.size c.args.pages.now) (length c.args.pages.now) c.args.seat
    c.page_there.result.now c.check_whole.result (c.page_there.ensures c.args.size) c.in-Ok.is
    c.check_whole.ensures.found (c.note_cells.ensures.cause failed)

pub returns-in-Ok-clause-decided : goal.returns-in-Ok-clause-decided
returns-in-Ok-clause-decided c = cells_decided c.args.size
    (page_at c.args.size c.args.pages.now) (length c.args.pages.now) c.args.seat
    c.page_there.result.now c.check_whole.result (c.page_there.ensures c.args.size) c.in-Ok.is
    c.check_whole.ensures.found c.in-Ok.ensures.wanted c.note_cells.ensures.decided
