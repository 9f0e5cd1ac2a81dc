use Rattle.mg_base.specs.Checks.{verdict}
use Rattle.mg_base.specs.Image.{page_at}
use Rattle.mg_check_data.specs.DataRung.{IsFieldFinding}
use Rattle.mg_check_data.proofs.DataLemmas.{field_tells_of, wanted_passed}
use Rattle.mg_check_inventory.specs.ImagePages.{bit_checks, numbered}
use Rattle.mg_check_inventory.specs.TestLaws.{first_handed, next_told, tells_same}
use Rattle.mg_findings.specs.Findings.{Tells}
use Rattle.mg_check_data.proofs.data.check_page.Goals as goal

pub returns-in_err-check_data-clause-found : goal.returns-in_err-check_data-clause-found
returns-in_err-check_data-clause-found c = first_handed
    (IsFieldFinding (page_at c.args.size c.args.pages.now c.args.seat.page) c.args.seat)
    (Tells (verdict (numbered c.args.seat.page)
    (bit_checks c.args.size (page_at c.args.size c.args.pages.now) c.args.seat.page)))
    c.check_data.result c.from_residual.result c.in_err-check_data.field-0.0
    c.in_err-check_data.was c.from_residual.ensures.1
    (field_tells_of c.args.page.now (page_at c.args.size c.args.pages.now) c.args.seat
    c.check_data.result c.requires.page c.check_data.ensures.when c.check_data.ensures.damaged)

pub returns-clause-found : goal.returns-clause-found
returns-clause-found c = next_told
    (IsFieldFinding (page_at c.args.size c.args.pages.now c.args.seat.page) c.args.seat)
    (Tells (verdict (numbered c.args.seat.page)
    (bit_checks c.args.size (page_at c.args.size c.args.pages.now) c.args.seat.page)))
    c.check_data.result (Tells c.check_bit.result) c.in_ok-check_data.was
    (field_tells_of c.args.page.now (page_at c.args.size c.args.pages.now) c.args.seat
    c.check_data.result c.requires.page c.check_data.ensures.when c.check_data.ensures.damaged)
    (tells_same c.check_bit.result (verdict (numbered c.args.seat.page)
    (bit_checks c.args.size (page_at c.args.size c.args.pages.now) c.args.seat.page)) c.check_bit.ensures)

pub returns-clause-wanted : goal.returns-clause-wanted
returns-clause-wanted c = wanted_passed c.args.size (page_at c.args.size c.args.pages.now)
    c.args.page.now c.args.seat c.check_data.result c.check_bit.result c.requires.below
    c.requires.page c.check_data.ensures.when c.in_ok-check_data.was c.check_bit.ensures
