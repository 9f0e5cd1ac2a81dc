use Rattle.std.proofs.Common.{length}
use Rattle.mg_base.specs.Checks.{verdict}
use Rattle.mg_base.specs.Image.{page_at}
use Rattle.mg_check_inventory.specs.ImagePages.{numbered}
use Rattle.mg_check_inventory.specs.TestLaws.{absent_found, tells_same, there_found}
use Rattle.mg_check_tables.proofs.PointerLemmas.{wanted_passed}
use Rattle.mg_check_tables.specs.TableRung.{pointer_tests}
use Rattle.mg_findings.specs.Findings.{Tells}
use Rattle.mg_check_tables.proofs.pointers.check_there.Goals as goal

pub returns-in-None-clause-found : goal.returns-in-None-clause-found
returns-in-None-clause-found c = absent_found (Tells (verdict (numbered c.args.seat.page)
    (pointer_tests c.args.size (page_at c.args.size c.args.pages.now) c.args.seat.page c.args.owner
    c.args.seat.at))) (length c.args.pages.now) c.args.seat.page c.check_presence.result
    c.in-None.ensures.page c.check_presence.ensures.test c.check_presence.ensures.there

pub returns-in-Some-clause-found : goal.returns-in-Some-clause-found
returns-in-Some-clause-found c = there_found (Tells (verdict (numbered c.args.seat.page)
    (pointer_tests c.args.size (page_at c.args.size c.args.pages.now) c.args.seat.page c.args.owner
    c.args.seat.at))) (length c.args.pages.now) c.args.seat.page c.check_page.result
    c.in-Some.ensures.there (tells_same c.check_page.result (verdict (numbered c.args.seat.page)
    (pointer_tests c.args.size (page_at c.args.size c.args.pages.now) c.args.seat.page c.args.owner
    c.args.seat.at)) c.check_page.ensures)

pub returns-in-Some-clause-wanted : goal.returns-in-Some-clause-wanted
returns-in-Some-clause-wanted c = wanted_passed c.args.size
    (page_at c.args.size c.args.pages.now) c.args.seat.page c.args.owner c.args.seat.at
    c.check_page.result c.requires.below c.check_page.ensures
