use Rattle.std.proofs.Common.{length}
use Rattle.mg_base.specs.Checks.{verdict}
use Rattle.mg_base.specs.Image.{page_at}
use Rattle.mg_check_inventory.specs.ImagePages.{link_checks, numbered}
use Rattle.mg_check_inventory.specs.TestLaws.{first_handed, tells_same}
use Rattle.mg_check_tables.specs.TableRung.{IsThereFinding}
use Rattle.mg_findings.specs.Findings.{Tells}
use Rattle.mg_check_tables.proofs.pointers.check_seat.Goals as goal

pub returns-in_err-check_link-clause-found : goal.returns-in_err-check_link-clause-found
returns-in_err-check_link-clause-found c = first_handed
    (Tells (verdict (numbered c.args.seat.holder) (link_checks c.args.seat.page)))
    (IsThereFinding c.args.size (page_at c.args.size c.args.pages.now) (length c.args.pages.now)
    c.args.seat.page c.args.owner c.args.seat.at)
    c.check_link.result c.from_residual.result c.in_err-check_link.field-0.0
    c.in_err-check_link.was c.from_residual.ensures.1
    (tells_same c.check_link.result (verdict (numbered c.args.seat.holder)
    (link_checks c.args.seat.page)) c.check_link.ensures.test)
