use Rattle.std.proofs.Common.{length}
use Rattle.mg_base.specs.Checks.{verdict}
use Rattle.mg_base.specs.Image.{page_at}
use Rattle.mg_findings.specs.Findings.{Tells}
use Rattle.mg_check_inventory.specs.ImagePages.{link_checks, numbered}
use Rattle.mg_check_inventory.specs.TransactionRung.{IsThereFinding}
use Rattle.mg_check_inventory.specs.TestLaws.{first_handed, next_told, tells_same}
use Rattle.mg_check_inventory.proofs.tips.check_linked.Goals as goal

pub returns-in_err-check_link-clause-found : goal.returns-in_err-check_link-clause-found
returns-in_err-check_link-clause-found c = first_handed
    (Tells (verdict (numbered c.args.holder) (link_checks c.args.n)))
    (IsThereFinding c.args.size (page_at c.args.size c.args.pages.now) (length c.args.pages.now)
    c.args.n c.args.sequence c.args.from)
    c.check_link.result c.from_residual.result c.in_err-check_link.field-0.0
    c.in_err-check_link.was c.from_residual.ensures.1
    (tells_same c.check_link.result (verdict (numbered c.args.holder) (link_checks c.args.n))
    c.check_link.ensures.test)

pub returns-clause-found : goal.returns-clause-found
returns-clause-found c = next_told
    (Tells (verdict (numbered c.args.holder) (link_checks c.args.n)))
    (IsThereFinding c.args.size (page_at c.args.size c.args.pages.now) (length c.args.pages.now)
    c.args.n c.args.sequence c.args.from)
    c.check_link.result (Tells c.check_there.result) c.in_ok-check_link.was
    (tells_same c.check_link.result (verdict (numbered c.args.holder) (link_checks c.args.n))
    c.check_link.ensures.test)
    c.check_there.ensures.found
