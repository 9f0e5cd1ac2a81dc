use Rattle.mg_base.specs.Checks.{verdict}
use Rattle.mg_base.specs.Image.{page_at}
use Rattle.mg_findings.specs.Findings.{Tells}
use Rattle.mg_tip.specs.TipPage.{tip_checks}
use Rattle.mg_check_inventory.specs.ImagePages.{numbered}
use Rattle.mg_check_inventory.specs.TransactionRung.{IsContentFinding}
use Rattle.mg_check_inventory.specs.TestLaws.{first_handed, next_told}
use Rattle.mg_check_inventory.proofs.TipLemmas.{tip_tells}
use Rattle.mg_check_inventory.proofs.tips.check_page.Goals as goal

pub returns-in_err-check_tip : goal.returns-in_err-check_tip
returns-in_err-check_tip c = first_handed
    (Tells (verdict (numbered c.args.n)
    (tip_checks (page_at c.args.size c.args.pages.now c.args.n) c.args.n c.args.sequence)))
    (IsContentFinding c.args.size (page_at c.args.size c.args.pages.now) c.args.n c.args.from)
    c.check_tip.result c.from_residual.result c.in_err-check_tip.field-0.0 c.in_err-check_tip.was
    c.from_residual.ensures.1
    (tip_tells c.args.n c.args.sequence (page_at c.args.size c.args.pages.now) c.args.page.now
    c.check_tip.result c.requires.page c.check_tip.ensures)

pub returns : goal.returns
returns c = next_told
    (Tells (verdict (numbered c.args.n)
    (tip_checks (page_at c.args.size c.args.pages.now c.args.n) c.args.n c.args.sequence)))
    (IsContentFinding c.args.size (page_at c.args.size c.args.pages.now) c.args.n c.args.from)
    c.check_tip.result (Tells c.check_content.result) c.in_ok-check_tip.was
    (tip_tells c.args.n c.args.sequence (page_at c.args.size c.args.pages.now) c.args.page.now
    c.check_tip.result c.requires.page c.check_tip.ensures)
    c.check_content.ensures
