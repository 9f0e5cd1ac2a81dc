use Rattle.mg_base.specs.Checks.{verdict}
use Rattle.mg_base.specs.Image.{page_at}
use Rattle.mg_check_pages.specs.PageTests.{undrawn_test}
use Rattle.mg_findings.specs.Findings.{IsFirst, Tells}
use Rattle.mg_tip.specs.TipPage.{places}
use Rattle.mg_check_inventory.specs.ImagePages.{bit_checks, numbered}
use Rattle.mg_check_inventory.specs.TestLaws.{first_handed, next_told, tells_same}
use Rattle.mg_check_inventory.proofs.TipLemmas.{undrawn_tells}
use Rattle.mg_check_inventory.proofs.tips.check_content.Goals as goal

pub returns-in_err-check_undrawn : goal.returns-in_err-check_undrawn
returns-in_err-check_undrawn c = first_handed
    (IsFirst (undrawn_test (page_at c.args.size c.args.pages.now c.args.n) (numbered c.args.n)
    c.args.from) (places c.args.size))
    (Tells (verdict (numbered c.args.n)
    (bit_checks c.args.size (page_at c.args.size c.args.pages.now) c.args.n)))
    c.check_undrawn.result c.from_residual.result c.in_err-check_undrawn.field-0.0
    c.in_err-check_undrawn.was c.from_residual.ensures.1
    (undrawn_tells c.args.size c.args.n c.args.from (page_at c.args.size c.args.pages.now)
    c.args.page.now c.check_undrawn.result c.requires.page (c.requires.image.whole c.args.n)
    c.check_undrawn.ensures)

pub returns : goal.returns
returns c = next_told
    (IsFirst (undrawn_test (page_at c.args.size c.args.pages.now c.args.n) (numbered c.args.n)
    c.args.from) (places c.args.size))
    (Tells (verdict (numbered c.args.n)
    (bit_checks c.args.size (page_at c.args.size c.args.pages.now) c.args.n)))
    c.check_undrawn.result (Tells c.check_bit.result) c.in_ok-check_undrawn.was
    (undrawn_tells c.args.size c.args.n c.args.from (page_at c.args.size c.args.pages.now)
    c.args.page.now c.check_undrawn.result c.requires.page (c.requires.image.whole c.args.n)
    c.check_undrawn.ensures)
    (tells_same c.check_bit.result (verdict (numbered c.args.n)
    (bit_checks c.args.size (page_at c.args.size c.args.pages.now) c.args.n)) c.check_bit.ensures)
