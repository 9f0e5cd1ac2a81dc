use Rattle.mg_base.specs.Image.{page_at}
use Rattle.mg_pip.specs.PipPage.{pip_checks}
use Rattle.mg_check_inventory.specs.ImagePages.{bit_checks}
use Rattle.mg_check_inventory.specs.TestLaws.{handed_on}
use Rattle.mg_check_inventory.specs.TestLaws.{append_handed, append_next}
use Rattle.mg_check_inventory.proofs.inventory.check_filled.Goals as goal

pub returns-in_err-check_pip : goal.returns-in_err-check_pip
returns-in_err-check_pip c = append_handed c.args.n c.args.page.now
    (page_at c.args.size c.args.pages.now c.args.n) (λ b. pip_checks b c.args.n c.args.region)
    (bit_checks c.args.size (page_at c.args.size c.args.pages.now) c.args.n) c.check_pip.result
    c.from_residual.result c.in_err-check_pip.field-0.0 c.requires.page c.check_pip.ensures
    c.in_err-check_pip.was
    (handed_on c.from_residual.result c.in_err-check_pip.field-0.0 c.from_residual.ensures.1)

pub returns : goal.returns
returns c = append_next c.args.n c.args.page.now
    (page_at c.args.size c.args.pages.now c.args.n) (λ b. pip_checks b c.args.n c.args.region)
    (bit_checks c.args.size (page_at c.args.size c.args.pages.now) c.args.n) c.check_pip.result
    c.check_bit.result c.requires.page c.check_pip.ensures c.in_ok-check_pip.was c.check_bit.ensures
