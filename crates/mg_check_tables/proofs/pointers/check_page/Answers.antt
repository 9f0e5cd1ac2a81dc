use Rattle.mg_base.specs.Image.{page_at}
use Rattle.mg_check_inventory.specs.ImagePages.{bit_checks}
use Rattle.mg_check_inventory.specs.TestLaws.{append_handed, append_next, handed_on}
use Rattle.mg_pointer.specs.PointerPage.{pointer_checks}
use Rattle.mg_check_tables.proofs.pointers.check_page.Goals as goal

pub returns-in_err-check_pointer : goal.returns-in_err-check_pointer
returns-in_err-check_pointer c = append_handed c.args.seat.page c.args.page.now
    (page_at c.args.size c.args.pages.now c.args.seat.page)
    (λ b. pointer_checks b c.args.seat.page c.args.owner c.args.seat.at)
    (bit_checks c.args.size (page_at c.args.size c.args.pages.now) c.args.seat.page)
    c.check_pointer.result c.from_residual.result c.in_err-check_pointer.field-0.0 c.requires.page
    c.check_pointer.ensures c.in_err-check_pointer.was
    (handed_on c.from_residual.result c.in_err-check_pointer.field-0.0 c.from_residual.ensures.1)

pub returns : goal.returns
returns c = append_next c.args.seat.page c.args.page.now
    (page_at c.args.size c.args.pages.now c.args.seat.page)
    (λ b. pointer_checks b c.args.seat.page c.args.owner c.args.seat.at)
    (bit_checks c.args.size (page_at c.args.size c.args.pages.now) c.args.seat.page)
    c.check_pointer.result c.check_bit.result c.requires.page c.check_pointer.ensures
    c.in_ok-check_pointer.was c.check_bit.ensures
