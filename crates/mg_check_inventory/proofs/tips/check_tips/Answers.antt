use Rattle.std.proofs.Common.{◌-◌, ◌∙◌, ap, length}
use Rattle.mg_base.specs.Image.{page_at}
use Rattle.mg_tip.specs.TipPage.{prev_in}
use Rattle.mg_check_inventory.specs.TransactionRung.{IsTipsFinding}
use Rattle.mg_check_inventory.proofs.TransactionLemmas.{chain_goes_on, chain_stops, drawn_is, page_named}
use Rattle.mg_check_inventory.proofs.tips.check_tips.Goals as goal

pub returns-in_err-check_linked : goal.returns-in_err-check_linked
returns-in_err-check_linked c = chain_stops c.args.size (page_at c.args.size c.args.pages.now)
    (length c.args.pages.now) c.loop-left.holder c.loop-left.n c.loop-left.left c.drawn_on.result
    (IsTipsFinding c.args.size (page_at c.args.size c.args.pages.now) (length c.args.pages.now))
    c.check_linked.result c.from_residual.result c.in_err-check_linked.field-0.0
    c.loop-left-test.true c.loop-left.invariant
    (drawn_is c.args.size (page_at c.args.size c.args.pages.now)
    c.as_slice-header.result.now c.get_u32-next.result c.places_of-places.result
    (c.loop-left.left - 1) c.drawn_on.result
    (page_named c.args.size c.args.pages.now 0 c.index-pages-0.result c.as_slice-header.result.now
    c.requires.some c.index-pages-0.is c.as_slice-header.ensures) c.get_u32-next.ensures
    c.places_of-places.ensures.places c.drawn_on.ensures) c.check_linked.ensures.found
    c.in_err-check_linked.was c.from_residual.ensures.1

pub loop-left-preserved : goal.loop-left-preserved
loop-left-preserved c = chain_goes_on c.args.size (page_at c.args.size c.args.pages.now)
    (length c.args.pages.now) c.loop-left.holder c.loop-left.n c.loop-left.left c.drawn_on.result
    c.prev_of-n.result.0
    (IsTipsFinding c.args.size (page_at c.args.size c.args.pages.now) (length c.args.pages.now))
    c.check_linked.result c.loop-left-test.true c.loop-left.invariant
    (drawn_is c.args.size (page_at c.args.size c.args.pages.now)
    c.as_slice-header.result.now c.get_u32-next.result c.places_of-places.result
    (c.loop-left.left - 1) c.drawn_on.result
    (page_named c.args.size c.args.pages.now 0 c.index-pages-0.result c.as_slice-header.result.now
    c.requires.some c.index-pages-0.is c.as_slice-header.ensures) c.get_u32-next.ensures
    c.places_of-places.ensures.places c.drawn_on.ensures)
    c.check_linked.ensures.found c.in_ok-check_linked.was
    (c.prev_of-n.ensures ∙ ap prev_in
    (page_named c.args.size c.args.pages.now c.loop-left.n c.index-pages-n.result c.as_slice.result.now
    c.in_ok-check_linked.ensures.there c.index-pages-n.is c.as_slice.ensures))
