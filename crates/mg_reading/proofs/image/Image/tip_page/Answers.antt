use Rattle.mg_image.specs.Inventory.{header_of, last_sequence}
use Rattle.mg_reading.specs.ImageView.{pages_in}
use Rattle.mg_reading.proofs.TipLemmas.{at_sequence, last_is, one_back}
use Rattle.mg_reading.proofs.image.Image.tip_page.Goals as goal

pub loop-init : goal.loop-init
loop-init c = last_is (pages_in c.args.self.now) c.page.result.now c.get_u32-page.result
    c.get_u32-page.ensures c.page.ensures.page

pub loop-preserved : goal.loop-preserved
loop-preserved c = one_back (pages_in c.args.self.now)
    (header_of (pages_in c.args.self.now)).last_tip.0 c.loop.counter c.loop.page
    c.prev_of-page.result.0 c.page-in-loop.result.now c.loop.invariant c.page-in-loop.ensures.page
    c.prev_of-page.ensures

pub returns : goal.returns
returns c = at_sequence (pages_in c.args.self.now)
    (header_of (pages_in c.args.self.now)).last_tip.0 c.loop.page c.loop.counter
    c.saturating_sub-back.result c.last_sequence.result
    (last_sequence c.args.self.now.size (pages_in c.args.self.now)) c.args.sequence
    c.loop.invariant c.loop.auto.counter-end c.loop-test.false c.saturating_sub-back.ensures
    c.last_sequence.ensures.last
