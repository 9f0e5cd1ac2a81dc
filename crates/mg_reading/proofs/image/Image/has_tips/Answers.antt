use Rattle.std.proofs.Common.{refl}
use Rattle.mg_reading.specs.ImageView.{pages_in}
use Rattle.mg_reading.proofs.TipLemmas.{all_tips, no_tips, tips_more}
use Rattle.mg_reading.proofs.image.Image.has_tips.Goals as goal

pub loop-sequence-preserved : goal.loop-sequence-preserved
loop-sequence-preserved c = tips_more c.args.self.now.size (pages_in c.args.self.now)
    c.loop-sequence.sequence c.tip_page.result c.loop-sequence.invariant c.tip_page.ensures
    (c.if-not-is_tip.ensures.0 refl)

pub returns-then-not-is_tip : goal.returns-then-not-is_tip
returns-then-not-is_tip c = no_tips c.args.self.now.size (pages_in c.args.self.now)
    c.loop-sequence.sequence c.last_sequence-sequence-end.result c.tip_page.result
    c.tip_page.ensures c.loop-sequence-test.true c.last_sequence-sequence-end.ensures.last
    c.if-not-is_tip.ensures.1

pub returns : goal.returns
returns c = all_tips c.args.self.now.size (pages_in c.args.self.now) c.loop-sequence.sequence
    c.last_sequence-sequence-end.result c.loop-sequence.invariant c.loop-sequence-test.false
    c.last_sequence-sequence-end.ensures.last
