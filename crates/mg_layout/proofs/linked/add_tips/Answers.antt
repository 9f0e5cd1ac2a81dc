use Rattle.std.proofs.Common.{◌++◌, arith}
use Rattle.mg_reading.specs.ImageView.{pages_in}
use Rattle.mg_image.specs.Reached.{tips_of}
use Rattle.mg_layout.proofs.TipLemmas.{tips_push}
use Rattle.mg_layout.proofs.linked.add_tips.Goals as goal

pub loop-count-preserved : goal.loop-count-preserved
loop-count-preserved c = tips_push c.args.image.now.size (pages_in c.args.image.now)
    c.loop-count.count c.tip_page.result c.loop-count.pages.items c.push.new.self.items
    (c.args.pages.now.items ++ tips_of c.args.image.now.size (pages_in c.args.image.now))
    (omega arith) c.loop-count.invariant c.tip_page.ensures c.in_ok-push.ensures.items
