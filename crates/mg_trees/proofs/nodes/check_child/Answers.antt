use Rattle.std.proofs.Common.{refl}
use Rattle.mg_node.specs.NodePage.{IsNodePage}
use Rattle.mg_reading.specs.ImageView.{pages_in}
use Rattle.mg_trees.proofs.TreeLemmas.{each_has}
use Rattle.mg_trees.proofs.nodes.check_child.Goals as goal

pub low_fence-requires : goal.low_fence-requires
low_fence-requires c = each_has (λ n. IsNodePage (pages_in c.args.image.now n)) c.args.below.now
    c.args.entry.now.child.0 (c.if-not-has_page.ensures.0 refl) c.requires
