use Rattle.std.proofs.Common.{◌-◌, length}
use Rattle.mg_base.specs.declared.geometry.TheConstants.{GREATEST_LIMIT}
use Rattle.mg_reading.specs.ImageView.{pages_in}
use Rattle.mg_trees.proofs.ChainLemmas.{IsRead}
use Rattle.mg_trees.proofs.page.read_level.Given as goal

abbrev pub invariant-loop-next : goal.invariant-loop-next
invariant-loop-next l = IsRead l.image.size (pages_in l.image) l.owner l.level l.first l.ns.items
    l.next

abbrev pub decreases-loop-next : goal.decreases-loop-next
decreases-loop-next l = GREATEST_LIMIT - length l.ns.items
