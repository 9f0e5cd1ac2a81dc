use Rattle.mg_reading.specs.ImageView.{pages_in}
use Rattle.mg_layout.proofs.PlaceLemmas.{read_all, read_more}
use Rattle.mg_layout.proofs.place.read_trees.Goals as goal

pub returns-clause-trees : goal.returns-clause-trees
returns-clause-trees c = read_all c.args.image.now.size (pages_in c.args.image.now) c.args.owner
    c.args.indexes.now c.loop-index.rest.now c.loop-index.trees.items c.loop-index.invariant
    c.in_default.ensures.cases

pub loop-index-preserved : goal.loop-index-preserved
loop-index-preserved c = read_more c.args.image.now.size (pages_in c.args.image.now) c.args.owner
    c.args.indexes.now c.loop-index.rest.now c.in-Some.later.now c.in-Some.index.now
    c.loop-index.trees.items c.push.new.self.items c.in_ok-read_tree.field-0
    c.loop-index.invariant c.in-Some.ensures.cases.0 c.in_ok-read_tree.ensures.tree
    c.in_ok-push.ensures.items
