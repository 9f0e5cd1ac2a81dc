use Rattle.std.proofs.Common.{subst, rules}
use Rattle.mg_reading.specs.ImageView.{pages_in}
use Rattle.mg_trees.proofs.SearchLemmas.{IsOnWay, way_more}
use Rattle.mg_trees.proofs.search.page_for.Goals as goal

pub loop-n-preserved : goal.loop-n-preserved
loop-n-preserved c = way_more (pages_in c.args.image.now) c.args.entry.now c.args.pages.now
    c.in-Some.later.now c.in-Some.n.now c.in_ok-node.node
    (subst (IsOnWay (pages_in c.args.image.now) c.args.entry.now c.args.pages.now)
    (search rules) c.loop-n.invariant) c.in_ok-node.ensures
    (λ before. absurd (let passed = c.is_up_to.ensures.1 before in
    let failed = c.if-is_up_to.false in cc))
