use Rattle.std.proofs.Common.{rules}
use Rattle.mg_space.specs.View.{viewed}
use Rattle.mg_btree.specs.RangeLaws.{scans_behind, scans_from_low}
use Rattle.mg_btree.proofs.range.first_leaf.Goals as goal

pub returns-in_ok-start-in-None-clause-starts : goal.returns-in_ok-start-in-None-clause-starts
returns-in_ok-start-in-None-clause-starts g c = λ image owner levels tells tree.
    rw c.in-None.is (scans_from_low c.args.store.now.geometry.size
    (viewed c.args.store.now image c.args.batch.now) owner c.args.root.0 levels c.args.low.now
    c.in_ok-start-in-None.start c.leaf_for.result tree (search rules)
    (c.leaf_for.ensures.seen image owner levels tells tree))

pub returns-in-Some-clause-starts : goal.returns-in-Some-clause-starts
returns-in-Some-clause-starts g c = λ image owner levels tells tree.
    rw c.in-Some.is (scans_behind c.args.store.now.geometry.size
    (viewed c.args.store.now image c.args.batch.now) owner c.args.root.0 levels c.args.low.now
    c.in-Some.bound.now c.leaf_for-in-Some.result tree
    (c.leaf_for-in-Some.ensures.seen image owner levels tells tree))
