use Rattle.mg_directory.proofs.ChainLemmas.{all_found, found_more}
use Rattle.std.proofs.Common.{arith}
use Rattle.mg_directory.proofs.node.records_under.Goals as goal

pub loop-link-smaller : goal.loop-link-smaller
loop-link-smaller c = (c.node_at-node.ensures c.args.hash).earlier

pub loop-link-preserved : goal.loop-link-preserved
loop-link-preserved c =
    let step = c.node_at-node.ensures c.args.hash in
    let low = step.earlier in
    let below = c.loop-link.invariant.1 in (
      found_more _ _ _ _ _ _ _ step c.loop-link.invariant.0 c.in_ok-push_its.ensures,
      omega (arith, low, below),
    )

pub returns : goal.returns
returns c = all_found _ _ _ _ _ c.loop-link-test.false c.loop-link.invariant.0
