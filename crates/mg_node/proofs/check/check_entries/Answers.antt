use Rattle.std.proofs.Common.{◌<◌, sym, ◌∙◌, arith}
use Rattle.mg_node.specs.NodePage.{count_in, is_inner}
use Rattle.mg_node.proofs.CheckLemmas.{key_passes}
use Rattle.mg_node.proofs.check.check_entries.Goals as goal

pub loop-preserved : goal.loop-preserved
loop-preserved c =
    let below : c.loop.counter < count_in c.args.b.now = omega arith in
    let next = key_passes c.args.page (is_inner c.args.b.now) c.args.b.now c.loop.at
    (count_in c.args.b.now) c.loop.counter below (sym c.in_ok-check_key.ensures) in
    (rw (c.end_of-at.ensures.is, c.is_inner-with_child.ensures) (c.loop.invariant.0 ∙ next), omega arith)
