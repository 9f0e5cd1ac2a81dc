use Rattle.std.proofs.Common.{refl, arith}
use Rattle.mg_node.proofs.NodeLemmas.{all_listed, first_more, not_laid_out}
use Rattle.mg_node.proofs.node.read_entries.Goals as goal

pub returns-in_default-clause-none : goal.returns-in_default-clause-none
returns-in_default-clause-none c = not_laid_out c.args.page.now c.loop.counter c.loop.at
    c.loop.invariant.next (omega arith)
    (rw (c.is_inner-with_child.ensures, c.in_default.is) at c.in_ok-placed.ensures.none)

pub loop-preserved : goal.loop-preserved
loop-preserved c = first_more c.args.page.now c.loop.counter c.loop.at c.loop.entries.items _
    c.in-Some.placed c.loop.invariant
    (rw (c.is_inner-with_child.ensures, c.in-Some.is) at c.in_ok-placed.ensures.some)
    c.in_ok-push.ensures.items

pub returns-clause-some : goal.returns-clause-some
returns-clause-some c = all_listed c.args.page.now c.loop.counter c.loop.at _ c.loop.invariant refl
    (omega arith)
