use Rattle.std.proofs.Common.{◌∷◌, [], ap, length, length-append, arith}
use Rattle.mg_reading.specs.ImageView.{pages_in}
use Rattle.mg_trees.specs.Trees.{HasLevelFrom, IsLevelPage}
use Rattle.mg_trees.proofs.ChainLemmas.{level_short, next_is_page, no_level_returns, read_ends, read_more}
use Rattle.mg_trees.proofs.RefusalLemmas.{passed_on}
use Rattle.mg_trees.proofs.page.read_level.Goals as goal

pub loop-next-preserved : goal.loop-next-preserved
loop-next-preserved c =
    let found = rw c.deref.ensures.value at c.has_page.ensures in
    read_more c.args.image.now.size (pages_in c.args.image.now) c.args.owner c.args.level
    c.args.first c.loop-next.ns.items _ c.loop-next.next _ c.loop-next.invariant
    c.loop-next-test.true
    (λ has. absurd (let was = found.1 has in let was_not = c.if-has_page.false in cc))
    c.in_ok-node.ensures.page c.in_ok-push.ensures.items c.in_ok-node.ensures.node.right

pub loop-next-smaller : goal.loop-next-smaller
loop-next-smaller c =
    let found = rw c.deref.ensures.value at c.has_page.ensures in
    omega (
      arith,
      ap length c.in_ok-push.ensures.items,
      length-append c.loop-next.ns.items (c.loop-next.next ∷ []),
      level_short c.args.image.now.size (pages_in c.args.image.now) c.args.owner c.args.level
          c.args.first _ _
          (read_more c.args.image.now.size (pages_in c.args.image.now) c.args.owner c.args.level
          c.args.first c.loop-next.ns.items _ c.loop-next.next _ c.loop-next.invariant
          c.loop-next-test.true
          (λ has. absurd (let was = found.1 has in let was_not = c.if-has_page.false in cc))
          c.in_ok-node.ensures.page c.in_ok-push.ensures.items c.in_ok-node.ensures.node.right),
    )

pub returns-then-has_page-clause-broken : goal.returns-then-has_page-clause-broken
returns-then-has_page-clause-broken c =
    let found = rw c.deref.ensures.value at c.has_page.ensures in
    no_level_returns c.args.image.now.size (pages_in c.args.image.now) c.args.owner c.args.level
    c.args.first c.loop-next.ns.items c.loop-next.next c.loop-next.invariant
    (found.0 c.if-has_page.true)

pub returns-in_err-node-clause-broken : goal.returns-in_err-node-clause-broken
returns-in_err-node-clause-broken c = passed_on
    (IsLevelPage c.args.image.now.size (pages_in c.args.image.now) c.args.owner c.args.level
    c.loop-next.next)
    (HasLevelFrom c.args.image.now.size (pages_in c.args.image.now) c.args.owner c.args.level
    c.args.first)
    (next_is_page c.args.image.now.size (pages_in c.args.image.now) c.args.owner c.args.level
    c.args.first c.loop-next.ns.items c.loop-next.next c.loop-next.invariant c.loop-next-test.true)
    c.from_residual.result c.in_err-node.field-0.0 c.from_residual.ensures.1
    c.in_err-node.ensures.broken

pub returns-clause-level : goal.returns-clause-level
returns-clause-level c = read_ends c.args.image.now.size (pages_in c.args.image.now) c.args.owner
    c.args.level c.args.first c.loop-next.ns.items c.loop-next.next c.loop-next.invariant
    c.loop-next-test.false
