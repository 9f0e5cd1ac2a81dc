use Rattle.std.proofs.Common.{Bool, suc, add-one, ◌<◌, ◌≤◌, length, sym, ap, ◌∙◌, arith}
use Rattle.mg_node.specs.NodePage.{count_in, end_of, high_of, is_inner, low_of}
use Rattle.mg_node.proofs.OrderLemmas.{behind_goes, behind_stops, entry_inside, place_inside}
use Rattle.mg_node.proofs.in_place.ordered_behind.Goals as goal

pub end_of-at-requires : goal.end_of-at-requires
end_of-at-requires c =
    let below : c.loop-n.n < count_in c.args.page.now = omega (arith, c.requires.more) in
    let inside : c.loop-n.before ≤ length c.args.page.now = place_inside c.args.page.now c.loop-n.n
    c.loop-n.before c.requires.laid_out c.loop-n.invariant.1 below in
    let most = c.requires.most in omega (arith, inside, most)

pub may_follow-requires-clause-before : goal.may_follow-requires-clause-before
may_follow-requires-clause-before c =
    let below : c.loop-n.n < count_in c.args.page.now = omega (arith, c.requires.more) in
    entry_inside c.args.page.now c.loop-n.n c.loop-n.before c.requires.laid_out
    c.loop-n.invariant.1 below

pub may_follow-requires-clause-here : goal.may_follow-requires-clause-here
may_follow-requires-clause-here c =
    let next = c.end_of-at.ensures.is ∙
    ap (λ (w : Bool). end_of w c.args.page.now c.loop-n.before) c.is_inner-with_child.ensures ∙
    ap (end_of (is_inner c.args.page.now) c.args.page.now) c.loop-n.invariant.1 in
    entry_inside c.args.page.now (suc c.loop-n.n) c.end_of-at.result c.requires.laid_out next
    (omega (arith, c.requires.more))

pub returns-then-not-may_follow-clause-behind : goal.returns-then-not-may_follow-clause-behind
returns-then-not-may_follow-clause-behind c =
    behind_stops (low_of c.args.page.now) (high_of c.args.page.now) (is_inner c.args.page.now)
    c.args.page.now c.loop-n.before c.end_of-at.result c.args.more c.loop-n.n _ (omega arith)
    (c.end_of-at.ensures.is ∙
    ap (λ (w : Bool). end_of w c.args.page.now c.loop-n.before) c.is_inner-with_child.ensures)
    (sym c.if-not-may_follow.true ∙ c.may_follow.ensures) c.loop-n.invariant.0

pub loop-n-preserved : goal.loop-n-preserved
loop-n-preserved c =
    let next = c.end_of-at.ensures.is ∙
    ap (λ (w : Bool). end_of w c.args.page.now c.loop-n.before) c.is_inner-with_child.ensures in (
      behind_goes (low_of c.args.page.now) (high_of c.args.page.now) (is_inner c.args.page.now)
          c.args.page.now c.loop-n.before c.end_of-at.result c.args.more c.loop-n.n _ (omega arith)
          next (sym c.if-not-may_follow.false ∙ c.may_follow.ensures) c.loop-n.invariant.0,
      rw (add-one c.loop-n.n) (next ∙ ap (end_of (is_inner c.args.page.now) c.args.page.now)
          c.loop-n.invariant.1),
    )
