use Rattle.std.proofs.Common.{ℕ, Bool, sym, ap, subst, ◌∙◌, add-one, arith}
use Rattle.mg_node.specs.NodePage.{IsBelow, end_of, entry_at, is_inner}
use Rattle.mg_node_writing.proofs.SeatLemmas.{lt_from, plain_ends, seat_goes}
use Rattle.mg_node_writing.proofs.seat.seat.Goals as goal

pub order_with-requires : goal.order_with-requires
order_with-requires c = plain_ends c.args.b.now c.loop-n.n c.loop-n.at c.requires.lawful
    c.loop-n.invariant.1 (omega arith)

pub end_of-at-requires : goal.end_of-at-requires
end_of-at-requires c =
    let inside = plain_ends c.args.b.now c.loop-n.n c.loop-n.at c.requires.lawful
    c.loop-n.invariant.1 (omega arith) in
    let most = c.requires.sized.most in omega (arith, inside, most)

pub loop-n-preserved : goal.loop-n-preserved
loop-n-preserved c =
    let b = c.args.b.now in
    let here = lt_from c.order_with.result (sym c.is_lt.ensures ∙ c.if-not-is_lt.false) in (
      seat_goes b c.args.e.now c.loop-n.n c.loop-n.invariant.0
          (subst (λ (x : ℕ). IsBelow (entry_at (is_inner b) b x) c.args.e.now) c.loop-n.invariant.1
          (sym c.order_with.ensures ∙ here)),
      rw (add-one c.loop-n.n) (c.end_of-at.ensures.is ∙
          (ap (λ (w : Bool). end_of w b c.loop-n.at) c.is_inner-with_child.ensures ∙
          ap (end_of (is_inner b) b) c.loop-n.invariant.1)),
    )
