use Rattle.std.proofs.Common.{Bool, ap, ◌∙◌, add-one, arith}
use Rattle.mg_node.specs.NodePage.{end_of, is_inner}
use Rattle.mg_node_writing.proofs.SeatLemmas.{first_ends, place_ends, place_first}
use Rattle.mg_node_writing.proofs.SizeLemmas.{half_goes}
use Rattle.mg_node_writing.proofs.splitting.half.Goals as goal

pub overflow_sub-len : goal.overflow_sub-len
overflow_sub-len c =
    let ends = first_ends c.args.b.now c.requires.lawful in
    let first = c.first_at-first.ensures.is in let end = c.end.ensures in
    omega (arith, ends, first, end)

pub overflow_sub-at : goal.overflow_sub-at
overflow_sub-at c =
    let up = place_first c.args.b.now c.loop-n.n in
    let first = c.first_at-first.ensures.is in
    let at = c.loop-n.invariant.1 in omega (arith, up, first, at)

pub overflow_mul-at : goal.overflow_mul-at
overflow_mul-at c =
    let ends = place_ends c.args.b.now c.loop-n.n c.requires.lawful (omega arith) in
    let at = c.loop-n.invariant.1 in
    let inside = c.requires.lawful.inside in
    let most = c.requires.sized.most in omega (arith, ends, at, inside, most)

pub end_of-at-requires : goal.end_of-at-requires
end_of-at-requires c =
    let ends = place_ends c.args.b.now c.loop-n.n c.requires.lawful (omega arith) in
    let at = c.loop-n.invariant.1 in
    let inside = c.requires.lawful.inside in
    let most = c.requires.sized.most in omega (arith, ends, at, inside, most)

pub loop-n-preserved : goal.loop-n-preserved
loop-n-preserved c =
    let b = c.args.b.now in
    let first = c.first_at-first.ensures.is in let end = c.end.ensures in
    let at = c.loop-n.invariant.1 in (
      half_goes b c.loop-n.n c.loop-n.invariant.0 (omega (arith, first, end, at)),
      rw (add-one c.loop-n.n) (c.end_of-at.ensures.is ∙
          (ap (λ (w : Bool). end_of w b c.loop-n.at) c.is_inner-with_child.ensures ∙
          ap (end_of (is_inner b) b) c.loop-n.invariant.1)),
    )
