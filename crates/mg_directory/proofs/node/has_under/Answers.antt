use Rattle.std.proofs.Common.{◌≡◌, arith, false, refl, true}
use Rattle.mg_directory.proofs.ChainLemmas.{candidate_here, candidate_on, none_left}
use Rattle.mg_directory.proofs.node.has_under.Goals as goal

no_true : false ≡ true → ⊥
no_true is = absurd cc

pub returns-then-is_note : goal.returns-then-is_note
returns-then-is_note c = (
  λ _. c.loop-link.invariant.0.0
      (candidate_here _ _ _ _ _ (c.node_at-node.ensures c.args.hash) (c.if-is_note.ensures.0 refl)),
  λ _. refl,
)

pub loop-link-smaller : goal.loop-link-smaller
loop-link-smaller c = (c.node_at-node.ensures c.args.hash).earlier

pub loop-link-preserved : goal.loop-link-preserved
loop-link-preserved c =
    let step = c.node_at-node.ensures c.args.hash in
    let low = step.earlier in
    let below = c.loop-link.invariant.1 in
    let on = candidate_on _ _ _ _ _ step (λ both. no_true (c.if-is_note.ensures.1 both)) in (
      (
        λ there. c.loop-link.invariant.0.0 (on.1 there),
        λ there. on.0 (c.loop-link.invariant.0.1 there),
      ),
      omega (arith, low, below),
    )

pub returns : goal.returns
returns c = (
  λ no. absurd (no_true no),
  λ there. absurd (none_left _ _ _ _ c.loop-link-test.false (c.loop-link.invariant.0.1 there)),
)
