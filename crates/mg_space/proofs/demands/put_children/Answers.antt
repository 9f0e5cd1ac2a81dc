use Rattle.std.proofs.Common.{◌≡◌, ◌<◌, ◌+◌, ◌*◌, ◌++◌, ◌∙◌, suc, ap, add-one, arith}
use Rattle.mg_node.specs.NodePage.{place_of}
use Rattle.mg_space.proofs.DemandLemmas.{begins, grown, next_place}
use Rattle.mg_space.specs.Demands.{child_demand, child_demands}
use Rattle.mg_space.proofs.demands.put_children.Goals as goal

pub returns-in_err-put_child-clause-err : goal.returns-in_err-put_child-clause-err
returns-in_err-put_child-clause-err c = begins c.args.out.now.items c.loop.out.items
    c.put_child.new.out.items
    (child_demands c.args.size c.args.b.now c.args.owner c.loop.counter)
    c.from_residual.result c.loop.invariant.2 c.in_err-put_child.ensures.err

pub loop-preserved : goal.loop-preserved
loop-preserved c =
    let put : c.put_child.new.out.items ≡ c.loop.out.items
    ++ child_demand c.args.size c.args.b.now c.args.owner (place_of c.args.b.now c.loop.counter) =
    c.in_ok-put_child.ensures.ok ∙ ap (λ at. c.loop.out.items
    ++ child_demand c.args.size c.args.b.now c.args.owner at) c.loop.invariant.0 in
    rw (add-one c.loop.counter) (
      next_place c.args.b.now c.loop.at c.loop.counter c.end_of-at.result c.requires.inner
          c.loop.invariant.0 c.end_of-at.ensures.is,
      far,
      grown c.args.out.now.items c.loop.out.items c.put_child.new.out.items
          (child_demands c.args.size c.args.b.now c.args.owner c.loop.counter)
          (child_demand c.args.size c.args.b.now c.args.owner (place_of c.args.b.now c.loop.counter))
          c.loop.invariant.2 put,
    )
  where
    far : c.end_of-at.result < 131124 + suc c.loop.counter * 65548
    far = let before = c.loop.invariant.1 in let most = c.end_of-at.ensures.most in omega arith
