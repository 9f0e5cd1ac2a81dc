use Rattle.std.proofs.Common.{add-one}
use Rattle.mg_space.proofs.DemandLemmas.{begins, grown}
use Rattle.mg_space.specs.Demands.{drawn_demands, state_demands}
use Rattle.mg_space.proofs.demands.put_drawn.Goals as goal

pub returns-in_err-put_state-clause-err : goal.returns-in_err-put_state-clause-err
returns-in_err-put_state-clause-err c = begins c.args.out.now.items c.loop-place.out.items
    c.put_state.new.out.items
    (drawn_demands c.args.size c.args.b.now c.args.sequence c.loop-place.place)
    c.from_residual.result c.loop-place.invariant c.in_err-put_state.ensures.err

pub loop-place-preserved : goal.loop-place-preserved
loop-place-preserved c = rw (add-one c.loop-place.place) (grown c.args.out.now.items
    c.loop-place.out.items c.put_state.new.out.items
    (drawn_demands c.args.size c.args.b.now c.args.sequence c.loop-place.place)
    (state_demands c.args.size c.args.b.now c.args.sequence c.loop-place.place)
    c.loop-place.invariant c.in_ok-put_state.ensures.ok)
