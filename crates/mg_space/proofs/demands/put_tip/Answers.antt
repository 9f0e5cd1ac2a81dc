use Rattle.std.proofs.Common.{◌-◌, refl}
use Rattle.mg_tip.specs.TipPage.{places, prev_in}
use Rattle.mg_space.proofs.DemandLemmas.{begins_here, begins_up, ends_here, goes_on_linked}
use Rattle.mg_space.specs.Demands.{drawn_demands, linked}
use Rattle.mg_space.specs.declared.links.TheConstants.{TRANSACTIONS}
use Rattle.mg_space.proofs.demands.put_tip.Goals as goal

pub returns-in_err-put_drawn-clause-err : goal.returns-in_err-put_drawn-clause-err
returns-in_err-put_drawn-clause-err c = begins_here c.args.out.now.items
    c.put_drawn.new.out.items c.from_residual.result c.in_err-put_drawn.ensures.err

pub returns-then-sequence-eq0-clause-ok : goal.returns-then-sequence-eq0-clause-ok
returns-then-sequence-eq0-clause-ok c = ends_here c.args.out.now.items c.put_drawn.new.out.items
    (drawn_demands c.args.size c.args.b.now c.args.sequence (places c.args.size))
    (linked c.args.size (prev_in c.args.b.now) TRANSACTIONS (c.args.sequence - 1) 0)
    c.args.sequence c.args.sequence refl c.if-sequence-eq0.true c.in_ok-put_drawn.ensures.ok

pub returns-clause-ok : goal.returns-clause-ok
returns-clause-ok c = goes_on_linked c.args.size c.args.out.now.items c.put_drawn.new.out.items
    c.put_linked.new.out.items
    (drawn_demands c.args.size c.args.b.now c.args.sequence (places c.args.size))
    c.args.sequence c.u32_or_zero.result (prev_in c.args.b.now) TRANSACTIONS c.from.result
    (c.args.sequence - 1) 0 0 c.put_linked.result c.if-sequence-eq0.false c.u32_or_zero.ensures
    c.from.ensures refl c.in_ok-put_drawn.ensures.ok c.put_linked.ensures.ok

pub returns-clause-err : goal.returns-clause-err
returns-clause-err c = begins_up c.args.out.now.items c.put_drawn.new.out.items
    c.put_linked.new.out.items
    (drawn_demands c.args.size c.args.b.now c.args.sequence (places c.args.size))
    c.put_linked.result c.in_ok-put_drawn.ensures.ok c.put_linked.ensures.err
