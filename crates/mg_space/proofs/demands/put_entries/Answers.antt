use Rattle.std.proofs.Common.{add-one}
use Rattle.mg_space.proofs.DemandLemmas.{begins, grown}
use Rattle.mg_space.specs.Demands.{entry_demand, entry_demands}
use Rattle.mg_space.proofs.demands.put_entries.Goals as goal

pub returns-in_err-put_entry-clause-err : goal.returns-in_err-put_entry-clause-err
returns-in_err-put_entry-clause-err c = begins c.args.out.now.items c.loop-n.out.items
    c.put_entry.new.out.items
    (entry_demands c.args.size c.args.b.now c.args.owner c.args.sequence c.loop-n.n)
    c.from_residual.result c.loop-n.invariant c.in_err-put_entry.ensures.err

pub loop-n-preserved : goal.loop-n-preserved
loop-n-preserved c = rw (add-one c.loop-n.n) (grown c.args.out.now.items c.loop-n.out.items
    c.put_entry.new.out.items
    (entry_demands c.args.size c.args.b.now c.args.owner c.args.sequence c.loop-n.n)
    (entry_demand c.args.size c.args.b.now c.args.owner c.args.sequence c.loop-n.n)
    c.loop-n.invariant c.in_ok-put_entry.ensures.ok)
