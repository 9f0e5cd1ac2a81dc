use Rattle.mg_database.proofs.FinishingLemmas.{write_fails, written_more}
use Rattle.mg_database.proofs.finishing.write_all.Goals as goal

pub loop-goal-preserved : goal.loop-goal-preserved
loop-goal-preserved g c = written_more g.D.Disk.meaning c.args.store.now c.loop-goal.store c.write_one.new.self
    c.loop-goal.invariant c.in-Ok.ensures.fault.1 c.in-Ok.ensures.run

pub returns-in-Err : goal.returns-in-Err
returns-in-Err g c = write_fails g.D.Disk.meaning c.args.store.now c.loop-goal.store c.write_one.new.self
    c.in-Err.fault c.loop-goal.invariant c.in-Err.ensures.own c.in-Err.ensures.fault c.in-Err.ensures.refused
