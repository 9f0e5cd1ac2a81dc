use Rattle.std.proofs.Common.{inr, refl}
use Rattle.mg_txlist.specs.TxList.{next_said}
use Rattle.mg_core_collecting.proofs.EveryLemmas.{every_collected, every_failed}
use Rattle.mg_core_collecting.proofs.PlaceLemmas.{core_counted, core_over}
use Rattle.mg_core_collecting.proofs.every.collect_every.Goals as goal

pub returns-in-Ok-collect_committed-clause-core : goal.returns-in-Ok-collect_committed-clause-core
returns-in-Ok-collect_committed-clause-core g c = core_over g.D.Disk.meaning c.args.core.now
    c.collect_committed.new.store c.requires.core c.in-Ok-collect_committed.ensures.pool
    c.in-Ok-collect_committed.ensures.geometry

pub returns-in-Ok-collect_committed-clause-collects : goal.returns-in-Ok-collect_committed-clause-collects
returns-in-Ok-collect_committed-clause-collects g c = every_collected g.D.Disk.meaning c.args.core.now
    c.collect_committed.new.store c.new-states.result.list.now c.in-Ok.view (next_said c.args.core.now.list)
    c.new-states.ensures c.in-Ok.ensures.1 refl c.in-Ok.ensures.0 c.in-Ok-collect_committed.ensures.collects

pub returns-clause-core : goal.returns-clause-core
returns-clause-core g c = core_counted g.D.Disk.meaning
    (record c.args.core.now { store = c.collect_committed.new.store }) c.refuse.new.self
    (core_over g.D.Disk.meaning c.args.core.now c.collect_committed.new.store c.requires.core
    c.in-Err-collect_committed.ensures.pool c.in-Err-collect_committed.ensures.geometry) c.refuse.ensures.same

pub returns-clause-collects : goal.returns-clause-collects
returns-clause-collects g c = inr (every_failed g.D.Disk.meaning c.args.core.now
    c.collect_committed.new.store c.new-states.result.list.now c.in-Ok.view (next_said c.args.core.now.list)
    c.new-states.ensures c.in-Ok.ensures.1 refl c.in-Ok.ensures.0 c.refuse.new.self c.in-Err-collect_committed.fault
    c.refuse.result c.in-Err-collect_committed.ensures.collects c.refuse.ensures.refusal c.refuse.ensures.names
    c.refuse.ensures.counts c.refuse.ensures.same)
