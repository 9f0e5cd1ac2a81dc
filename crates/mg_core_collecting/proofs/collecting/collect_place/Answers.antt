use Rattle.std.proofs.Common.{inr}
use Rattle.mg_core_collecting.proofs.PlaceLemmas.{core_counted, core_over, place_collected, place_failed}
use Rattle.mg_core_collecting.proofs.collecting.collect_place.Goals as goal

pub returns-in-Ok-collect_settled-clause-core : goal.returns-in-Ok-collect_settled-clause-core
returns-in-Ok-collect_settled-clause-core g c = core_over g.D.Disk.meaning c.args.core.now c.collect_settled.new.store
    c.requires.core c.in-Ok-collect_settled.ensures.pool c.in-Ok-collect_settled.ensures.geometry

pub returns-in-Ok-collect_settled-clause-collects : goal.returns-in-Ok-collect_settled-clause-collects
returns-in-Ok-collect_settled-clause-collects g c = place_collected g.D.Disk.meaning c.args.core.now
    c.collect_settled.new.store c.new-states.result.list.now c.args.t c.args.table.now c.args.rec
    c.new-states.ensures c.in-Ok.ensures c.in-Ok-collect_settled.gone c.in-Ok-collect_settled.ensures.collects

pub returns-in-Err-collect_settled-clause-core : goal.returns-in-Err-collect_settled-clause-core
returns-in-Err-collect_settled-clause-core g c = core_counted g.D.Disk.meaning
    (record c.args.core.now { store = c.collect_settled.new.store }) c.refuse.new.self
    (core_over g.D.Disk.meaning c.args.core.now c.collect_settled.new.store c.requires.core
    c.in-Err-collect_settled.ensures.pool c.in-Err-collect_settled.ensures.geometry) c.refuse.ensures.same

pub returns-in-Err-collect_settled-clause-collects : goal.returns-in-Err-collect_settled-clause-collects
returns-in-Err-collect_settled-clause-collects g c = inr (place_failed g.D.Disk.meaning c.args.core.now
    c.collect_settled.new.store c.new-states.result.list.now c.args.t c.args.table.now c.args.rec
    c.new-states.ensures c.in-Ok.ensures c.refuse.new.self c.in-Err-collect_settled.fault c.refuse.result
    c.in-Err-collect_settled.ensures.collects c.refuse.ensures.refusal c.refuse.ensures.names
    c.refuse.ensures.counts c.refuse.ensures.same)
