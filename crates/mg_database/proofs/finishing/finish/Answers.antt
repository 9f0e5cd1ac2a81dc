use Rattle.std.proofs.Common.{ap, refl}
use Rattle.mg_pool.specs.declared.pool.Pool.{Pool}
use Rattle.mg_space.specs.declared.links.FireLinks.{FireLinks}
use Rattle.mg_database.proofs.FinishingLemmas.{all_same, all_within, offline_fails, settled, settled_same, settled_within, writing_fails}
use Rattle.mg_database.proofs.finishing.finish.Goals as goal

pub returns-in-Err-clause-ends : goal.returns-in-Err-clause-ends
returns-in-Err-clause-ends g c = offline_fails g.D.Disk.meaning c.args.store.now c.in-Err.fault
    c.in-Err.ensures.refusal c.in-Err.ensures.fault

pub returns-in-Err-clause-same : goal.returns-in-Err-clause-same
returns-in-Err-clause-same g c = record { size = λ n known. known; tells = refl; most_writes = refl }

pub returns-in-Err-write_all-clause-ends : goal.returns-in-Err-write_all-clause-ends
returns-in-Err-write_all-clause-ends g c = writing_fails g.D.Disk.meaning c.args.store.now c.write_all.new.store
    c.in-Err-write_all.fault c.in-Err-write_all.ensures

pub returns-in-Err-write_all-clause-same : goal.returns-in-Err-write_all-clause-same
returns-in-Err-write_all-clause-same g c = all_same g.D.Disk.meaning c.args.store.now c.write_all.new.store
    c.in-Err-write_all.fault c.requires c.in-Err-write_all.ensures

pub returns-clause-ends : goal.returns-clause-ends
returns-clause-ends g c = settled g.D.Disk.meaning g.met.D.Disk.holds c.args.store.now c.write_all.new.store
    c.settle.new.self c.in-Ok.ensures.fault.0 c.in-Ok-write_all.ensures.0 c.in-Ok-write_all.ensures.1
    c.settle.ensures.disk c.settle.result c.settle.ensures.own c.settle.ensures.fault c.settle.ensures.durable

pub returns-clause-same : goal.returns-clause-same
returns-clause-same g c = settled_same g.D.Disk.meaning c.args.store.now c.write_all.new.store c.settle.new.self
    c.requires c.settle.ensures.pool c.in-Ok-write_all.ensures.0
    (ap (λ (s : Pool g.row.D.Denot FireLinks). s.geometry) c.settle.ensures.same) c.settle.ensures.disk

pub returns-in-Err-clause-within : goal.returns-in-Err-clause-within
returns-in-Err-clause-within g c = c.requires.within

pub returns-in-Err-write_all-clause-within : goal.returns-in-Err-write_all-clause-within
returns-in-Err-write_all-clause-within g c = all_within g.D.Disk.meaning c.args.store.now c.write_all.new.store
    c.in-Err-write_all.fault c.in-Err-write_all.ensures

pub returns-clause-within : goal.returns-clause-within
returns-clause-within g c = settled_within g.D.Disk.meaning c.args.store.now c.write_all.new.store c.settle.new.self
    c.settle.ensures.pool c.in-Ok-write_all.ensures.0
    (ap (λ (s : Pool g.row.D.Denot FireLinks). s.geometry) c.settle.ensures.same)
