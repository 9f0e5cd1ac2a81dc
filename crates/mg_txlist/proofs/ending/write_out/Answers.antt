use Rattle.std.proofs.Common.{◌∙◌, ap, sym}
use Rattle.mg_txlist.proofs.WritingLemmas.{refused_on, told_on, written_online}
use Rattle.mg_txlist.proofs.ending.write_out.Goals as goal

pub returns-in-Err-write_one-clause-refused : goal.returns-in-Err-write_one-clause-refused
returns-in-Err-write_one-clause-refused g c = refused_on g.D.Disk.meaning c.args.store.now
    c.loop-page.store c.write_one-in-loop-page.new.self c.in-Err-write_one.fault
    c.stays_careful.ensures.joins c.loop-page.invariant.run c.loop-page.invariant.online
    c.in-Err-write_one.ensures.own c.in-Err-write_one.ensures.fault
    c.in-Err-write_one.ensures.refused

pub returns-in-Err-clause-pool : goal.returns-in-Err-clause-pool
returns-in-Err-clause-pool g c = c.write_one.ensures.pool

pub returns-in-Err-clause-geometry : goal.returns-in-Err-clause-geometry
returns-in-Err-clause-geometry g c = ap (λ p. p.geometry) c.in-Err.ensures.same

pub returns-in-Err-clause-fault : goal.returns-in-Err-clause-fault
returns-in-Err-clause-fault g c = c.in-Err.ensures.fault

pub returns-in-Err-clause-own : goal.returns-in-Err-clause-own
returns-in-Err-clause-own g c = c.in-Err.ensures.own

pub returns-in-Err-clause-writes : goal.returns-in-Err-clause-writes
returns-in-Err-clause-writes g c = tt

pub returns-in-Err-clause-out : goal.returns-in-Err-clause-out
returns-in-Err-clause-out g c = tt

pub returns-in-Err-clause-refused : goal.returns-in-Err-clause-refused
returns-in-Err-clause-refused g c = c.in-Err.ensures.refused

pub returns-in-Err-write_one-clause-pool : goal.returns-in-Err-write_one-clause-pool
returns-in-Err-write_one-clause-pool g c = c.write_one-in-loop-page.ensures.pool

pub returns-in-Err-write_one-clause-geometry : goal.returns-in-Err-write_one-clause-geometry
returns-in-Err-write_one-clause-geometry g c = ap (λ p. p.geometry) c.in-Err-write_one.ensures.same
    ∙ c.loop-page.invariant.run.geometry

pub returns-in-Err-write_one-clause-fault : goal.returns-in-Err-write_one-clause-fault
returns-in-Err-write_one-clause-fault g c = told_on g.D.Disk.meaning c.args.store.now c.loop-page.store
    c.write_one-in-loop-page.new.self c.in-Err-write_one.fault c.loop-page.invariant.run
    c.loop-page.invariant.online c.in-Err-write_one.ensures.own c.in-Err-write_one.ensures.fault

pub returns-in-Err-write_one-clause-own : goal.returns-in-Err-write_one-clause-own
returns-in-Err-write_one-clause-own g c = c.in-Err-write_one.ensures.own

pub returns-in-Err-write_one-clause-writes : goal.returns-in-Err-write_one-clause-writes
returns-in-Err-write_one-clause-writes g c = tt

pub returns-in-Err-write_one-clause-out : goal.returns-in-Err-write_one-clause-out
returns-in-Err-write_one-clause-out g c = tt

pub returns-clause-pool : goal.returns-clause-pool
returns-clause-pool g c = c.loop-page.invariant.run.pool

pub returns-clause-geometry : goal.returns-clause-geometry
returns-clause-geometry g c = c.loop-page.invariant.run.geometry

pub returns-clause-fault : goal.returns-clause-fault
returns-clause-fault g c = written_online g.D.Disk.meaning c.args.store.now c.loop-page.store
    c.loop-page.invariant.run c.loop-page.invariant.online

pub returns-clause-own : goal.returns-clause-own
returns-clause-own g c = tt

pub returns-clause-writes : goal.returns-clause-writes
returns-clause-writes g c = c.loop-page.invariant.run

pub returns-clause-out : goal.returns-clause-out
returns-clause-out g c = sym c.is_dirty.ensures ∙ c.loop-page-test.false

pub returns-clause-refused : goal.returns-clause-refused
returns-clause-refused g c = tt

pub loop-page-init : goal.loop-page-init
loop-page-init g c = record { run = c.in-Ok.ensures.run; online = c.in-Ok.ensures.fault.1 }

pub loop-page-preserved : goal.loop-page-preserved
loop-page-preserved g c = record {
  run = c.stays_careful.ensures.joins c.args.store.now c.loop-page.store c.write_one-in-loop-page.new.self
      c.loop-page.invariant.run c.in-Ok-write_one.ensures.run;
  online = c.in-Ok-write_one.ensures.fault.1;
}
