use Rattle.std.proofs.Common.{◌∙◌, ◌+◌, ◌-◌, ℕ, ap, min, sym, subst, Result, Ok, Err}
use Rattle.std.specs.Prelude.{◌^◌}
use Rattle.mg_base.specs.Disk.{Meaning, Rose}
use Rattle.mg_pool.specs.Fault.{Counts, StaysOnline, TellsFault}
use Rattle.mg_pool.specs.declared.fault.PoolFault.{PoolFault}
use Rattle.mg_pool.specs.declared.fault.PoolFault.TheVariants.{DiskRead, DiskWrite, Offline, Absent, Memory}
use Rattle.mg_pool.specs.declared.pool.Pool.{Pool}
use Rattle.mg_txlist.specs.Ending.{not_changed, not_written}
use Rattle.mg_txlist.proofs.WritingLemmas.{settled, unsettled}
use Rattle.mg_txlist.proofs.ending.settle_page.Goals as goal

-- a call that answered after another that did
stays_after : {D L : Type 0} (m : Meaning D) (a b c : Pool D L) → StaysOnline m a b → StaysOnline m b c
    → StaysOnline m a c
stays_after m a b c first second = (first.0, second.1, second.2 ∙ first.2)

counts_since : {D L : Type 0} (m : Meaning D) (a b c : Pool D L) (n : ℕ) → StaysOnline m a b
    → Counts m b c n → Counts m a c n
counts_since m a b c n stays counts = (
  counts.0,
  counts.1 ∙ ap (λ (c : ℕ × ℕ × ℕ). min (c.0 + 1) (2 ^ 64 - 1)) stays.2,
  subst (λ (x : ℕ). Rose x (m.faults c.disk)) (ap (λ (c : ℕ × ℕ × ℕ). c.1) stays.2) counts.2,
)

-- a call after others that answered tells its fault for all of them
told_since : {D L : Type 0} (m : Meaning D) (a b c : Pool D L) (result : Result (Unit {0}) PoolFault)
    → StaysOnline m a b → TellsFault m b c result → TellsFault m a c result
told_since m a b c (Ok x) stays tells = (stays.0, tells.1, tells.2 ∙ stays.2)
told_since m a b c (Err (DiskRead n)) stays tells = (
  stays.0,
  tells.1,
  counts_since m a b c n stays tells.2,
  tells.3 ∙ ap (λ (c : ℕ × ℕ × ℕ). c.2) stays.2,
)
told_since m a b c (Err (DiskWrite n)) stays tells = (
  stays.0,
  tells.1,
  counts_since m a b c n stays tells.2,
  subst (λ (x : ℕ). Rose x (m.failed_writes c.disk)) (ap (λ (c : ℕ × ℕ × ℕ). c.2) stays.2) tells.3,
)
told_since m a b c (Err (Offline n)) stays tells =
    (stays.0 ∙ (sym stays.1 ∙ tells.0), tells.1, tells.2 ∙ stays.2)
told_since m a b c (Err (Absent n)) stays tells = (stays.0, tells.1, tells.2 ∙ stays.2)
told_since m a b c (Err Memory) stays tells = (stays.0, tells.1, tells.2 ∙ stays.2)

pub returns-in-Err-write_out-clause-fails : goal.returns-in-Err-write_out-clause-fails
returns-in-Err-write_out-clause-fails g c = not_written c.change_one.new.self
    (record {
      changes = c.in-Ok.ensures.changes;
      frame = c.in-Ok.ensures.frame;
      crash = c.in-Ok.ensures.crash;
    }) c.in-Err-write_out.ensures.refused

pub returns-clause-settles : goal.returns-clause-settles
returns-clause-settles g c = settled g.D.Disk.meaning c.args.store.now c.change_one.new.self
    c.write_out.new.store c.settle.new.self c.args.page c.args.bytes.now
    (record {
      changes = c.in-Ok.ensures.changes;
      frame = c.in-Ok.ensures.frame;
      crash = c.in-Ok.ensures.crash;
    }) c.in-Ok-write_out.ensures.writes c.in-Ok-write_out.ensures.out c.settle.ensures.disk
    c.settle.ensures.same c.settle.result c.settle.ensures.durable

pub returns-clause-fails : goal.returns-clause-fails
returns-clause-fails g c = unsettled g.D.Disk.meaning c.args.store.now c.change_one.new.self
    c.write_out.new.store c.settle.new.self c.args.page c.args.bytes.now
    (record {
      changes = c.in-Ok.ensures.changes;
      frame = c.in-Ok.ensures.frame;
      crash = c.in-Ok.ensures.crash;
    }) c.in-Ok-write_out.ensures.writes c.in-Ok-write_out.ensures.out c.settle.ensures.disk
    c.settle.ensures.same c.settle.result

pub returns-in-Err-clause-pool : goal.returns-in-Err-clause-pool
returns-in-Err-clause-pool g c = c.change_one.ensures.pool

pub returns-in-Err-clause-geometry : goal.returns-in-Err-clause-geometry
returns-in-Err-clause-geometry g c = c.change_one.ensures.geometry

pub returns-in-Err-clause-fault : goal.returns-in-Err-clause-fault
returns-in-Err-clause-fault g c = c.in-Err.ensures.fault

pub returns-in-Err-clause-own : goal.returns-in-Err-clause-own
returns-in-Err-clause-own g c = c.in-Err.ensures.own

pub returns-in-Err-clause-settles : goal.returns-in-Err-clause-settles
returns-in-Err-clause-settles g c = tt

pub returns-in-Err-clause-fails : goal.returns-in-Err-clause-fails
returns-in-Err-clause-fails g c = not_changed c.in-Err.ensures.refused

pub returns-in-Err-write_out-clause-pool : goal.returns-in-Err-write_out-clause-pool
returns-in-Err-write_out-clause-pool g c = c.write_out.ensures.pool

pub returns-in-Err-write_out-clause-geometry : goal.returns-in-Err-write_out-clause-geometry
returns-in-Err-write_out-clause-geometry g c = c.write_out.ensures.geometry ∙ c.change_one.ensures.geometry

pub returns-in-Err-write_out-clause-fault : goal.returns-in-Err-write_out-clause-fault
returns-in-Err-write_out-clause-fault g c = told_since g.D.Disk.meaning c.args.store.now c.change_one.new.self
    c.write_out.new.store (Err c.in-Err-write_out.fault) c.in-Ok.ensures.fault
    c.in-Err-write_out.ensures.fault

pub returns-in-Err-write_out-clause-own : goal.returns-in-Err-write_out-clause-own
returns-in-Err-write_out-clause-own g c = c.in-Err-write_out.ensures.own

pub returns-in-Err-write_out-clause-settles : goal.returns-in-Err-write_out-clause-settles
returns-in-Err-write_out-clause-settles g c = tt

pub returns-clause-pool : goal.returns-clause-pool
returns-clause-pool g c = c.settle.ensures.pool

pub returns-clause-geometry : goal.returns-clause-geometry
returns-clause-geometry g c = ap (λ p. p.geometry) c.settle.ensures.same
    ∙ (c.write_out.ensures.geometry ∙ c.change_one.ensures.geometry)

pub returns-clause-fault : goal.returns-clause-fault
returns-clause-fault g c = told_since g.D.Disk.meaning c.args.store.now c.write_out.new.store c.settle.new.self
    c.settle.result
    (stays_after g.D.Disk.meaning c.args.store.now c.change_one.new.self c.write_out.new.store c.in-Ok.ensures.fault
    c.in-Ok-write_out.ensures.fault) c.settle.ensures.fault

pub returns-clause-own : goal.returns-clause-own
returns-clause-own g c = c.settle.ensures.own
