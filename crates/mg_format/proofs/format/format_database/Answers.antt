use Rattle.std.proofs.Common.{Err, Ok, Some, ap, arith, refl, subst, true, ℕ, ◌∙◌, ◌≡◌}
use Rattle.mg_base.specs.Disk.{MayLeave}
use Rattle.mg_base.specs.Image.{Image}
use Rattle.mg_format.specs.Format.{HasWrittenUpTo}
use Rattle.mg_format.proofs.FormatLemmas.{begun, formatted, goes, last_leaves, leaves, never_fell, refusal_writes, says_still, says_then, sized, stays_after, tells_after, tells_as, told_so, writes_as}
use Rattle.mg_format.proofs.WriteLemmas.{off_ok}
use Rattle.mg_format.proofs.format.format_database.Goals as goal

pub returns-in_err-write_new-clause-done : goal.returns-in_err-write_new-clause-done
returns-in_err-write_new-clause-done g c = λ image fresh.
    let upto = c.loop-n.invariant.upto image fresh in
    record {
      crash = leaves g.D.Disk.meaning g.met.D.Disk.counts_now c.args.store.now.disk
          c.args.store.now.geometry.size c.loop-n.store.disk c.loop-n.n upto
          c.write_new.new.store.disk (Err c.in_err-write_new.field-0.0) c.loop-n.auto.n
          (sized g.D.Disk.meaning c.loop-n.store.geometry c.args.store.now.geometry
          c.loop-n.invariant.geometry (c.in_err-write_new.ensures.writes upto.image upto.tells));
      made = off_ok c.from_residual-in_err-write_new.result _
          c.from_residual-in_err-write_new.ensures.0;
    }

pub loop-n-preserved : goal.loop-n-preserved
loop-n-preserved g c = record {
  pool = c.in_ok-write_new.ensures.pool;
  geometry = c.in_ok-write_new.ensures.geometry ∙ c.loop-n.invariant.geometry;
  clean = c.in_ok-write_new.ensures.clean;
  online = (
    c.loop-n.invariant.online.0,
    c.in_ok-write_new.ensures.fault.1,
    c.in_ok-write_new.ensures.fault.2 ∙ c.loop-n.invariant.online.2,
  );
  says = says_then g.D.Disk.meaning c.args.store.now.disk c.loop-n.store.disk c.write_new.new.store.disk
      c.loop-n.invariant.says c.write_new.ensures.says;
  steady = c.in_ok-write_new.ensures.steady ∙ c.loop-n.invariant.steady;
  upto = λ image fresh.
      let upto = c.loop-n.invariant.upto image fresh in
      let writes = sized g.D.Disk.meaning c.loop-n.store.geometry c.args.store.now.geometry
      c.loop-n.invariant.geometry (c.in_ok-write_new.ensures.writes upto.image upto.tells) in
      goes g.D.Disk.meaning g.met.D.Disk.counts_now c.args.store.now.disk
      c.args.store.now.geometry.size c.loop-n.store.disk c.loop-n.n upto
      c.write_new.new.store.disk (Ok tt) c.loop-n.auto.n writes writes.written;
}

pub returns-in_err-write_new-2-clause-done : goal.returns-in_err-write_new-2-clause-done
returns-in_err-write_new-2-clause-done g c = λ image fresh.
    let at_end : c.loop-n.n ≡ 7 = omega arith in
    let upto : HasWrittenUpTo g.D.Disk.meaning c.args.store.now.disk c.loop-n.store.disk
    c.args.store.now.geometry.size 7 = subst (λ (k : ℕ). HasWrittenUpTo g.D.Disk.meaning
    c.args.store.now.disk c.loop-n.store.disk c.args.store.now.geometry.size k) at_end
    (c.loop-n.invariant.upto image fresh) in
    record {
      crash = last_leaves g.D.Disk.meaning g.met.D.Disk.counts_now c.args.store.now.disk
          c.args.store.now.geometry.size c.loop-n.store.disk upto
          c.write_new-2.new.store.disk (Err c.in_err-write_new-2.field-0.0)
          (sized g.D.Disk.meaning c.loop-n.store.geometry c.args.store.now.geometry
          c.loop-n.invariant.geometry (c.in_err-write_new-2.ensures.writes upto.image upto.tells));
      made = off_ok c.from_residual-in_err-write_new-2.result _
          c.from_residual-in_err-write_new-2.ensures.0;
    }

pub returns-clause-done : goal.returns-clause-done
returns-clause-done g c = λ image fresh.
    let at_end : c.loop-n.n ≡ 7 = omega arith in
    let upto : HasWrittenUpTo g.D.Disk.meaning c.args.store.now.disk c.loop-n.store.disk
    c.args.store.now.geometry.size 7 = subst (λ (k : ℕ). HasWrittenUpTo g.D.Disk.meaning
    c.args.store.now.disk c.loop-n.store.disk c.args.store.now.geometry.size k) at_end
    (c.loop-n.invariant.upto image fresh) in
    let writes = sized g.D.Disk.meaning c.loop-n.store.geometry c.args.store.now.geometry
    c.loop-n.invariant.geometry (c.in_ok-write_new-2.ensures.writes upto.image upto.tells) in
    formatted g.D.Disk.meaning g.met.D.Disk.counts_now c.args.store.now.disk
    c.args.store.now.geometry.size c.loop-n.store.disk upto c.write_new-2.new.store.disk (Ok tt)
    writes c.settle.new.self.disk c.settle.result writes.written.tells.told c.settle.ensures.disk
    writes.written (told_so c.settle.result (g.D.Disk.meaning.tells c.write_new-2.new.store.disk
    ≡ true) ((image : Image) → MayLeave g.D.Disk.meaning c.settle.new.self.disk image
    → g.D.Disk.meaning.held c.settle.new.self.disk ≡ Some image) writes.written.tells.told
    c.settle.ensures.durable)

pub returns-clause-never_falls : goal.returns-clause-never_falls
returns-clause-never_falls g c = never_fell c.settle.result _ _ _ _ c.loop-n.invariant.steady
    c.in_ok-write_new-2.ensures.steady c.settle.ensures.disk.never_falls

pub loop-n-init : goal.loop-n-init
loop-n-init g c = record {
  pool = c.requires.pool;
  geometry = refl;
  clean = c.requires.clean;
  online = c.in_ok-online.ensures.fault;
  says = says_still g.D.Disk.meaning c.args.store.now.disk;
  steady = refl;
  upto = λ image fresh. begun g.D.Disk.meaning g.met.D.Disk.counts_now c.args.store.now.disk c.args.store.now.geometry.size image fresh.tells
      fresh.unmade;
}

pub returns-in_err-write_new-clause-says : goal.returns-in_err-write_new-clause-says
returns-in_err-write_new-clause-says g c = says_then g.D.Disk.meaning c.args.store.now.disk c.loop-n.store.disk
    c.write_new.new.store.disk c.loop-n.invariant.says c.write_new.ensures.says

pub returns-in_err-write_new-2-clause-says : goal.returns-in_err-write_new-2-clause-says
returns-in_err-write_new-2-clause-says g c = says_then g.D.Disk.meaning c.args.store.now.disk c.loop-n.store.disk
    c.write_new-2.new.store.disk c.loop-n.invariant.says c.write_new-2.ensures.says

pub returns-clause-says : goal.returns-clause-says
returns-clause-says g c = says_then g.D.Disk.meaning c.args.store.now.disk c.write_new-2.new.store.disk
    c.settle.new.self.disk
    (says_then g.D.Disk.meaning c.args.store.now.disk c.loop-n.store.disk c.write_new-2.new.store.disk
    c.loop-n.invariant.says c.write_new-2.ensures.says)
    (record { tells = c.settle.ensures.disk.tells; most_writes = c.settle.ensures.disk.most_writes })

pub returns-in_err-online-clause-pool : goal.returns-in_err-online-clause-pool
returns-in_err-online-clause-pool g c = c.requires.pool

pub returns-in_err-online-clause-geometry : goal.returns-in_err-online-clause-geometry
returns-in_err-online-clause-geometry g c = refl

pub returns-in_err-online-clause-clean : goal.returns-in_err-online-clause-clean
returns-in_err-online-clause-clean g c = off_ok c.from_residual.result _ c.from_residual.ensures.0

pub returns-in_err-online-clause-own : goal.returns-in_err-online-clause-own
returns-in_err-online-clause-own g c = writes_as (Unit {0}) c.from_residual.result c.in_err-online.field-0.0 c.from_residual.ensures.1
    (refusal_writes c.in_err-online.field-0.0 c.in_err-online.ensures.refusal)

pub returns-in_err-online-clause-fault : goal.returns-in_err-online-clause-fault
returns-in_err-online-clause-fault g c = tells_as (Unit {0}) g.D.Disk.meaning c.args.store.now c.args.store.now c.from_residual.result
    c.in_err-online.field-0.0 c.from_residual.ensures.1 c.in_err-online.ensures.fault

pub returns-in_err-online-clause-says : goal.returns-in_err-online-clause-says
returns-in_err-online-clause-says g c = says_still g.D.Disk.meaning c.args.store.now.disk

pub returns-in_err-online-clause-never_falls : goal.returns-in_err-online-clause-never_falls
returns-in_err-online-clause-never_falls g c = off_ok c.from_residual.result _ c.from_residual.ensures.0

pub returns-in_err-write_new-clause-pool : goal.returns-in_err-write_new-clause-pool
returns-in_err-write_new-clause-pool g c = c.write_new.ensures.pool

pub returns-in_err-write_new-clause-geometry : goal.returns-in_err-write_new-clause-geometry
returns-in_err-write_new-clause-geometry g c = c.write_new.ensures.geometry ∙ c.loop-n.invariant.geometry

pub returns-in_err-write_new-clause-clean : goal.returns-in_err-write_new-clause-clean
returns-in_err-write_new-clause-clean g c = off_ok c.from_residual-in_err-write_new.result _
    c.from_residual-in_err-write_new.ensures.0

pub returns-in_err-write_new-clause-own : goal.returns-in_err-write_new-clause-own
returns-in_err-write_new-clause-own g c = writes_as (Unit {0}) c.from_residual-in_err-write_new.result
    c.in_err-write_new.field-0.0 c.from_residual-in_err-write_new.ensures.1 c.in_err-write_new.ensures.own

pub returns-in_err-write_new-clause-fault : goal.returns-in_err-write_new-clause-fault
returns-in_err-write_new-clause-fault g c = tells_as (Unit {0}) g.D.Disk.meaning c.args.store.now
    c.write_new.new.store c.from_residual-in_err-write_new.result c.in_err-write_new.field-0.0
    c.from_residual-in_err-write_new.ensures.1
    (tells_after {T = Unit {0}} g.D.Disk.meaning c.args.store.now c.loop-n.store c.write_new.new.store
    (Err c.in_err-write_new.field-0.0) c.loop-n.invariant.online c.loop-n.invariant.steady
    c.in_err-write_new.ensures.fault)

pub returns-in_err-write_new-clause-never_falls : goal.returns-in_err-write_new-clause-never_falls
returns-in_err-write_new-clause-never_falls g c = off_ok c.from_residual-in_err-write_new.result _
    c.from_residual-in_err-write_new.ensures.0

pub returns-in_err-write_new-2-clause-pool : goal.returns-in_err-write_new-2-clause-pool
returns-in_err-write_new-2-clause-pool g c = c.write_new-2.ensures.pool

pub returns-in_err-write_new-2-clause-geometry : goal.returns-in_err-write_new-2-clause-geometry
returns-in_err-write_new-2-clause-geometry g c = c.write_new-2.ensures.geometry ∙ c.loop-n.invariant.geometry

pub returns-in_err-write_new-2-clause-clean : goal.returns-in_err-write_new-2-clause-clean
returns-in_err-write_new-2-clause-clean g c = off_ok c.from_residual-in_err-write_new-2.result _
    c.from_residual-in_err-write_new-2.ensures.0

pub returns-in_err-write_new-2-clause-own : goal.returns-in_err-write_new-2-clause-own
returns-in_err-write_new-2-clause-own g c = writes_as (Unit {0}) c.from_residual-in_err-write_new-2.result
    c.in_err-write_new-2.field-0.0 c.from_residual-in_err-write_new-2.ensures.1 c.in_err-write_new-2.ensures.own

pub returns-in_err-write_new-2-clause-fault : goal.returns-in_err-write_new-2-clause-fault
returns-in_err-write_new-2-clause-fault g c = tells_as (Unit {0}) g.D.Disk.meaning c.args.store.now
    c.write_new-2.new.store c.from_residual-in_err-write_new-2.result c.in_err-write_new-2.field-0.0
    c.from_residual-in_err-write_new-2.ensures.1
    (tells_after {T = Unit {0}} g.D.Disk.meaning c.args.store.now c.loop-n.store c.write_new-2.new.store
    (Err c.in_err-write_new-2.field-0.0) c.loop-n.invariant.online c.loop-n.invariant.steady
    c.in_err-write_new-2.ensures.fault)

pub returns-in_err-write_new-2-clause-never_falls : goal.returns-in_err-write_new-2-clause-never_falls
returns-in_err-write_new-2-clause-never_falls g c = off_ok c.from_residual-in_err-write_new-2.result _
    c.from_residual-in_err-write_new-2.ensures.0

pub returns-clause-pool : goal.returns-clause-pool
returns-clause-pool g c = c.settle.ensures.pool

pub returns-clause-geometry : goal.returns-clause-geometry
returns-clause-geometry g c = ap (λ p. p.geometry) c.settle.ensures.same
    ∙ (c.write_new-2.ensures.geometry ∙ c.loop-n.invariant.geometry)

pub returns-clause-own : goal.returns-clause-own
returns-clause-own g c = c.settle.ensures.own

pub returns-clause-fault : goal.returns-clause-fault
returns-clause-fault g c = tells_after g.D.Disk.meaning c.args.store.now c.write_new-2.new.store c.settle.new.self
    c.settle.result
    (stays_after g.D.Disk.meaning c.args.store.now c.loop-n.store c.write_new-2.new.store c.loop-n.invariant.online
    c.in_ok-write_new-2.ensures.fault)
    (c.in_ok-write_new-2.ensures.steady ∙ c.loop-n.invariant.steady) c.settle.ensures.fault

pub write_new-requires-clause-pool : goal.write_new-requires-clause-pool
write_new-requires-clause-pool g c = c.loop-n.invariant.pool

pub write_new-requires-clause-clean : goal.write_new-requires-clause-clean
write_new-requires-clause-clean g c = c.loop-n.invariant.clean

pub write_new-requires-2-clause-pool : goal.write_new-requires-2-clause-pool
write_new-requires-2-clause-pool g c = c.loop-n.invariant.pool

pub write_new-requires-2-clause-clean : goal.write_new-requires-2-clause-clean
write_new-requires-2-clause-clean g c = c.loop-n.invariant.clean
