use Rattle.std.proofs.Common.{Ok, Err, [], sym, ◌∙◌, subst, Option}
use Rattle.mg_image.specs.Records.{cells_of}
use Rattle.mg_pool.specs.Pool.{shown}
use Rattle.mg_space.specs.HandedLaws.{fault_same, fault_up}
use Rattle.mg_space.specs.Taking.{IsGeometry}
use Rattle.mg_space.specs.ViewLaws.{keeps_on}
use Rattle.mg_version.specs.declared.cell.Version.{Version}
use Rattle.mg_version.specs.declared.cell.Link.{Link}
use Rattle.mg_heap.specs.HandedLaws.{reads_same}
use Rattle.mg_chain.specs.Refusals.{RefusesChain}
use Rattle.mg_collecting.specs.Collecting.{HasCount}
use Rattle.mg_collecting.proofs.CountLemmas.{count_comes_back, count_ends, count_is_long, count_none, count_on, count_starts, damage_at, met_on, primary_refuses, version_refuses}
use Rattle.mg_collecting.proofs.PartLemmas.{handed_on}
use Rattle.mg_collecting.proofs.counting.count_versions.Goals as goal

pub returns-in_err-first-clause-gives : goal.returns-in_err-first-clause-gives
returns-in_err-first-clause-gives g c = λ image tells.
    handed_on c.from_residual.result c.in_err-first.field-0.0
    (HasCount (cells_of (shown c.args.store.now.dirty image)) c.args.rec)
    (RefusesChain g.D.Disk.meaning c.newest.new.store [] (shown c.args.store.now.dirty image) c.args.rec)
    c.from_residual.ensures.0 c.from_residual.ensures.1
    (primary_refuses g.D.Disk.meaning c.newest.new.store [] (shown c.args.store.now.dirty image) c.args.rec
    c.in_err-first.field-0.0 (c.in_err-first.ensures.gives image tells))

pub returns-in_err-first-clause-fault : goal.returns-in_err-first-clause-fault
returns-in_err-first-clause-fault g c = fault_same (Option Link) g.D.Disk.meaning c.args.store.now c.newest.new.store
    c.from_residual.result c.in_err-first.field-0.0 c.from_residual.ensures.0 c.from_residual.ensures.1
    c.in_err-first.ensures.fault

pub returns-in_err-first-clause-own : goal.returns-in_err-first-clause-own
returns-in_err-first-clause-own g c = reads_same (Option Link) c.from_residual.result c.in_err-first.field-0.0
    c.from_residual.ensures.0 c.from_residual.ensures.1 c.in_err-first.ensures.own

pub returns-in_default-clause-gives : goal.returns-in_default-clause-gives
returns-in_default-clause-gives g c = λ image tells.
    count_none (shown c.args.store.now.dirty image) c.args.rec c.in_ok-first.field-0
    (c.in_ok-first.ensures.gives image tells) c.in_default.is

pub loop-step-init : goal.loop-step-init
loop-step-init g c = record {
  keeps = c.in_ok-first.ensures.keeps;
  faults = c.in_ok-first.ensures.fault.2;
  online = c.in_ok-first.ensures.fault.0;
  walk = λ image tells. count_starts (shown c.args.store.now.dirty image) c.args.rec c.in_ok-first.field-0
      c.in-Some.first (c.in_ok-first.ensures.gives image tells) c.in-Some.is;
}

pub returns-then-is_marked-clause-keeps : goal.returns-then-is_marked-clause-keeps
returns-then-is_marked-clause-keeps g c = c.loop-step.invariant.keeps

pub returns-then-is_marked-clause-fault : goal.returns-then-is_marked-clause-fault
returns-then-is_marked-clause-fault g c = (c.loop-step.invariant.online, c.loop-step.invariant.keeps.offline ∙ c.loop-step.invariant.online, c.loop-step.invariant.faults)

pub returns-then-is_marked-clause-gives : goal.returns-then-is_marked-clause-gives
returns-then-is_marked-clause-gives g c = λ image tells.
    damage_at g.D.Disk.meaning c.loop-step.store [] (shown c.args.store.now.dirty image) c.args.rec
    c.back_damage.result _ c.back_damage.ensures
    (count_comes_back (shown c.args.store.now.dirty image) c.args.rec g.D.Disk.meaning c.loop-step.store []
    c.loop-step.step c.loop-step.holder.0 c.loop-step.link c.loop-step.mark
    (c.loop-step.invariant.walk image tells) (c.is_marked.ensures.0 c.if-is_marked.true))

pub version-requires-clause-pool : goal.version-requires-clause-pool
version-requires-clause-pool g c = c.loop-step.invariant.keeps.pool

pub version-requires-clause-geometry : goal.version-requires-clause-geometry
version-requires-clause-geometry g c = subst IsGeometry (sym c.loop-step.invariant.keeps.geometry) c.requires.geometry

pub returns-in_err-met-clause-keeps : goal.returns-in_err-met-clause-keeps
returns-in_err-met-clause-keeps g c = keeps_on g.D.Disk.meaning g.met.D.Disk.counts_now c.args.store.now c.loop-step.store
    c.version.new.store c.loop-step.invariant.keeps c.in_err-met.ensures.keeps

pub returns-in_err-met-clause-fault : goal.returns-in_err-met-clause-fault
returns-in_err-met-clause-fault g c = fault_up Version g.D.Disk.meaning c.args.store.now
    c.loop-step.store c.version.new.store c.from_residual-in_err-met.result
    c.in_err-met.field-0.0 c.loop-step.invariant.keeps c.loop-step.invariant.faults
    c.from_residual-in_err-met.ensures.0 c.from_residual-in_err-met.ensures.1
    c.in_err-met.ensures.fault

pub returns-in_err-met-clause-own : goal.returns-in_err-met-clause-own
returns-in_err-met-clause-own g c = reads_same Version c.from_residual-in_err-met.result c.in_err-met.field-0.0
    c.from_residual-in_err-met.ensures.0 c.from_residual-in_err-met.ensures.1 c.in_err-met.ensures.own

pub returns-in_err-met-clause-gives : goal.returns-in_err-met-clause-gives
returns-in_err-met-clause-gives g c = λ image tells.
    handed_on c.from_residual-in_err-met.result c.in_err-met.field-0.0
    (HasCount (cells_of (shown c.args.store.now.dirty image)) c.args.rec)
    (RefusesChain g.D.Disk.meaning c.version.new.store [] (shown c.args.store.now.dirty image) c.args.rec)
    c.from_residual-in_err-met.ensures.0 c.from_residual-in_err-met.ensures.1
    (version_refuses g.D.Disk.meaning c.version.new.store [] (shown c.args.store.now.dirty image) c.args.rec
    c.loop-step.step c.loop-step.holder.0 c.loop-step.link ((c.loop-step.invariant.walk image tells).follows)
    c.in_err-met.field-0.0
    (met_on g.D.Disk.meaning c.args.store.now c.loop-step.store c.version.new.store image
    c.loop-step.holder.0 c.loop-step.link (Err c.in_err-met.field-0.0)
    c.loop-step.invariant.keeps tells c.in_err-met.ensures.gives))

pub returns-in_default-back-clause-keeps : goal.returns-in_default-back-clause-keeps
returns-in_default-back-clause-keeps g c = keeps_on g.D.Disk.meaning g.met.D.Disk.counts_now c.args.store.now c.loop-step.store
    c.version.new.store c.loop-step.invariant.keeps c.in_ok-met.ensures.keeps

pub returns-in_default-back-clause-fault : goal.returns-in_default-back-clause-fault
returns-in_default-back-clause-fault g c = (
  c.loop-step.invariant.online,
  c.in_ok-met.ensures.fault.1,
  c.in_ok-met.ensures.fault.2 ∙ c.loop-step.invariant.faults,
)

pub returns-in_default-back-clause-gives : goal.returns-in_default-back-clause-gives
returns-in_default-back-clause-gives g c = λ image tells.
    count_ends (shown c.args.store.now.dirty image) c.args.rec
    c.loop-step.step c.loop-step.holder.0 c.loop-step.link c.in_ok-met.met c.loop-step.mark
    (c.loop-step.invariant.walk image tells)
    (met_on g.D.Disk.meaning c.args.store.now c.loop-step.store c.version.new.store image
    c.loop-step.holder.0 c.loop-step.link (Ok c.in_ok-met.met)
    c.loop-step.invariant.keeps tells c.in_ok-met.ensures.gives)
    c.in_default-back.is

pub loop-step-preserved : goal.loop-step-preserved
loop-step-preserved g c = record {
  keeps = keeps_on g.D.Disk.meaning g.met.D.Disk.counts_now c.args.store.now c.loop-step.store
      c.version.new.store c.loop-step.invariant.keeps c.in_ok-met.ensures.keeps;
  faults = c.in_ok-met.ensures.fault.2 ∙ c.loop-step.invariant.faults;
  online = c.loop-step.invariant.online;
  walk = λ image tells. count_on (shown c.args.store.now.dirty image) c.args.rec
      c.loop-step.step c.loop-step.holder.0 c.loop-step.link c.in_ok-met.met c.loop-step.mark
      (c.loop-step.invariant.walk image tells)
      (met_on g.D.Disk.meaning c.args.store.now c.loop-step.store c.version.new.store image
      c.loop-step.holder.0 c.loop-step.link (Ok c.in_ok-met.met)
      c.loop-step.invariant.keeps tells c.in_ok-met.ensures.gives)
      c.in-Some-back.back c.marked-mark.result c.in-Some-back.is c.marked-mark.ensures;
}

pub returns-clause-keeps : goal.returns-clause-keeps
returns-clause-keeps g c = c.loop-step.invariant.keeps

pub returns-clause-fault : goal.returns-clause-fault
returns-clause-fault g c = (c.loop-step.invariant.online, c.loop-step.invariant.keeps.offline ∙ c.loop-step.invariant.online, c.loop-step.invariant.faults)

pub returns-clause-gives : goal.returns-clause-gives
returns-clause-gives g c = λ image tells.
    damage_at g.D.Disk.meaning c.loop-step.store [] (shown c.args.store.now.dirty image) c.args.rec
    c.back_damage-2.result _ c.back_damage-2.ensures
    (count_is_long (shown c.args.store.now.dirty image) c.args.rec g.D.Disk.meaning c.loop-step.store []
    c.loop-step.step c.loop-step.holder.0 c.loop-step.link c.loop-step.mark
    (c.loop-step.invariant.walk image tells) c.loop-step-test.false)
