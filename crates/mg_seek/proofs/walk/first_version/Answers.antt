use Rattle.mg_space.specs.WholeLaws.{whole_kept}
use Rattle.std.proofs.Common.{Ok, Err, sym, ◌∙◌, subst, Option}
use Rattle.mg_space.specs.HandedLaws.{fault_same, fault_up, no_answer}
use Rattle.mg_space.specs.Taking.{IsGeometry}
use Rattle.mg_space.specs.View.{viewed}
use Rattle.mg_space.specs.ViewLaws.{keeps_on}
use Rattle.mg_version.specs.declared.cell.Version.{Version}
use Rattle.mg_heap.specs.HandedLaws.{reads_same}
use Rattle.mg_seek.specs.Versions.{IsFirst, wants}
use Rattle.mg_chain.specs.Refusals.{RefusesChain}
use Rattle.mg_seek.proofs.Steps.{damage_at, handed_on, met_on, primary_refuses, version_refuses, walk_comes_back, walk_ends, walk_here, walk_is_long, walk_none, walk_on, walk_starts}
use Rattle.mg_version.specs.declared.cell.Link.{Link}
use Rattle.mg_seek.proofs.walk.first_version.Goals as goal

pub returns-in_err-first-clause-gives : goal.returns-in_err-first-clause-gives
returns-in_err-first-clause-gives g c = λ image tells.
    handed_on c.from_residual.result c.in_err-first.field-0.0
    (IsFirst (viewed c.args.store.now image c.args.batch.now)
    (wants (g.S.States.state_of c.args.states.now) c.args.live.now c.args.wanted) c.args.rec)
    (RefusesChain g.D.Disk.meaning c.newest_link.new.store c.args.batch.now.pages (viewed c.args.store.now image c.args.batch.now) c.args.rec)
    c.from_residual.ensures.0 c.from_residual.ensures.1
    (primary_refuses g.D.Disk.meaning c.newest_link.new.store c.args.batch.now.pages (viewed c.args.store.now image c.args.batch.now) c.args.rec
    c.in_err-first.field-0.0 (c.in_err-first.ensures.gives image tells))

pub returns-in_default-clause-gives : goal.returns-in_default-clause-gives
returns-in_default-clause-gives g c = λ image tells.
    walk_none (viewed c.args.store.now image c.args.batch.now) c.args.rec
    (wants (g.S.States.state_of c.args.states.now) c.args.live.now c.args.wanted)
    c.in_ok-first.field-0 (c.in_ok-first.ensures.gives image tells) c.in_default.is

pub loop-step-init : goal.loop-step-init
loop-step-init g c = record {
  keeps = c.in_ok-first.ensures.keeps;
  faults = c.in_ok-first.ensures.fault.2;
  online = c.in_ok-first.ensures.fault.0;
  walk = λ image tells. walk_starts (viewed c.args.store.now image c.args.batch.now) c.args.rec
      (wants (g.S.States.state_of c.args.states.now) c.args.live.now c.args.wanted)
      c.in_ok-first.field-0 c.in-Some.first (c.in_ok-first.ensures.gives image tells) c.in-Some.is;
}

pub returns-then-is_marked-clause-keeps : goal.returns-then-is_marked-clause-keeps
returns-then-is_marked-clause-keeps g c = c.loop-step.invariant.keeps

pub returns-then-is_marked-clause-fault : goal.returns-then-is_marked-clause-fault
returns-then-is_marked-clause-fault g c = (c.loop-step.invariant.online, c.loop-step.invariant.keeps.offline ∙ c.loop-step.invariant.online, c.loop-step.invariant.faults)

pub returns-then-is_marked-clause-gives : goal.returns-then-is_marked-clause-gives
returns-then-is_marked-clause-gives g c = λ image tells.
    damage_at g.D.Disk.meaning c.loop-step.store c.args.batch.now.pages (viewed c.args.store.now image c.args.batch.now) c.args.rec
    c.back_damage.result _ c.back_damage.ensures
    (walk_comes_back (viewed c.args.store.now image c.args.batch.now) c.args.rec
    (wants (g.S.States.state_of c.args.states.now) c.args.live.now c.args.wanted)
    g.D.Disk.meaning c.loop-step.store c.args.batch.now.pages
    c.loop-step.step c.loop-step.holder.0 c.loop-step.link c.loop-step.mark
    (c.loop-step.invariant.walk image tells) (c.is_marked.ensures.0 c.if-is_marked.true))

pub version_at-requires-clause-pool : goal.version_at-requires-clause-pool
version_at-requires-clause-pool g c = c.loop-step.invariant.keeps.pool

pub version_at-requires-clause-geometry : goal.version_at-requires-clause-geometry
version_at-requires-clause-geometry g c = subst IsGeometry (sym c.loop-step.invariant.keeps.geometry) c.requires.geometry

pub version_at-requires-clause-whole : goal.version_at-requires-clause-whole
version_at-requires-clause-whole g c =
    whole_kept g.D.Disk.meaning c.args.store.now c.loop-step.store c.args.batch.now.pages c.loop-step.invariant.keeps c.requires.whole

pub returns-in_err-version-clause-keeps : goal.returns-in_err-version-clause-keeps
returns-in_err-version-clause-keeps g c = keeps_on g.D.Disk.meaning g.met.D.Disk.counts_now c.args.store.now c.loop-step.store
    c.version_at.new.store c.loop-step.invariant.keeps c.in_err-version.ensures.keeps

pub returns-in_err-version-clause-fault : goal.returns-in_err-version-clause-fault
returns-in_err-version-clause-fault g c = fault_up Version g.D.Disk.meaning c.args.store.now
    c.loop-step.store c.version_at.new.store c.from_residual-in_err-version.result
    c.in_err-version.field-0.0 c.loop-step.invariant.keeps c.loop-step.invariant.faults
    c.from_residual-in_err-version.ensures.0 c.from_residual-in_err-version.ensures.1
    c.in_err-version.ensures.fault

pub returns-in_err-version-clause-gives : goal.returns-in_err-version-clause-gives
returns-in_err-version-clause-gives g c = λ image tells.
    handed_on c.from_residual-in_err-version.result c.in_err-version.field-0.0
    (IsFirst (viewed c.args.store.now image c.args.batch.now)
    (wants (g.S.States.state_of c.args.states.now) c.args.live.now c.args.wanted) c.args.rec)
    (RefusesChain g.D.Disk.meaning c.version_at.new.store c.args.batch.now.pages (viewed c.args.store.now image c.args.batch.now) c.args.rec)
    c.from_residual-in_err-version.ensures.0 c.from_residual-in_err-version.ensures.1
    (version_refuses g.D.Disk.meaning c.version_at.new.store c.args.batch.now.pages (viewed c.args.store.now image c.args.batch.now) c.args.rec
    c.loop-step.step c.loop-step.holder.0 c.loop-step.link ((c.loop-step.invariant.walk image tells).follows)
    c.in_err-version.field-0.0
    (met_on g.D.Disk.meaning c.args.store.now c.loop-step.store c.version_at.new.store image
    c.args.batch.now c.loop-step.holder.0 c.loop-step.link (Err c.in_err-version.field-0.0)
    c.loop-step.invariant.keeps tells c.in_err-version.ensures.gives))

pub returns-then-wants-clause-keeps : goal.returns-then-wants-clause-keeps
returns-then-wants-clause-keeps g c = keeps_on g.D.Disk.meaning g.met.D.Disk.counts_now c.args.store.now c.loop-step.store
    c.version_at.new.store c.loop-step.invariant.keeps c.in_ok-version.ensures.keeps

pub returns-then-wants-clause-fault : goal.returns-then-wants-clause-fault
returns-then-wants-clause-fault g c = (
  c.loop-step.invariant.online,
  c.in_ok-version.ensures.fault.1,
  c.in_ok-version.ensures.fault.2 ∙ c.loop-step.invariant.faults,
)

pub returns-then-wants-clause-gives : goal.returns-then-wants-clause-gives
returns-then-wants-clause-gives g c = λ image tells.
    walk_here (viewed c.args.store.now image c.args.batch.now) c.args.rec
    (wants (g.S.States.state_of c.args.states.now) c.args.live.now c.args.wanted)
    c.loop-step.step c.loop-step.holder.0 c.loop-step.link c.in_ok-version.version c.loop-step.mark
    (c.loop-step.invariant.walk image tells)
    (met_on g.D.Disk.meaning c.args.store.now c.loop-step.store c.version_at.new.store image
    c.args.batch.now c.loop-step.holder.0 c.loop-step.link (Ok c.in_ok-version.version)
    c.loop-step.invariant.keeps tells c.in_ok-version.ensures.gives)
    (sym c.wants.ensures ∙ c.if-wants.true)

pub returns-in_default-back-clause-keeps : goal.returns-in_default-back-clause-keeps
returns-in_default-back-clause-keeps g c = keeps_on g.D.Disk.meaning g.met.D.Disk.counts_now c.args.store.now c.loop-step.store
    c.version_at.new.store c.loop-step.invariant.keeps c.in_ok-version.ensures.keeps

pub returns-in_default-back-clause-fault : goal.returns-in_default-back-clause-fault
returns-in_default-back-clause-fault g c = (
  c.loop-step.invariant.online,
  c.in_ok-version.ensures.fault.1,
  c.in_ok-version.ensures.fault.2 ∙ c.loop-step.invariant.faults,
)

pub returns-in_default-back-clause-gives : goal.returns-in_default-back-clause-gives
returns-in_default-back-clause-gives g c = λ image tells.
    walk_ends (viewed c.args.store.now image c.args.batch.now) c.args.rec
    (wants (g.S.States.state_of c.args.states.now) c.args.live.now c.args.wanted)
    c.loop-step.step c.loop-step.holder.0 c.loop-step.link c.in_ok-version.version c.loop-step.mark
    (c.loop-step.invariant.walk image tells)
    (met_on g.D.Disk.meaning c.args.store.now c.loop-step.store c.version_at.new.store image
    c.args.batch.now c.loop-step.holder.0 c.loop-step.link (Ok c.in_ok-version.version)
    c.loop-step.invariant.keeps tells c.in_ok-version.ensures.gives)
    (sym c.wants.ensures ∙ c.if-wants.false) c.in_default-back.is

pub loop-step-preserved : goal.loop-step-preserved
loop-step-preserved g c = record {
  keeps = keeps_on g.D.Disk.meaning g.met.D.Disk.counts_now c.args.store.now c.loop-step.store
      c.version_at.new.store c.loop-step.invariant.keeps c.in_ok-version.ensures.keeps;
  faults = c.in_ok-version.ensures.fault.2 ∙ c.loop-step.invariant.faults;
  online = c.loop-step.invariant.online;
  walk = λ image tells. walk_on (viewed c.args.store.now image c.args.batch.now) c.args.rec
      (wants (g.S.States.state_of c.args.states.now) c.args.live.now c.args.wanted)
      c.loop-step.step c.loop-step.holder.0 c.loop-step.link c.in-Some-back.back c.in_ok-version.version
      c.loop-step.mark c.marked-mark.result (c.loop-step.invariant.walk image tells)
      (met_on g.D.Disk.meaning c.args.store.now c.loop-step.store c.version_at.new.store image
      c.args.batch.now c.loop-step.holder.0 c.loop-step.link (Ok c.in_ok-version.version)
      c.loop-step.invariant.keeps tells c.in_ok-version.ensures.gives)
      (sym c.wants.ensures ∙ c.if-wants.false) c.in-Some-back.is c.marked-mark.ensures;
}

pub returns-clause-keeps : goal.returns-clause-keeps
returns-clause-keeps g c = c.loop-step.invariant.keeps

pub returns-clause-fault : goal.returns-clause-fault
returns-clause-fault g c = (c.loop-step.invariant.online, c.loop-step.invariant.keeps.offline ∙ c.loop-step.invariant.online, c.loop-step.invariant.faults)

pub returns-clause-gives : goal.returns-clause-gives
returns-clause-gives g c = λ image tells.
    damage_at g.D.Disk.meaning c.loop-step.store c.args.batch.now.pages (viewed c.args.store.now image c.args.batch.now) c.args.rec
    c.back_damage-2.result _ c.back_damage-2.ensures
    (walk_is_long (viewed c.args.store.now image c.args.batch.now) c.args.rec
    (wants (g.S.States.state_of c.args.states.now) c.args.live.now c.args.wanted)
    g.D.Disk.meaning c.loop-step.store c.args.batch.now.pages
    c.loop-step.step c.loop-step.holder.0 c.loop-step.link c.loop-step.mark
    (c.loop-step.invariant.walk image tells) c.loop-step-test.false)

pub returns-in_err-first-clause-keeps : goal.returns-in_err-first-clause-keeps
returns-in_err-first-clause-keeps g c = c.in_err-first.ensures.keeps

pub returns-in_err-first-clause-fault : goal.returns-in_err-first-clause-fault
returns-in_err-first-clause-fault g c = fault_same (Option Link) g.D.Disk.meaning c.args.store.now c.newest_link.new.store c.from_residual.result c.in_err-first.field-0.0
    c.from_residual.ensures.0 c.from_residual.ensures.1 c.in_err-first.ensures.fault

pub returns-in_err-first-clause-own : goal.returns-in_err-first-clause-own
returns-in_err-first-clause-own g c = reads_same (Option Link) c.from_residual.result c.in_err-first.field-0.0 c.from_residual.ensures.0 c.from_residual.ensures.1
    c.in_err-first.ensures.own

pub returns-in_default-clause-keeps : goal.returns-in_default-clause-keeps
returns-in_default-clause-keeps g c = c.in_ok-first.ensures.keeps

pub returns-in_default-clause-fault : goal.returns-in_default-clause-fault
returns-in_default-clause-fault g c = c.in_ok-first.ensures.fault

pub returns-in_default-clause-own : goal.returns-in_default-clause-own
returns-in_default-clause-own g c = tt

pub returns-in_err-version-clause-own : goal.returns-in_err-version-clause-own
returns-in_err-version-clause-own g c = reads_same Version c.from_residual-in_err-version.result c.in_err-version.field-0.0
    c.from_residual-in_err-version.ensures.0 c.from_residual-in_err-version.ensures.1 c.in_err-version.ensures.own

pub returns-then-is_marked-clause-own : goal.returns-then-is_marked-clause-own
returns-then-is_marked-clause-own g c = tt

pub returns-then-wants-clause-own : goal.returns-then-wants-clause-own
returns-then-wants-clause-own g c = tt

pub returns-in_default-back-clause-own : goal.returns-in_default-back-clause-own
returns-in_default-back-clause-own g c = tt

pub returns-clause-own : goal.returns-clause-own
returns-clause-own g c = tt

pub returns-in_default-clause-short : goal.returns-in_default-clause-short
returns-in_default-clause-short g c = tt

pub returns-then-is_marked-clause-short : goal.returns-then-is_marked-clause-short
returns-then-is_marked-clause-short g c = tt

pub returns-in_default-back-clause-short : goal.returns-in_default-back-clause-short
returns-in_default-back-clause-short g c = tt

pub returns-clause-short : goal.returns-clause-short
returns-clause-short g c = tt

pub returns-in_err-first-clause-short : goal.returns-in_err-first-clause-short
returns-in_err-first-clause-short g c = no_answer _ c.from_residual.result c.from_residual.ensures.0

pub returns-in_err-version-clause-short : goal.returns-in_err-version-clause-short
returns-in_err-version-clause-short g c = no_answer _ c.from_residual-in_err-version.result c.from_residual-in_err-version.ensures.0
