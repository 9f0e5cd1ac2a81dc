use Rattle.std.proofs.Common.{◌∙◌, arith, refl}
use Rattle.mg_core_collecting.specs.Every.{FailsListed, GoesThrough, StopsAt, CollectsOne}
use Rattle.mg_core_collecting.proofs.EveryLemmas.{amidst_ends, amidst_goes_on, amidst_starts, amidst_stops}
use Rattle.mg_core_collecting.proofs.LookLemmas.{handed_on}
use Rattle.mg_core_collecting.proofs.every.collect_records.Goals as goal

pub loop-rec-init : goal.loop-rec-init
loop-rec-init g c = (
  amidst_starts (CollectsOne g.D.Disk.meaning (g.S.States.state_of c.args.states.now) c.args.live.now)
      c.args.records.now c.args.store.now,
  c.requires.pool,
  refl,
)

pub returns-in_err-collect_listed-clause-collects : goal.returns-in_err-collect_listed-clause-collects
returns-in_err-collect_listed-clause-collects g c = handed_on c.from_residual.result
    c.in_err-collect_listed.field-0.0
    (λ done. GoesThrough (CollectsOne g.D.Disk.meaning (g.S.States.state_of c.args.states.now) c.args.live.now)
    c.args.store.now c.args.records.now c.collect_listed.new.store)
    (StopsAt (CollectsOne g.D.Disk.meaning (g.S.States.state_of c.args.states.now) c.args.live.now)
    (FailsListed g.D.Disk.meaning (g.S.States.state_of c.args.states.now) c.args.live.now) c.args.store.now
    c.args.records.now c.collect_listed.new.store) c.from_residual.ensures.0 c.from_residual.ensures.1
    (amidst_stops (CollectsOne g.D.Disk.meaning (g.S.States.state_of c.args.states.now) c.args.live.now)
    c.args.records.now c.args.store.now
    (FailsListed g.D.Disk.meaning (g.S.States.state_of c.args.states.now) c.args.live.now) c.loop-rec.rest.now
    c.in-Some.rec.now c.in-Some.later.now c.loop-rec.store c.collect_listed.new.store
    c.in_err-collect_listed.field-0.0 c.loop-rec.invariant.0 c.in-Some.ensures.cases.0
    c.in_err-collect_listed.ensures.collects)

pub loop-rec-preserved : goal.loop-rec-preserved
loop-rec-preserved g c = (
  amidst_goes_on (CollectsOne g.D.Disk.meaning (g.S.States.state_of c.args.states.now) c.args.live.now)
      c.args.records.now c.args.store.now c.loop-rec.rest.now c.in-Some.rec.now c.in-Some.later.now c.loop-rec.store
      c.collect_listed.new.store c.loop-rec.invariant.0 c.in-Some.ensures.cases.0
      (c.in_ok-collect_listed.field-0, c.in_ok-collect_listed.ensures.collects),
  c.collect_listed.ensures.pool,
  c.collect_listed.ensures.geometry ∙ c.loop-rec.invariant.2,
)

pub returns-clause-collects : goal.returns-clause-collects
returns-clause-collects g c =
    amidst_ends (CollectsOne g.D.Disk.meaning (g.S.States.state_of c.args.states.now) c.args.live.now)
    c.args.records.now c.args.store.now c.loop-rec.rest.now c.loop-rec.store c.loop-rec.invariant.0
    (omega (arith, c.in_default.ensures.cases))
