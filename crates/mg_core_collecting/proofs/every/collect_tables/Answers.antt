use Rattle.std.proofs.Common.{◌∙◌, arith, refl}
use Rattle.mg_core_collecting.specs.Every.{CollectsTable, FailsTable, GoesThrough, StopsAt}
use Rattle.mg_core_collecting.proofs.EveryLemmas.{amidst_ends, amidst_goes_on, amidst_starts, amidst_stops}
use Rattle.mg_core_collecting.proofs.LookLemmas.{handed_on}
use Rattle.mg_core_collecting.proofs.every.collect_tables.Goals as goal

pub loop-table-init : goal.loop-table-init
loop-table-init g c = (
  amidst_starts (CollectsTable g.D.Disk.meaning (g.S.States.state_of c.args.states.now) c.args.live.now)
      c.args.tables.now c.args.store.now,
  c.requires.pool,
  refl,
)

pub returns-in_err-collect_table-clause-collects : goal.returns-in_err-collect_table-clause-collects
returns-in_err-collect_table-clause-collects g c = handed_on c.from_residual.result
    c.in_err-collect_table.field-0.0
    (λ done. GoesThrough (CollectsTable g.D.Disk.meaning (g.S.States.state_of c.args.states.now) c.args.live.now)
    c.args.store.now c.args.tables.now c.collect_table.new.store)
    (StopsAt (CollectsTable g.D.Disk.meaning (g.S.States.state_of c.args.states.now) c.args.live.now)
    (FailsTable g.D.Disk.meaning (g.S.States.state_of c.args.states.now) c.args.live.now c.args.catalog.0) c.args.store.now
    c.args.tables.now c.collect_table.new.store) c.from_residual.ensures.0 c.from_residual.ensures.1
    (amidst_stops (CollectsTable g.D.Disk.meaning (g.S.States.state_of c.args.states.now) c.args.live.now)
    c.args.tables.now c.args.store.now
    (FailsTable g.D.Disk.meaning (g.S.States.state_of c.args.states.now) c.args.live.now c.args.catalog.0) c.loop-table.rest.now
    c.in-Some.table.now c.in-Some.later.now c.loop-table.store c.collect_table.new.store
    c.in_err-collect_table.field-0.0 c.loop-table.invariant.0 c.in-Some.ensures.cases.0
    c.in_err-collect_table.ensures.collects)

pub loop-table-preserved : goal.loop-table-preserved
loop-table-preserved g c = (
  amidst_goes_on (CollectsTable g.D.Disk.meaning (g.S.States.state_of c.args.states.now) c.args.live.now)
      c.args.tables.now c.args.store.now c.loop-table.rest.now c.in-Some.table.now c.in-Some.later.now c.loop-table.store
      c.collect_table.new.store c.loop-table.invariant.0 c.in-Some.ensures.cases.0
      c.in_ok-collect_table.ensures.collects,
  c.collect_table.ensures.pool,
  c.collect_table.ensures.geometry ∙ c.loop-table.invariant.2,
)

pub returns-clause-collects : goal.returns-clause-collects
returns-clause-collects g c =
    amidst_ends (CollectsTable g.D.Disk.meaning (g.S.States.state_of c.args.states.now) c.args.live.now)
    c.args.tables.now c.args.store.now c.loop-table.rest.now c.loop-table.store c.loop-table.invariant.0
    (omega (arith, c.in_default.ensures.cases))
