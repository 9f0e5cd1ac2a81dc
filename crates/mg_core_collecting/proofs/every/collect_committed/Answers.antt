use Rattle.std.proofs.Common.{inl}
use Rattle.mg_core_collecting.specs.Every.{CollectsCommitted, FailsCommitted}
use Rattle.mg_core_collecting.proofs.EveryLemmas.{committed_so}
use Rattle.mg_core_collecting.proofs.LookLemmas.{handed_on}
use Rattle.mg_core_collecting.proofs.every.collect_committed.Goals as goal

pub returns-in_err-tables-clause-collects : goal.returns-in_err-tables-clause-collects
returns-in_err-tables-clause-collects g c = handed_on c.from_residual.result c.in_err-tables.field-0.0
    (λ done. CollectsCommitted g.D.Disk.meaning c.args.store.now c.tables_seen.new.store
    (g.S.States.state_of c.args.states.now) c.args.live.now c.args.view.now c.args.catalog.now)
    (FailsCommitted g.D.Disk.meaning c.args.store.now c.tables_seen.new.store
    (g.S.States.state_of c.args.states.now) c.args.live.now c.args.view.now c.args.catalog.now)
    c.from_residual.ensures.0 c.from_residual.ensures.1 (inl c.in_err-tables.ensures.finds)

pub returns-clause-collects : goal.returns-clause-collects
returns-clause-collects g c = committed_so g.D.Disk.meaning c.args.store.now c.tables_seen.new.store
    c.collect_tables.new.store (g.S.States.state_of c.args.states.now) c.args.live.now c.args.view.now
    c.args.catalog.now c.in_ok-tables.tables.items c.in_ok-tables.ensures.finds c.collect_tables.result
    (rw c.deref.ensures.value at c.collect_tables.ensures.collects)
