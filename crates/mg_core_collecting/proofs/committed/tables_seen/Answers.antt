use Rattle.mg_core_collecting.specs.Every.{FindsCommitted, UnnamedTables}
use Rattle.mg_core_collecting.proofs.EveryLemmas.{rows_fail, tables_so}
use Rattle.mg_core_collecting.proofs.LookLemmas.{handed_on}
use Rattle.mg_core_collecting.proofs.committed.tables_seen.Goals as goal

pub returns-in_err-rows-clause-finds : goal.returns-in_err-rows-clause-finds
returns-in_err-rows-clause-finds g c = handed_on c.from_residual.result c.in_err-rows.field-0.0
    (λ tables. FindsCommitted g.D.Disk.meaning c.args.store.now c.rows_seen.new.store
    (g.S.States.state_of c.args.states.now) c.args.view.now c.args.catalog.now tables.items)
    (UnnamedTables g.D.Disk.meaning c.args.store.now c.rows_seen.new.store (g.S.States.state_of c.args.states.now)
    c.args.view.now c.args.catalog.now) c.from_residual.ensures.0 c.from_residual.ensures.1
    (rows_fail g.D.Disk.meaning c.args.store.now c.rows_seen.new.store (g.S.States.state_of c.args.states.now)
    c.args.view.now c.args.catalog.now c.in_err-rows.field-0.0 c.in_err-rows.ensures.keeps c.in_err-rows.ensures.own
    c.in_err-rows.ensures.fault c.in_err-rows.ensures.gives)

pub returns-clause-finds : goal.returns-clause-finds
returns-clause-finds g c = tables_so g.D.Disk.meaning c.args.store.now c.rows_seen.new.store
    (g.S.States.state_of c.args.states.now) c.args.view.now c.args.catalog.now c.in_ok-rows.rows.items
    c.in_ok-rows.ensures.keeps c.in_ok-rows.ensures.fault c.in_ok-rows.ensures.gives c.tables_among.result
    (rw c.deref.ensures.value at c.tables_among.ensures)
