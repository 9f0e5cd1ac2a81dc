use Rattle.mg_table_unmaking.specs.Rows.{FailsRowOut}
use Rattle.mg_table_unmaking.proofs.BatchLemmas.{row_changed, row_not_filled}
use Rattle.mg_table_unmaking.proofs.ReadLemmas.{handed_on}
use Rattle.mg_space.specs.BelowLaws.{below_kept}
use Rattle.mg_table_unmaking.proofs.rows.take_row_out.Goals as goal

pub returns-in_err-take_row-clause-takes : goal.returns-in_err-take_row-clause-takes
returns-in_err-take_row-clause-takes g c = handed_on c.from_residual.result c.in_err-take_row.field-0.0 _
    (FailsRowOut g.D.Disk.meaning c.args.store.now c.take_row.new.store (g.S.States.state_of c.args.states.now)
    c.args.live.now c.args.t.0 c.args.table.now c.args.key.now) c.from_residual.ensures.0 c.from_residual.ensures.1
    (row_not_filled g.D.Disk.meaning c.args.store.now (g.S.States.state_of c.args.states.now) c.args.live.now c.args.t.0
    c.args.table.now c.args.key.now c.take_row.new.store c.new-batch.result c.in_err-take_row.field-0.0
    c.new-batch.ensures.pages c.new-batch.ensures.orders c.in_err-take_row.ensures.keeps c.in_err-take_row.ensures.own
    c.in_err-take_row.ensures.fault c.in_err-take_row.ensures.takes)

pub returns-clause-takes : goal.returns-clause-takes
returns-clause-takes g c = row_changed g.D.Disk.meaning c.args.store.now (g.S.States.state_of c.args.states.now)
    c.args.live.now c.args.t.0 c.args.table.now c.args.key.now c.take_row.new.store c.new-batch.result
    c.take_row.new.batch c.new-batch.ensures.pages c.new-batch.ensures.orders c.in_ok-take_row.ensures.keeps
    c.in_ok-take_row.ensures.fault c.in_ok-take_row.ensures.takes c.change_batch.new.store c.change_batch.result
    c.change_batch.ensures.changes

pub change_batch-requires-clause-below : goal.change_batch-requires-clause-below
change_batch-requires-clause-below g c = below_kept c.args.store.now.geometry c.take_row.new.store.geometry
    c.take_row.new.batch.pages c.take_row.ensures.keeps.geometry c.take_row.ensures.whole
