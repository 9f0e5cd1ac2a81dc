use Rattle.mg_collecting.specs.Passing.{DropsOwn, FailsDrop}
use Rattle.mg_collecting.proofs.BatchLemmas.{drop_done, drop_none, drop_unchanged, drop_unfilled}
use Rattle.mg_collecting.proofs.PartLemmas.{handed_on}
use Rattle.mg_space.specs.BelowLaws.{below_kept}
use Rattle.mg_collecting.proofs.passing.drop_own.Goals as goal

pub returns-in_err-drop_behind-clause-drops : goal.returns-in_err-drop_behind-clause-drops
returns-in_err-drop_behind-clause-drops g c = handed_on c.from_residual.result c.in_err-drop_behind.field-0.0
    (DropsOwn g.D.Disk.meaning c.args.store.now c.drop_behind.new.store c.args.newer)
    (FailsDrop g.D.Disk.meaning c.args.store.now c.drop_behind.new.store c.args.holder c.args.newer)
    c.from_residual.ensures.0 c.from_residual.ensures.1
    (drop_unfilled g.D.Disk.meaning c.args.store.now c.drop_behind.new.store c.args.newer c.new-batch.result
    c.new-batch.ensures.pages c.new-batch.ensures.orders c.in_err-drop_behind.ensures.keeps c.args.holder
    c.in_err-drop_behind.field-0.0 c.in_err-drop_behind.ensures.own c.in_err-drop_behind.ensures.fault
    c.in_err-drop_behind.ensures.drops)

pub returns-in_default-clause-drops : goal.returns-in_default-clause-drops
returns-in_default-clause-drops g c = drop_none g.D.Disk.meaning c.args.store.now c.drop_behind.new.store c.args.newer
    c.new-batch.result c.new-batch.ensures.pages c.new-batch.ensures.orders c.in_ok-drop_behind.ensures.keeps
    c.in_ok-drop_behind.ensures.fault c.drop_behind.new.batch c.in_ok-drop_behind.field-0
    c.in_ok-drop_behind.ensures.drops c.in_default.is

pub returns-in_err-change_batch-clause-drops : goal.returns-in_err-change_batch-clause-drops
returns-in_err-change_batch-clause-drops g c = handed_on c.from_residual-in_err-change_batch.result
    c.in_err-change_batch.field-0.0
    (DropsOwn g.D.Disk.meaning c.args.store.now c.change_batch.new.store c.args.newer)
    (FailsDrop g.D.Disk.meaning c.args.store.now c.change_batch.new.store c.args.holder c.args.newer)
    c.from_residual-in_err-change_batch.ensures.0 c.from_residual-in_err-change_batch.ensures.1
    (drop_unchanged g.D.Disk.meaning c.args.store.now c.drop_behind.new.store c.args.newer c.new-batch.result
    c.new-batch.ensures.pages c.new-batch.ensures.orders c.in_ok-drop_behind.ensures.keeps
    c.in_ok-drop_behind.ensures.fault c.drop_behind.new.batch c.in_ok-drop_behind.field-0
    c.in_ok-drop_behind.ensures.drops c.in-Some.field-0 c.in-Some.is c.args.holder c.change_batch.new.store
    c.in_err-change_batch.field-0.0 c.in_err-change_batch.ensures.changes)

pub returns-clause-drops : goal.returns-clause-drops
returns-clause-drops g c = drop_done g.D.Disk.meaning c.args.store.now c.drop_behind.new.store c.args.newer
    c.new-batch.result c.new-batch.ensures.pages c.new-batch.ensures.orders c.in_ok-drop_behind.ensures.keeps
    c.in_ok-drop_behind.ensures.fault c.drop_behind.new.batch c.in_ok-drop_behind.field-0
    c.in_ok-drop_behind.ensures.drops c.in-Some.field-0 c.in-Some.is c.change_batch.new.store
    c.in_ok-change_batch.ensures.changes

pub change_batch-requires-clause-below : goal.change_batch-requires-clause-below
change_batch-requires-clause-below g c = below_kept c.args.store.now.geometry c.drop_behind.new.store.geometry
    c.drop_behind.new.batch.pages c.drop_behind.ensures.keeps.geometry c.drop_behind.ensures.whole
