use Rattle.std.proofs.Common.{◌≡◌}
use Rattle.std.specs.Prelude.{MatchResult}
use Rattle.mg_base.specs.Image.{Image}
use Rattle.mg_chain.specs.Writing.{Pushes}
use Rattle.mg_chain.specs.WritingRefusals.{RefusesPush}
use Rattle.mg_pool.specs.Batch.{Changed}
use Rattle.mg_space.specs.declared.fault.SpaceFault.{SpaceFault}
use Rattle.mg_batches.specs.Batches.{not_filled, nothing_yet}
use Rattle.mg_row_writes.specs.Changing.{FailsOver}
use Rattle.mg_row_writes.proofs.FindLemmas.{handed_on}
use Rattle.mg_batches.specs.BatchLaws.{not_filled_by, own_batch}
use Rattle.mg_space.specs.BelowLaws.{below_kept}
use Rattle.mg_row_writes.proofs.changing.push_over.Goals as goal

pub returns-in_err-push-clause-pushes : goal.returns-in_err-push-clause-pushes
returns-in_err-push-clause-pushes g c = handed_on c.from_residual.result c.in_err-push.field-0.0 _
    (FailsOver g.D.Disk.meaning c.args.store.now c.push.new.store c.args.rec c.args.v.now)
    c.from_residual.ensures.0 c.from_residual.ensures.1
    (not_filled_by (Unit {0}) g.D.Disk.meaning c.args.store.now c.push.new.store
    (λ (image : Image). λ (batch : Changed). Pushes c.args.store.now image nothing_yet batch c.args.rec c.args.v.now)
    (λ (empty : Changed). λ (image : Image). λ (f : SpaceFault). RefusesPush g.D.Disk.meaning c.args.store.now c.push.new.store image empty c.args.rec c.args.v.now f) c.new-batch.result
    c.in_err-push.field-0.0 c.new-batch.ensures.pages c.new-batch.ensures.orders c.in_err-push.ensures.keeps
    c.in_err-push.ensures.own c.in_err-push.ensures.fault c.in_err-push.ensures.pushes)

pub returns-clause-pushes : goal.returns-clause-pushes
returns-clause-pushes g c = own_batch g.D.Disk.meaning c.args.store.now c.push.new.store c.change_batch.new.store
    (λ (image : Image). λ (batch : Changed). Pushes c.args.store.now image nothing_yet batch c.args.rec c.args.v.now)
    (λ (image : Image). λ (f : SpaceFault). RefusesPush g.D.Disk.meaning c.args.store.now c.change_batch.new.store image nothing_yet c.args.rec c.args.v.now f) c.new-batch.result c.push.new.batch
    (λ (empty : Changed). λ (image : Image). λ (batch : Changed). Pushes c.args.store.now image empty batch c.args.rec c.args.v.now) c.change_batch.result
    c.new-batch.ensures.pages c.new-batch.ensures.orders (λ image batch given. given)
    c.in_ok-push.ensures.keeps c.in_ok-push.ensures.fault c.in_ok-push.ensures.pushes
    c.change_batch.ensures.changes

pub change_batch-requires-clause-below : goal.change_batch-requires-clause-below
change_batch-requires-clause-below g c = below_kept c.args.store.now.geometry c.push.new.store.geometry
    c.push.new.batch.pages c.push.ensures.keeps.geometry c.push.ensures.whole
