use Rattle.std.proofs.Common.{◌≡◌}
use Rattle.std.specs.Prelude.{MatchResult}
use Rattle.mg_base.specs.Image.{Image}
use Rattle.mg_chain.specs.Writing.{TakesOut}
use Rattle.mg_chain.specs.WritingRefusals.{RefusesBackOut}
use Rattle.mg_pool.specs.Batch.{Changed}
use Rattle.mg_space.specs.declared.fault.SpaceFault.{SpaceFault}
use Rattle.mg_batches.specs.Batches.{not_filled, nothing_yet}
use Rattle.mg_row_writes.specs.Changing.{FailsTakingOut}
use Rattle.mg_row_writes.proofs.FindLemmas.{handed_on}
use Rattle.mg_batches.specs.BatchLaws.{not_filled_by, own_batch}
use Rattle.mg_row_writes.proofs.ChangeLemmas.{data_alone}
use Rattle.mg_space.specs.BelowLaws.{below_kept}
use Rattle.mg_row_writes.proofs.changing.take_newest_out.Goals as goal

pub returns-in_err-back_out-clause-takes : goal.returns-in_err-back_out-clause-takes
returns-in_err-back_out-clause-takes g c = handed_on c.from_residual.result c.in_err-back_out.field-0.0 _
    (FailsTakingOut g.D.Disk.meaning c.args.store.now c.back_out.new.store c.args.rec)
    c.from_residual.ensures.0 c.from_residual.ensures.1
    (not_filled_by (Unit {0}) g.D.Disk.meaning c.args.store.now c.back_out.new.store
    (λ (image : Image). λ (batch : Changed). TakesOut c.args.store.now image nothing_yet batch c.args.rec)
    (λ (empty : Changed). λ (image : Image). λ (f : SpaceFault). RefusesBackOut g.D.Disk.meaning c.args.store.now c.back_out.new.store image empty c.args.rec f) c.new-batch.result
    c.in_err-back_out.field-0.0 c.new-batch.ensures.pages c.new-batch.ensures.orders c.in_err-back_out.ensures.keeps
    (data_alone (Unit {0}) c.in_err-back_out.field-0.0 c.in_err-back_out.ensures.own) c.in_err-back_out.ensures.fault c.in_err-back_out.ensures.takes)

pub returns-clause-takes : goal.returns-clause-takes
returns-clause-takes g c = own_batch g.D.Disk.meaning c.args.store.now c.back_out.new.store c.change_batch.new.store
    (λ (image : Image). λ (batch : Changed). TakesOut c.args.store.now image nothing_yet batch c.args.rec)
    (λ (image : Image). λ (f : SpaceFault). RefusesBackOut g.D.Disk.meaning c.args.store.now c.change_batch.new.store image nothing_yet c.args.rec f) c.new-batch.result c.back_out.new.batch
    (λ (empty : Changed). λ (image : Image). λ (batch : Changed). TakesOut c.args.store.now image empty batch c.args.rec) c.change_batch.result
    c.new-batch.ensures.pages c.new-batch.ensures.orders (λ image batch given. given)
    c.in_ok-back_out.ensures.keeps c.in_ok-back_out.ensures.fault c.in_ok-back_out.ensures.takes
    c.change_batch.ensures.changes

pub change_batch-requires-clause-below : goal.change_batch-requires-clause-below
change_batch-requires-clause-below g c = below_kept c.args.store.now.geometry c.back_out.new.store.geometry
    c.back_out.new.batch.pages c.back_out.ensures.keeps.geometry c.back_out.ensures.whole
