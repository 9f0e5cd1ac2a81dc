use Rattle.std.proofs.Common.{subst}
use Rattle.mg_base.specs.Image.{Image}
use Rattle.mg_base.specs.declared.numbers.RecId.{RecId}
use Rattle.mg_chain.specs.Writing.{GivesSpot}
use Rattle.mg_chain.specs.WritingRefusals.{RefusesSpot}
use Rattle.mg_pool.specs.Batch.{Changed}
use Rattle.mg_space.specs.declared.fault.SpaceFault.{SpaceFault}
use Rattle.mg_batches.specs.Batches.{not_changed, nothing_yet}
use Rattle.mg_row_writes.specs.Changing.{FailsPlace}
use Rattle.mg_row_writes.proofs.FindLemmas.{handed_on}
use Rattle.mg_batches.specs.BatchLaws.{not_filled_by, nothing}
use Rattle.mg_space.specs.BelowLaws.{below_kept}
use Rattle.mg_row_writes.proofs.changing.take_place.Goals as goal

pub returns-in_err-at-clause-takes : goal.returns-in_err-at-clause-takes
returns-in_err-at-clause-takes g c = handed_on c.from_residual.result c.in_err-at.field-0.0 _
    (FailsPlace g.D.Disk.meaning c.args.store.now c.spot.new.store c.args.owner.0) c.from_residual.ensures.0 c.from_residual.ensures.1
    (not_filled_by RecId g.D.Disk.meaning c.args.store.now c.spot.new.store
    (λ (image : Image). λ (batch : Changed). (at : RecId) × GivesSpot c.args.store.now image nothing_yet batch c.args.owner.0 at)
    (λ (empty : Changed). λ (image : Image). λ (f : SpaceFault). RefusesSpot g.D.Disk.meaning c.args.store.now c.spot.new.store image empty
    c.args.owner.0 f) c.new-batch.result c.in_err-at.field-0.0 c.new-batch.ensures.pages c.new-batch.ensures.orders
    c.in_err-at.ensures.keeps c.in_err-at.ensures.own c.in_err-at.ensures.fault c.in_err-at.ensures.gives)

pub returns-in_err-change_batch-clause-takes : goal.returns-in_err-change_batch-clause-takes
returns-in_err-change_batch-clause-takes g c = handed_on c.from_residual-in_err-change_batch.result
    c.in_err-change_batch.field-0.0 _ (FailsPlace g.D.Disk.meaning c.args.store.now c.change_batch.new.store c.args.owner.0)
    c.from_residual-in_err-change_batch.ensures.0 c.from_residual-in_err-change_batch.ensures.1
    (not_changed c.spot.new.batch c.spot.new.store c.in_ok-at.ensures.keeps c.in_ok-at.ensures.fault
    (λ image tells. (
      c.in_ok-at.at,
      subst (λ (e : Changed). GivesSpot c.args.store.now image e c.spot.new.batch c.args.owner.0
          c.in_ok-at.at) (nothing c.new-batch.result c.new-batch.ensures.pages c.new-batch.ensures.orders)
          (c.in_ok-at.ensures.gives image tells),
    )) c.in_err-change_batch.ensures.changes)

pub returns-clause-takes : goal.returns-clause-takes
returns-clause-takes g c = record {
  batch = c.spot.new.batch;
  ready = c.spot.new.store;
  keeps = c.in_ok-at.ensures.keeps;
  online = c.in_ok-at.ensures.fault;
  filled = λ image tells. subst (λ (e : Changed). GivesSpot c.args.store.now image e c.spot.new.batch c.args.owner.0
      c.in_ok-at.at) (nothing c.new-batch.result c.new-batch.ensures.pages c.new-batch.ensures.orders)
      (c.in_ok-at.ensures.gives image tells);
  changed = c.in_ok-change_batch.ensures.changes;
}

pub change_batch-requires-clause-below : goal.change_batch-requires-clause-below
change_batch-requires-clause-below g c = below_kept c.args.store.now.geometry c.spot.new.store.geometry
    c.spot.new.batch.pages c.spot.ensures.keeps.geometry c.spot.ensures.whole
