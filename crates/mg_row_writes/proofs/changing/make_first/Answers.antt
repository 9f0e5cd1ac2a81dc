use Rattle.std.proofs.Common.{◌≡◌}
use Rattle.std.specs.Prelude.{MatchResult}
use Rattle.mg_base.specs.Image.{Image}
use Rattle.mg_chain.specs.Writing.{MakesRecord}
use Rattle.mg_chain.specs.WritingRefusals.{RefusesFirst}
use Rattle.mg_pool.specs.Batch.{Changed}
use Rattle.mg_space.specs.declared.fault.SpaceFault.{SpaceFault}
use Rattle.mg_batches.specs.Batches.{not_filled, nothing_yet}
use Rattle.mg_row_writes.specs.Changing.{FailsFirst}
use Rattle.mg_row_writes.proofs.FindLemmas.{handed_on}
use Rattle.mg_batches.specs.BatchLaws.{not_filled_by, own_batch}
use Rattle.mg_space.specs.BelowLaws.{below_kept}
use Rattle.mg_row_writes.proofs.changing.make_first.Goals as goal

pub returns-in_err-first-clause-makes : goal.returns-in_err-first-clause-makes
returns-in_err-first-clause-makes g c = handed_on c.from_residual.result c.in_err-first.field-0.0 _
    (FailsFirst g.D.Disk.meaning c.args.store.now c.first.new.store c.args.owner.0 c.args.at c.args.v.now)
    c.from_residual.ensures.0 c.from_residual.ensures.1
    (not_filled_by (Unit {0}) g.D.Disk.meaning c.args.store.now c.first.new.store
    (λ (image : Image). λ (batch : Changed). MakesRecord c.args.store.now image nothing_yet batch c.args.owner.0 c.args.at c.args.v.now)
    (λ (empty : Changed). λ (image : Image). λ (f : SpaceFault). RefusesFirst g.D.Disk.meaning c.args.store.now c.first.new.store image empty c.args.owner.0 c.args.at c.args.v.now f) c.new-batch.result
    c.in_err-first.field-0.0 c.new-batch.ensures.pages c.new-batch.ensures.orders c.in_err-first.ensures.keeps
    c.in_err-first.ensures.own c.in_err-first.ensures.fault c.in_err-first.ensures.makes)

pub returns-clause-makes : goal.returns-clause-makes
returns-clause-makes g c = own_batch g.D.Disk.meaning c.args.store.now c.first.new.store c.change_batch.new.store
    (λ (image : Image). λ (batch : Changed). MakesRecord c.args.store.now image nothing_yet batch c.args.owner.0 c.args.at c.args.v.now)
    (λ (image : Image). λ (f : SpaceFault). RefusesFirst g.D.Disk.meaning c.args.store.now c.change_batch.new.store image nothing_yet c.args.owner.0 c.args.at c.args.v.now f) c.new-batch.result c.first.new.batch
    (λ (empty : Changed). λ (image : Image). λ (batch : Changed). MakesRecord c.args.store.now image empty batch c.args.owner.0 c.args.at c.args.v.now) c.change_batch.result
    c.new-batch.ensures.pages c.new-batch.ensures.orders (λ image batch given. given)
    c.in_ok-first.ensures.keeps c.in_ok-first.ensures.fault c.in_ok-first.ensures.makes
    c.change_batch.ensures.changes

pub change_batch-requires-clause-below : goal.change_batch-requires-clause-below
change_batch-requires-clause-below g c = below_kept c.args.store.now.geometry c.first.new.store.geometry
    c.first.new.batch.pages c.first.ensures.keeps.geometry c.first.ensures.whole
