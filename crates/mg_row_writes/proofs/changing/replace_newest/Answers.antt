use Rattle.std.proofs.Common.{◌≡◌}
use Rattle.std.specs.Prelude.{MatchResult}
use Rattle.mg_base.specs.Image.{Image}
use Rattle.mg_chain.specs.Writing.{Replaces}
use Rattle.mg_chain.specs.WritingRefusals.{RefusesReplace}
use Rattle.mg_pool.specs.Batch.{Changed}
use Rattle.mg_space.specs.declared.fault.SpaceFault.{SpaceFault}
use Rattle.mg_batches.specs.Batches.{not_filled, nothing_yet}
use Rattle.mg_row_writes.specs.Changing.{FailsReplacing}
use Rattle.mg_row_writes.proofs.FindLemmas.{handed_on}
use Rattle.mg_batches.specs.BatchLaws.{not_filled_by, own_batch}
use Rattle.mg_space.specs.BelowLaws.{below_kept}
use Rattle.mg_row_writes.proofs.changing.replace_newest.Goals as goal

pub returns-in_err-replace_own-clause-replaces : goal.returns-in_err-replace_own-clause-replaces
returns-in_err-replace_own-clause-replaces g c = handed_on c.from_residual.result c.in_err-replace_own.field-0.0 _
    (FailsReplacing g.D.Disk.meaning c.args.store.now c.replace_own.new.store c.args.rec c.args.v.now)
    c.from_residual.ensures.0 c.from_residual.ensures.1
    (not_filled_by (Unit {0}) g.D.Disk.meaning c.args.store.now c.replace_own.new.store
    (λ (image : Image). λ (batch : Changed). Replaces c.args.store.now image nothing_yet batch c.args.rec c.args.v.now)
    (λ (empty : Changed). λ (image : Image). λ (f : SpaceFault). RefusesReplace g.D.Disk.meaning c.args.store.now c.replace_own.new.store image empty c.args.rec c.args.v.now f) c.new-batch.result
    c.in_err-replace_own.field-0.0 c.new-batch.ensures.pages c.new-batch.ensures.orders c.in_err-replace_own.ensures.keeps
    c.in_err-replace_own.ensures.own c.in_err-replace_own.ensures.fault c.in_err-replace_own.ensures.replaces)

pub returns-clause-replaces : goal.returns-clause-replaces
returns-clause-replaces g c = own_batch g.D.Disk.meaning c.args.store.now c.replace_own.new.store c.change_batch.new.store
    (λ (image : Image). λ (batch : Changed). Replaces c.args.store.now image nothing_yet batch c.args.rec c.args.v.now)
    (λ (image : Image). λ (f : SpaceFault). RefusesReplace g.D.Disk.meaning c.args.store.now c.change_batch.new.store image nothing_yet c.args.rec c.args.v.now f) c.new-batch.result c.replace_own.new.batch
    (λ (empty : Changed). λ (image : Image). λ (batch : Changed). Replaces c.args.store.now image empty batch c.args.rec c.args.v.now) c.change_batch.result
    c.new-batch.ensures.pages c.new-batch.ensures.orders (λ image batch given. given)
    c.in_ok-replace_own.ensures.keeps c.in_ok-replace_own.ensures.fault c.in_ok-replace_own.ensures.replaces
    c.change_batch.ensures.changes

pub change_batch-requires-clause-below : goal.change_batch-requires-clause-below
change_batch-requires-clause-below g c = below_kept c.args.store.now.geometry c.replace_own.new.store.geometry
    c.replace_own.new.batch.pages c.replace_own.ensures.keeps.geometry c.replace_own.ensures.whole
