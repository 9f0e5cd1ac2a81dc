use Rattle.std.proofs.Common.{ℕ, ap, subst}
use Rattle.mg_base.specs.Image.{Image}
use Rattle.mg_base.specs.declared.geometry.Geometry.{Geometry}
use Rattle.mg_base.specs.declared.numbers.PageNo.{PageNo}
use Rattle.mg_heap.specs.Room.{GivesRoom, RefusesRoom}
use Rattle.mg_pool.specs.Batch.{Changed}
use Rattle.mg_batches.specs.Batches.{nothing_yet}
use Rattle.mg_space.specs.declared.fault.SpaceFault.{SpaceFault}
use Rattle.mg_table_batch.proofs.MakeLemmas.{own_batch}
use Rattle.mg_space.specs.BelowLaws.{below_kept}
use Rattle.mg_table_batch.proofs.growing.grow.Goals as goal

pub returns-clause-grows : goal.returns-clause-grows
returns-clause-grows g c = own_batch g.D.Disk.meaning c.args.store.now c.page_with_room.new.store c.change_batch.new.store
    (λ (image : Image). λ (batch : Changed). (n : PageNo) × GivesRoom c.args.store.now image nothing_yet batch c.args.owner.0 c.args.store.now.geometry.size n)
    (λ (image : Image). λ (f : SpaceFault). RefusesRoom g.D.Disk.meaning c.args.store.now c.change_batch.new.store image nothing_yet c.args.owner.0 f)
    c.new-batch.result c.page_with_room.new.batch
    (λ (empty : Changed). λ (image : Image). λ (batch : Changed). GivesRoom c.args.store.now image empty batch c.args.owner.0 c.geometry-size.result.size
    c.in_ok-page_with_room.field-0) c.change_batch.result
    c.new-batch.ensures.pages c.new-batch.ensures.orders
    (λ image batch given. (
      c.in_ok-page_with_room.field-0,
      subst (λ (need : ℕ). GivesRoom c.args.store.now image nothing_yet batch c.args.owner.0 need c.in_ok-page_with_room.field-0)
          (ap (λ (g : Geometry). g.size) c.geometry-size.ensures) given,
    ))
    c.in_ok-page_with_room.ensures.keeps c.in_ok-page_with_room.ensures.fault c.in_ok-page_with_room.ensures.gives
    c.change_batch.ensures.changes

pub change_batch-requires-clause-below : goal.change_batch-requires-clause-below
change_batch-requires-clause-below g c = below_kept c.args.store.now.geometry c.page_with_room.new.store.geometry
    c.page_with_room.new.batch.pages c.page_with_room.ensures.keeps.geometry c.page_with_room.ensures.whole
