use Rattle.std.proofs.Common.{◌-◌, ◌∙◌, Option, arith, inl, subst}
use Rattle.mg_base.specs.declared.numbers.PageNo.{PageNo}
use Rattle.mg_space.specs.HandedLaws.{fault_same, fault_up}
use Rattle.mg_space.specs.View.{viewed}
use Rattle.mg_space.specs.ViewLaws.{tells_on, keeps_on}
use Rattle.mg_heap.specs.Room.{FindsRoom, RefusesRoomIn}
use Rattle.mg_heap.specs.declared.growth.DataPage.{DataPage}
use Rattle.mg_heap.proofs.RoomLemmas.{found_given, last_is, room_grown, room_ungrown}
use Rattle.mg_heap.proofs.TableLemmas.{handed_on, whole_before, geometry_later, whole_later}
use Rattle.mg_heap.proofs.HandedLemmas.{alone_read, alone_same}
use Rattle.mg_heap.proofs.room.room_in.Goals as goal

pub returns-in_err-found-clause-gives : goal.returns-in_err-found-clause-gives
returns-in_err-found-clause-gives g c = λ image tells. handed_on c.from_residual.result
    c.in_err-found.field-0.0 _
    (RefusesRoomIn g.D.Disk.meaning c.args.store.now c.page_with.new.store image c.args.batch.now
    c.args.owner.0 c.args.table.now.pointers.items c.args.table.now.data_pages.items)
    c.from_residual.ensures.0 c.from_residual.ensures.1
    (inl (rw c.deref.ensures.value at (c.in_err-found.ensures.finds image tells)))

pub returns-in-Some-clause-gives : goal.returns-in-Some-clause-gives
returns-in-Some-clause-gives g c = λ image tells. found_given c.args.store.now image c.args.batch.now
    c.args.owner.0 c.args.table.now.pointers.items c.args.table.now.data_pages.items c.args.need
    c.in_ok-found.field-0 c.in-Some.found c.in-Some.is
    (rw c.deref.ensures.value at (c.in_ok-found.ensures.finds image tells))

pub returns-in_err-made-clause-gives : goal.returns-in_err-made-clause-gives
returns-in_err-made-clause-gives g c = λ image tells. handed_on c.from_residual-in_err-made.result
    c.in_err-made.field-0.0 _
    (RefusesRoomIn g.D.Disk.meaning c.args.store.now c.grow.new.store image c.args.batch.now
    c.args.owner.0 c.args.table.now.pointers.items c.args.table.now.data_pages.items)
    c.from_residual-in_err-made.ensures.0 c.from_residual-in_err-made.ensures.1
    (room_ungrown g.D.Disk.meaning c.args.store.now c.page_with.new.store image
    c.in_ok-found.ensures.keeps c.grow.new.store c.args.batch.now c.args.owner.0
    (c.len-last.result - 1) (record { 0 = c.index.result.now })
    c.args.table.now.pointers.items c.args.table.now.data_pages.items c.in_err-made.field-0.0
    (omega arith)
    (last_is c.args.table.now.pointers.items (c.len-last.result - 1) c.index.result.now c.requires.some
    (omega arith) c.index.ensures)
    (c.in_err-made.ensures.grows image (tells_on g.D.Disk.meaning c.args.store.now
    c.page_with.new.store image c.in_ok-found.ensures.keeps tells)))

pub returns-clause-gives : goal.returns-clause-gives
returns-clause-gives g c = λ image tells. room_grown g.D.Disk.meaning c.args.store.now
    c.page_with.new.store image c.in_ok-found.ensures.keeps c.args.batch.now
    c.grow.new.batch c.args.owner.0 c.len.result (c.len-last.result - 1)
    (record { 0 = c.index.result.now })
    c.args.table.now.pointers.items c.args.table.now.data_pages.items c.args.need c.in_ok-made.made
    (omega arith) (omega arith)
    (last_is c.args.table.now.pointers.items (c.len-last.result - 1) c.index.result.now c.requires.some
    (omega arith) c.index.ensures)
    (rw c.deref.ensures.value at (subst (λ (x : Option PageNo).
    FindsRoom (viewed c.args.store.now image c.args.batch.now) c.deref.result.now c.args.need x)
    c.in_default.is (c.in_ok-found.ensures.finds image tells)))
    (c.in_ok-made.ensures.grows image (tells_on g.D.Disk.meaning c.args.store.now
    c.page_with.new.store image c.in_ok-found.ensures.keeps tells))

pub returns-in_err-made-clause-keeps : goal.returns-in_err-made-clause-keeps
returns-in_err-made-clause-keeps g c = keeps_on g.D.Disk.meaning g.met.D.Disk.counts_now c.args.store.now
    c.page_with.new.store c.grow.new.store c.in_ok-found.ensures.keeps c.in_err-made.ensures.keeps

pub returns-in_err-made-clause-fault : goal.returns-in_err-made-clause-fault
returns-in_err-made-clause-fault g c = fault_up DataPage g.D.Disk.meaning c.args.store.now
    c.page_with.new.store c.grow.new.store c.from_residual-in_err-made.result c.in_err-made.field-0.0
    c.in_ok-found.ensures.keeps c.in_ok-found.ensures.fault.2 c.from_residual-in_err-made.ensures.0
    c.from_residual-in_err-made.ensures.1 c.in_err-made.ensures.fault

pub returns-in_err-made-clause-own : goal.returns-in_err-made-clause-own
returns-in_err-made-clause-own g c = alone_same DataPage c.from_residual-in_err-made.result
    c.in_err-made.field-0.0 c.from_residual-in_err-made.ensures.0 c.from_residual-in_err-made.ensures.1
    c.in_err-made.ensures.own

pub returns-in_err-made-clause-whole : goal.returns-in_err-made-clause-whole
returns-in_err-made-clause-whole g c = whole_before g.D.Disk.meaning c.args.store.now
    c.page_with.new.store c.in_ok-found.ensures.keeps c.grow.new.batch.pages c.in_err-made.ensures.whole

pub returns-clause-keeps : goal.returns-clause-keeps
returns-clause-keeps g c = keeps_on g.D.Disk.meaning g.met.D.Disk.counts_now c.args.store.now
    c.page_with.new.store c.grow.new.store c.in_ok-found.ensures.keeps c.in_ok-made.ensures.keeps

pub returns-clause-fault : goal.returns-clause-fault
returns-clause-fault g c = (
  c.in_ok-found.ensures.fault.0,
  c.in_ok-made.ensures.fault.1,
  c.in_ok-made.ensures.fault.2 ∙ c.in_ok-found.ensures.fault.2,
)

pub returns-clause-whole : goal.returns-clause-whole
returns-clause-whole g c = whole_before g.D.Disk.meaning c.args.store.now c.page_with.new.store
    c.in_ok-found.ensures.keeps c.grow.new.batch.pages c.in_ok-made.ensures.whole

pub returns-in_err-found-clause-keeps : goal.returns-in_err-found-clause-keeps
returns-in_err-found-clause-keeps g c = c.in_err-found.ensures.keeps

pub returns-in_err-found-clause-fault : goal.returns-in_err-found-clause-fault
returns-in_err-found-clause-fault g c = fault_same (Option PageNo) g.D.Disk.meaning c.args.store.now
    c.page_with.new.store c.from_residual.result c.in_err-found.field-0.0 c.from_residual.ensures.0
    c.from_residual.ensures.1 c.in_err-found.ensures.fault

pub returns-in_err-found-clause-own : goal.returns-in_err-found-clause-own
returns-in_err-found-clause-own g c = alone_read (Option PageNo) c.from_residual.result
    c.in_err-found.field-0.0 c.from_residual.ensures.0 c.from_residual.ensures.1 c.in_err-found.ensures.own

pub returns-in_err-found-clause-whole : goal.returns-in_err-found-clause-whole
returns-in_err-found-clause-whole g c = c.requires.whole

pub returns-clause-own : goal.returns-clause-own
returns-clause-own g c = tt

pub grow-requires-clause-pool : goal.grow-requires-clause-pool
grow-requires-clause-pool g c = c.in_ok-found.ensures.keeps.pool

pub grow-requires-clause-geometry : goal.grow-requires-clause-geometry
grow-requires-clause-geometry g c = geometry_later g.D.Disk.meaning c.args.store.now c.page_with.new.store
    c.in_ok-found.ensures.keeps c.requires.geometry

pub grow-requires-clause-whole : goal.grow-requires-clause-whole
grow-requires-clause-whole g c = whole_later g.D.Disk.meaning c.args.store.now c.page_with.new.store
    c.in_ok-found.ensures.keeps c.args.batch.now.pages c.requires.whole
