use Rattle.std.proofs.Common.{Option}
use Rattle.mg_base.specs.declared.numbers.PageNo.{PageNo}
use Rattle.mg_space.specs.HandedLaws.{fault_same}
use Rattle.mg_space.specs.View.{pool_answer, viewed}
use Rattle.mg_space.specs.ViewLaws.{fault_on, keeps_on, tells_on}
use Rattle.mg_heap.specs.Room.{RefusesRoom}
use Rattle.mg_heap.proofs.HandedLemmas.{alone_read}
use Rattle.mg_heap.proofs.LastRoomLemmas.{given_on, last_given, last_refused}
use Rattle.mg_heap.proofs.TableLemmas.{geometry_later, handed_on, whole_before, whole_later}
use Rattle.mg_heap.proofs.room.page_with_room.Goals as goal

pub returns-in_err-last-clause-keeps : goal.returns-in_err-last-clause-keeps
returns-in_err-last-clause-keeps g c = c.in_err-last.ensures.keeps

pub returns-in_err-last-clause-fault : goal.returns-in_err-last-clause-fault
returns-in_err-last-clause-fault g c = fault_same (Option PageNo) g.D.Disk.meaning c.args.store.now
    c.last_with_room.new.store c.from_residual.result c.in_err-last.field-0.0 c.from_residual.ensures.0
    c.from_residual.ensures.1 c.in_err-last.ensures.fault

pub returns-in_err-last-clause-own : goal.returns-in_err-last-clause-own
returns-in_err-last-clause-own g c = alone_read (Option PageNo) c.from_residual.result
    c.in_err-last.field-0.0 c.from_residual.ensures.0 c.from_residual.ensures.1
    c.in_err-last.ensures.own

pub returns-in_err-last-clause-whole : goal.returns-in_err-last-clause-whole
returns-in_err-last-clause-whole g c = c.requires.whole

pub returns-in_err-last-clause-gives : goal.returns-in_err-last-clause-gives
returns-in_err-last-clause-gives g c = λ image tells. handed_on c.from_residual.result
    c.in_err-last.field-0.0 _
    (RefusesRoom g.D.Disk.meaning c.args.store.now c.last_with_room.new.store image c.args.batch.now
    c.args.owner.0) c.from_residual.ensures.0 c.from_residual.ensures.1
    (last_refused g.D.Disk.meaning c.args.store.now c.last_with_room.new.store image c.args.batch.now
    c.args.owner.0 c.in_err-last.field-0.0 (c.in_err-last.ensures.gives image tells))

pub returns-in-Some-clause-keeps : goal.returns-in-Some-clause-keeps
returns-in-Some-clause-keeps g c = c.in_ok-last.ensures.keeps

pub returns-in-Some-clause-fault : goal.returns-in-Some-clause-fault
returns-in-Some-clause-fault g c = c.in_ok-last.ensures.fault

pub returns-in-Some-clause-whole : goal.returns-in-Some-clause-whole
returns-in-Some-clause-whole g c = c.requires.whole

pub returns-in-Some-clause-gives : goal.returns-in-Some-clause-gives
returns-in-Some-clause-gives g c = λ image tells. last_given c.args.store.now image c.args.batch.now
    c.args.owner.0 c.args.need c.in_ok-last.last c.in-Some.found c.in-Some.is
    (c.in_ok-last.ensures.gives image tells)

pub listed_with_room-requires-clause-pool : goal.listed_with_room-requires-clause-pool
listed_with_room-requires-clause-pool g c = c.in_ok-last.ensures.keeps.pool

pub listed_with_room-requires-clause-geometry : goal.listed_with_room-requires-clause-geometry
listed_with_room-requires-clause-geometry g c = geometry_later g.D.Disk.meaning c.args.store.now
    c.last_with_room.new.store c.in_ok-last.ensures.keeps c.requires.geometry

pub listed_with_room-requires-clause-whole : goal.listed_with_room-requires-clause-whole
listed_with_room-requires-clause-whole g c = whole_later g.D.Disk.meaning c.args.store.now
    c.last_with_room.new.store c.in_ok-last.ensures.keeps c.args.batch.now.pages c.requires.whole

pub returns-clause-keeps : goal.returns-clause-keeps
returns-clause-keeps g c = keeps_on g.D.Disk.meaning g.met.D.Disk.counts_now c.args.store.now
    c.last_with_room.new.store c.listed_with_room.new.store c.in_ok-last.ensures.keeps
    c.listed_with_room.ensures.keeps

pub returns-clause-whole : goal.returns-clause-whole
returns-clause-whole g c = whole_before g.D.Disk.meaning c.args.store.now c.last_with_room.new.store
    c.in_ok-last.ensures.keeps c.listed_with_room.new.batch.pages c.listed_with_room.ensures.whole

pub returns-clause-fault : goal.returns-clause-fault
returns-clause-fault g c = fault_on g.D.Disk.meaning c.args.store.now c.last_with_room.new.store
    c.listed_with_room.new.store (pool_answer c.listed_with_room.result) c.in_ok-last.ensures.keeps
    c.in_ok-last.ensures.fault.2 c.listed_with_room.ensures.fault

pub returns-clause-own : goal.returns-clause-own
returns-clause-own g c = c.listed_with_room.ensures.own

pub returns-clause-gives : goal.returns-clause-gives
returns-clause-gives g c = λ image tells. given_on g.D.Disk.meaning c.args.store.now
    c.last_with_room.new.store c.listed_with_room.new.store image c.in_ok-last.ensures.keeps
    c.args.batch.now c.listed_with_room.new.batch c.args.owner.0 c.args.need c.listed_with_room.result
    (c.listed_with_room.ensures.gives image (tells_on g.D.Disk.meaning c.args.store.now
    c.last_with_room.new.store image c.in_ok-last.ensures.keeps tells))
