use Rattle.std.proofs.Common.{inl}
use Rattle.mg_space.specs.HandedLaws.{fault_same}
use Rattle.mg_space.specs.View.{pool_answer}
use Rattle.mg_space.specs.ViewLaws.{fault_on, keeps_on, tells_on}
use Rattle.mg_heap.specs.Room.{RefusesRoom}
use Rattle.mg_heap.proofs.RoomLemmas.{listed_given}
use Rattle.mg_heap.proofs.TableLemmas.{handed_on, whole_before, geometry_later, whole_later}
use Rattle.mg_heap.specs.declared.table.TablePages.{TablePages}
use Rattle.mg_heap.proofs.HandedLemmas.{alone_read}
use Rattle.mg_heap.proofs.room.listed_with_room.Goals as goal

pub returns-clause-gives : goal.returns-clause-gives
returns-clause-gives g c = λ image tells. listed_given g.D.Disk.meaning c.args.store.now
    c.table_pages.new.store image c.in_ok-table.ensures.keeps c.room_in.new.store c.args.batch.now
    c.room_in.new.batch c.args.owner.0 c.args.need c.in_ok-table.table.pointers.items
    c.in_ok-table.table.data_pages.items c.room_in.result (c.in_ok-table.ensures.finds image tells)
    (c.room_in.ensures.gives image (tells_on g.D.Disk.meaning c.args.store.now
    c.table_pages.new.store image c.in_ok-table.ensures.keeps tells))

pub returns-clause-keeps : goal.returns-clause-keeps
returns-clause-keeps g c = keeps_on g.D.Disk.meaning g.met.D.Disk.counts_now c.args.store.now
    c.table_pages.new.store c.room_in.new.store c.in_ok-table.ensures.keeps c.room_in.ensures.keeps

pub returns-clause-whole : goal.returns-clause-whole
returns-clause-whole g c = whole_before g.D.Disk.meaning c.args.store.now c.table_pages.new.store
    c.in_ok-table.ensures.keeps c.room_in.new.batch.pages c.room_in.ensures.whole

pub returns-clause-fault : goal.returns-clause-fault
returns-clause-fault g c = fault_on g.D.Disk.meaning c.args.store.now c.table_pages.new.store
    c.room_in.new.store (pool_answer c.room_in.result) c.in_ok-table.ensures.keeps
    c.in_ok-table.ensures.fault.2 c.room_in.ensures.fault

pub returns-clause-own : goal.returns-clause-own
returns-clause-own g c = c.room_in.ensures.own

pub returns-in_err-table-clause-keeps : goal.returns-in_err-table-clause-keeps
returns-in_err-table-clause-keeps g c = c.in_err-table.ensures.keeps

pub returns-in_err-table-clause-fault : goal.returns-in_err-table-clause-fault
returns-in_err-table-clause-fault g c = fault_same TablePages g.D.Disk.meaning c.args.store.now
    c.table_pages.new.store c.from_residual.result c.in_err-table.field-0.0 c.from_residual.ensures.0
    c.from_residual.ensures.1 c.in_err-table.ensures.fault

pub returns-in_err-table-clause-own : goal.returns-in_err-table-clause-own
returns-in_err-table-clause-own g c = alone_read TablePages c.from_residual.result c.in_err-table.field-0.0
    c.from_residual.ensures.0 c.from_residual.ensures.1 c.in_err-table.ensures.own

pub returns-in_err-table-clause-whole : goal.returns-in_err-table-clause-whole
returns-in_err-table-clause-whole g c = c.requires.whole

pub returns-in_err-table-clause-gives : goal.returns-in_err-table-clause-gives
returns-in_err-table-clause-gives g c = λ image tells. handed_on c.from_residual.result
    c.in_err-table.field-0.0 _ (RefusesRoom g.D.Disk.meaning c.args.store.now c.table_pages.new.store image
    c.args.batch.now c.args.owner.0) c.from_residual.ensures.0 c.from_residual.ensures.1 (inl
    (c.in_err-table.ensures.finds image tells))

pub room_in-requires-clause-pool : goal.room_in-requires-clause-pool
room_in-requires-clause-pool g c = c.in_ok-table.ensures.keeps.pool

pub room_in-requires-clause-geometry : goal.room_in-requires-clause-geometry
room_in-requires-clause-geometry g c = geometry_later g.D.Disk.meaning c.args.store.now
    c.table_pages.new.store c.in_ok-table.ensures.keeps c.requires.geometry

pub room_in-requires-clause-whole : goal.room_in-requires-clause-whole
room_in-requires-clause-whole g c = whole_later g.D.Disk.meaning c.args.store.now c.table_pages.new.store
    c.in_ok-table.ensures.keeps c.args.batch.now.pages c.requires.whole

pub room_in-requires-clause-online : goal.room_in-requires-clause-online
room_in-requires-clause-online g c = c.in_ok-table.ensures.fault.1

pub room_in-requires-clause-few : goal.room_in-requires-clause-few
room_in-requires-clause-few g c = c.in_ok-table.ensures.few

pub room_in-requires-clause-short : goal.room_in-requires-clause-short
room_in-requires-clause-short g c = c.in_ok-table.ensures.short

pub room_in-requires-clause-some : goal.room_in-requires-clause-some
room_in-requires-clause-some g c = c.in_ok-table.ensures.some c.requires.some
