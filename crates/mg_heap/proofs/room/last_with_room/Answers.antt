use Rattle.std.proofs.Common.{◌≡◌, ◌∙◌, Option, inl}
use Rattle.mg_image.specs.Form.{Pages}
use Rattle.mg_space.specs.HandedLaws.{fault_same, fault_up}
use Rattle.mg_space.specs.View.{viewed}
use Rattle.mg_space.specs.ViewLaws.{keeps_on}
use Rattle.mg_heap.specs.HandedLaws.{reads_same}
use Rattle.mg_heap.specs.LastRoom.{FindsLast, RefusesLast}
use Rattle.mg_heap.specs.Walk.{RefusesTableData}
use Rattle.mg_heap.specs.declared.room.LastPlace.{LastPlace}
use Rattle.mg_heap.proofs.HoldingLemmas.{data_lawful}
use Rattle.mg_heap.proofs.LastRoomLemmas.{last_broken, last_first}
use Rattle.mg_heap.proofs.TableLemmas.{as_started, geometry_later, handed_on, whole_later}
use Rattle.mg_heap.proofs.room.last_with_room.Goals as goal

pub returns-in_err-found-clause-keeps : goal.returns-in_err-found-clause-keeps
returns-in_err-found-clause-keeps g c = c.in_err-found.ensures.keeps

pub returns-in_err-found-clause-fault : goal.returns-in_err-found-clause-fault
returns-in_err-found-clause-fault g c = fault_same (Option LastPlace) g.D.Disk.meaning c.args.store.now
    c.last_place.new.store c.from_residual.result c.in_err-found.field-0.0 c.from_residual.ensures.0
    c.from_residual.ensures.1 c.in_err-found.ensures.fault

pub returns-in_err-found-clause-own : goal.returns-in_err-found-clause-own
returns-in_err-found-clause-own g c = reads_same (Option LastPlace) c.from_residual.result
    c.in_err-found.field-0.0 c.from_residual.ensures.0 c.from_residual.ensures.1
    c.in_err-found.ensures.own

pub returns-in_err-found-clause-gives : goal.returns-in_err-found-clause-gives
returns-in_err-found-clause-gives g c = λ image tells. handed_on c.from_residual.result
    c.in_err-found.field-0.0 _
    (RefusesLast g.D.Disk.meaning c.last_place.new.store c.args.batch.now.pages
    (viewed c.args.store.now image c.args.batch.now) c.args.owner.0)
    c.from_residual.ensures.0 c.from_residual.ensures.1
    (inl (c.in_err-found.ensures.finds image tells))

pub returns-in_default-clause-keeps : goal.returns-in_default-clause-keeps
returns-in_default-clause-keeps g c = c.in_ok-found.ensures.keeps

pub returns-in_default-clause-fault : goal.returns-in_default-clause-fault
returns-in_default-clause-fault g c = c.in_ok-found.ensures.fault

pub hold_table_data-requires-clause-pool : goal.hold_table_data-requires-clause-pool
hold_table_data-requires-clause-pool g c = c.in_ok-found.ensures.keeps.pool

pub hold_table_data-requires-clause-geometry : goal.hold_table_data-requires-clause-geometry
hold_table_data-requires-clause-geometry g c = geometry_later g.D.Disk.meaning c.args.store.now
    c.last_place.new.store c.in_ok-found.ensures.keeps c.requires.geometry

pub hold_table_data-requires-clause-whole : goal.hold_table_data-requires-clause-whole
hold_table_data-requires-clause-whole g c = whole_later g.D.Disk.meaning c.args.store.now
    c.last_place.new.store c.in_ok-found.ensures.keeps c.args.batch.now.pages c.requires.whole

pub returns-in_err-hold_table_data-clause-keeps : goal.returns-in_err-hold_table_data-clause-keeps
returns-in_err-hold_table_data-clause-keeps g c = keeps_on g.D.Disk.meaning g.met.D.Disk.counts_now
    c.args.store.now c.last_place.new.store c.hold_table_data.new.store c.in_ok-found.ensures.keeps
    c.in_err-hold_table_data.ensures.keeps

pub returns-in_err-hold_table_data-clause-fault : goal.returns-in_err-hold_table_data-clause-fault
returns-in_err-hold_table_data-clause-fault g c = fault_up (Unit {0}) g.D.Disk.meaning c.args.store.now
    c.last_place.new.store c.hold_table_data.new.store c.from_residual-in_err-hold_table_data.result
    c.in_err-hold_table_data.field-0.0 c.in_ok-found.ensures.keeps c.in_ok-found.ensures.fault.2
    c.from_residual-in_err-hold_table_data.ensures.0 c.from_residual-in_err-hold_table_data.ensures.1
    c.in_err-hold_table_data.ensures.fault

pub returns-in_err-hold_table_data-clause-own : goal.returns-in_err-hold_table_data-clause-own
returns-in_err-hold_table_data-clause-own g c = reads_same (Unit {0}) c.from_residual-in_err-hold_table_data.result
    c.in_err-hold_table_data.field-0.0 c.from_residual-in_err-hold_table_data.ensures.0
    c.from_residual-in_err-hold_table_data.ensures.1 c.in_err-hold_table_data.ensures.own

pub returns-in_err-hold_table_data-clause-gives : goal.returns-in_err-hold_table_data-clause-gives
returns-in_err-hold_table_data-clause-gives g c = λ image tells. handed_on c.from_residual-in_err-hold_table_data.result
    c.in_err-hold_table_data.field-0.0 _
    (RefusesLast g.D.Disk.meaning c.hold_table_data.new.store c.args.batch.now.pages
    (viewed c.args.store.now image c.args.batch.now) c.args.owner.0)
    c.from_residual-in_err-hold_table_data.ensures.0 c.from_residual-in_err-hold_table_data.ensures.1
    (last_broken g.D.Disk.meaning c.hold_table_data.new.store c.args.batch.now.pages
    (viewed c.args.store.now image c.args.batch.now) c.args.owner.0 c.in_ok-found.found c.in-Some.last
    c.in_err-hold_table_data.field-0.0 c.in-Some.is (c.in_ok-found.ensures.finds image tells)
    (as_started g.D.Disk.meaning c.args.store.now c.last_place.new.store image c.args.batch.now
    c.in_ok-found.ensures.keeps tells (λ (pages : Pages). RefusesTableData g.D.Disk.meaning
    c.hold_table_data.new.store c.args.batch.now.pages (pages c.in-Some.last.page.0) c.args.owner.0
    c.in-Some.last.at c.in-Some.last.page c.in_err-hold_table_data.field-0.0) (c.in_err-hold_table_data.ensures.seen image)))

pub lent-page-requires-clause-whole : goal.lent-page-requires-clause-whole
lent-page-requires-clause-whole g c = whole_later g.D.Disk.meaning c.last_place.new.store
    c.hold_table_data.new.store c.in_ok-hold_table_data.ensures.keeps c.args.batch.now.pages
    (whole_later g.D.Disk.meaning c.args.store.now c.last_place.new.store c.in_ok-found.ensures.keeps
    c.args.batch.now.pages c.requires.whole)

pub room-requires : goal.room-requires
room-requires g c = data_lawful c.hold_table_data.new.store c.args.batch.now.pages c.args.owner.0
    c.in-Some.last.at c.in-Some.last.page c.lent-page.result.now c.lent-page.ensures.read
    c.in_ok-hold_table_data.ensures.held

pub returns-then-room-need-clause-keeps : goal.returns-then-room-need-clause-keeps
returns-then-room-need-clause-keeps g c = keeps_on g.D.Disk.meaning g.met.D.Disk.counts_now
    c.args.store.now c.last_place.new.store c.hold_table_data.new.store c.in_ok-found.ensures.keeps
    c.in_ok-hold_table_data.ensures.keeps

pub returns-then-room-need-clause-fault : goal.returns-then-room-need-clause-fault
returns-then-room-need-clause-fault g c = (
  c.in_ok-found.ensures.fault.0,
  c.in_ok-hold_table_data.ensures.fault.1,
  c.in_ok-hold_table_data.ensures.fault.2 ∙ c.in_ok-found.ensures.fault.2,
)

pub returns-clause-keeps : goal.returns-clause-keeps
returns-clause-keeps g c = keeps_on g.D.Disk.meaning g.met.D.Disk.counts_now
    c.args.store.now c.last_place.new.store c.hold_table_data.new.store c.in_ok-found.ensures.keeps
    c.in_ok-hold_table_data.ensures.keeps

pub returns-clause-fault : goal.returns-clause-fault
returns-clause-fault g c = (
  c.in_ok-found.ensures.fault.0,
  c.in_ok-hold_table_data.ensures.fault.1,
  c.in_ok-hold_table_data.ensures.fault.2 ∙ c.in_ok-found.ensures.fault.2,
)

pub returns-clause-gives : goal.returns-clause-gives
returns-clause-gives g c = λ image tells. last_first (viewed c.args.store.now image c.args.batch.now)
    c.args.owner.0 c.args.need c.in_ok-found.found c.in-Some.last c.lent-page.result.now
    c.room.result c.in-Some.is (c.in_ok-found.ensures.finds image tells)
    (as_started g.D.Disk.meaning c.args.store.now c.last_place.new.store image c.args.batch.now
    c.in_ok-found.ensures.keeps tells (λ (pages : Pages). c.lent-page.result.now ≡ pages c.in-Some.last.page.0)
    (λ told. as_started g.D.Disk.meaning c.last_place.new.store c.hold_table_data.new.store image
    c.args.batch.now c.in_ok-hold_table_data.ensures.keeps told
    (λ (pages : Pages). c.lent-page.result.now ≡ pages c.in-Some.last.page.0)
    (c.lent-page.ensures.seen image))) c.room.ensures c.if-room-need.false
