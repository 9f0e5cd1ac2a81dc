use Rattle.std.proofs.Common.{◌∙◌, ◌-◌, Option, ℕ, sym}
use Rattle.mg_base.specs.declared.numbers.PageNo.{PageNo}
use Rattle.mg_image.specs.Form.{Pages}
use Rattle.mg_space.specs.HandedLaws.{fault_same, fault_up}
use Rattle.mg_space.specs.View.{viewed}
use Rattle.mg_space.specs.ViewLaws.{keeps_on}
use Rattle.mg_heap.specs.HandedLaws.{reads_same}
use Rattle.mg_heap.specs.Places.{FindsPlace, RefusesPlace}
use Rattle.mg_heap.specs.Table.{RefusesTable}
use Rattle.mg_heap.proofs.LastRoomLemmas.{last_found}
use Rattle.mg_heap.proofs.LookupLemmas.{table_refused}
use Rattle.mg_heap.proofs.TableLemmas.{as_started, geometry_later, handed_on, whole_later}
use Rattle.mg_heap.proofs.room.last_place.Goals as goal

pub returns-in_err-count-clause-keeps : goal.returns-in_err-count-clause-keeps
returns-in_err-count-clause-keeps g c = c.in_err-count.ensures.keeps

pub returns-in_err-count-clause-fault : goal.returns-in_err-count-clause-fault
returns-in_err-count-clause-fault g c = fault_same ℕ g.D.Disk.meaning c.args.store.now
    c.data_page_count.new.store c.from_residual.result c.in_err-count.field-0.0 c.from_residual.ensures.0
    c.from_residual.ensures.1 c.in_err-count.ensures.fault

pub returns-in_err-count-clause-own : goal.returns-in_err-count-clause-own
returns-in_err-count-clause-own g c = reads_same ℕ c.from_residual.result c.in_err-count.field-0.0
    c.from_residual.ensures.0 c.from_residual.ensures.1 c.in_err-count.ensures.own

pub returns-in_err-count-clause-finds : goal.returns-in_err-count-clause-finds
returns-in_err-count-clause-finds g c = λ image tells. handed_on c.from_residual.result
    c.in_err-count.field-0.0 _
    (RefusesTable g.D.Disk.meaning c.data_page_count.new.store c.args.batch.now.pages
    (viewed c.args.store.now image c.args.batch.now) c.args.owner.0)
    c.from_residual.ensures.0 c.from_residual.ensures.1 (c.in_err-count.ensures.counts image tells)

pub returns-then-count-eq0-clause-keeps : goal.returns-then-count-eq0-clause-keeps
returns-then-count-eq0-clause-keeps g c = c.in_ok-count.ensures.keeps

pub returns-then-count-eq0-clause-fault : goal.returns-then-count-eq0-clause-fault
returns-then-count-eq0-clause-fault g c = c.in_ok-count.ensures.fault

pub data_page_at-requires-clause-pool : goal.data_page_at-requires-clause-pool
data_page_at-requires-clause-pool g c = c.in_ok-count.ensures.keeps.pool

pub data_page_at-requires-clause-geometry : goal.data_page_at-requires-clause-geometry
data_page_at-requires-clause-geometry g c = geometry_later g.D.Disk.meaning c.args.store.now
    c.data_page_count.new.store c.in_ok-count.ensures.keeps c.requires.geometry

pub data_page_at-requires-clause-whole : goal.data_page_at-requires-clause-whole
data_page_at-requires-clause-whole g c = whole_later g.D.Disk.meaning c.args.store.now
    c.data_page_count.new.store c.in_ok-count.ensures.keeps c.args.batch.now.pages c.requires.whole

pub returns-in_err-found-clause-keeps : goal.returns-in_err-found-clause-keeps
returns-in_err-found-clause-keeps g c = keeps_on g.D.Disk.meaning g.met.D.Disk.counts_now
    c.args.store.now c.data_page_count.new.store c.data_page_at.new.store c.in_ok-count.ensures.keeps
    c.in_err-found.ensures.keeps

pub returns-in_err-found-clause-fault : goal.returns-in_err-found-clause-fault
returns-in_err-found-clause-fault g c = fault_up (Option PageNo) g.D.Disk.meaning c.args.store.now
    c.data_page_count.new.store c.data_page_at.new.store c.from_residual-in_err-found.result
    c.in_err-found.field-0.0 c.in_ok-count.ensures.keeps c.in_ok-count.ensures.fault.2
    c.from_residual-in_err-found.ensures.0 c.from_residual-in_err-found.ensures.1
    c.in_err-found.ensures.fault

pub returns-in_err-found-clause-own : goal.returns-in_err-found-clause-own
returns-in_err-found-clause-own g c = reads_same (Option PageNo) c.from_residual-in_err-found.result
    c.in_err-found.field-0.0 c.from_residual-in_err-found.ensures.0
    c.from_residual-in_err-found.ensures.1 c.in_err-found.ensures.own

pub returns-in_err-found-clause-finds : goal.returns-in_err-found-clause-finds
returns-in_err-found-clause-finds g c = λ image tells. handed_on c.from_residual-in_err-found.result
    c.in_err-found.field-0.0 _
    (RefusesTable g.D.Disk.meaning c.data_page_at.new.store c.args.batch.now.pages
    (viewed c.args.store.now image c.args.batch.now) c.args.owner.0)
    c.from_residual-in_err-found.ensures.0 c.from_residual-in_err-found.ensures.1
    (table_refused g.D.Disk.meaning c.data_page_at.new.store c.args.batch.now.pages
    (viewed c.args.store.now image c.args.batch.now) c.args.owner.0 (c.in_ok-count.count - 1)
    c.in_err-found.field-0.0
    (as_started g.D.Disk.meaning c.args.store.now c.data_page_count.new.store image c.args.batch.now
    c.in_ok-count.ensures.keeps tells (λ (pages : Pages). RefusesPlace g.D.Disk.meaning
    c.data_page_at.new.store c.args.batch.now.pages pages c.args.owner.0 (c.in_ok-count.count - 1)
    c.in_err-found.field-0.0) (c.in_err-found.ensures.finds image)))

pub returns-clause-keeps : goal.returns-clause-keeps
returns-clause-keeps g c = keeps_on g.D.Disk.meaning g.met.D.Disk.counts_now c.args.store.now
    c.data_page_count.new.store c.data_page_at.new.store c.in_ok-count.ensures.keeps
    c.in_ok-found.ensures.keeps

pub returns-clause-fault : goal.returns-clause-fault
returns-clause-fault g c = (
  sym c.in_ok-count.ensures.keeps.offline ∙ c.in_ok-found.ensures.fault.0,
  c.in_ok-found.ensures.fault.1,
  c.in_ok-found.ensures.fault.2 ∙ c.in_ok-count.ensures.fault.2,
)

pub returns-clause-finds : goal.returns-clause-finds
returns-clause-finds g c = λ image tells. last_found (viewed c.args.store.now image c.args.batch.now)
    c.args.owner.0 c.in_ok-count.count c.in_ok-found.found c.placed.result c.if-count-eq0.false
    c.placed.ensures (c.in_ok-count.ensures.counts image tells)
    (as_started g.D.Disk.meaning c.args.store.now c.data_page_count.new.store image c.args.batch.now
    c.in_ok-count.ensures.keeps tells (λ (pages : Pages). FindsPlace pages c.args.owner.0
    (c.in_ok-count.count - 1) c.in_ok-found.found) (c.in_ok-found.ensures.finds image))
