use Rattle.mg_space.specs.WholeLaws.{whole_kept}
use Rattle.std.proofs.Common.{◌≡◌, ◌∙◌, ◌++◌, ℕ, arith, refl, get_or, subst, sym}
use Rattle.mg_image.specs.Form.{Pages}
use Rattle.mg_space.specs.HandedLaws.{fault_up}
use Rattle.mg_space.specs.View.{viewed}
use Rattle.mg_space.specs.ViewLaws.{keeps_on}
use Rattle.mg_heap.specs.HandedLaws.{reads_same}
use Rattle.mg_heap.specs.Walk.{RefusesTableData, RefusesWalkOf}
use Rattle.mg_seek.specs.TableRecords.{records_in, records_on}
use Rattle.mg_seek.specs.RecordLaws.{as_kept}
use Rattle.mg_seek.proofs.Steps.{handed_on}
use Rattle.mg_seek.proofs.TableLemmas.{page_broken, page_listed, pages_listed}
use Rattle.mg_space.specs.Taking.{IsGeometry}
use Rattle.mg_seek.proofs.listing.page_records.Goals as goal

pub overflow_cast-place : goal.overflow_cast-place
overflow_cast-place g c = omega (arith, c.requires.few)

pub returns-in_err-add_page-clause-gives : goal.returns-in_err-add_page-clause-gives
returns-in_err-add_page-clause-gives g c = λ image tells. handed_on c.from_residual.result
    c.in_err-add_page.field-0.0 _
    (RefusesWalkOf g.D.Disk.meaning c.add_page.new.store c.args.batch.now.pages (viewed c.args.store.now image c.args.batch.now) c.args.owner.0 c.args.data_pages.now)
    c.from_residual.ensures.0 c.from_residual.ensures.1
    (page_broken g.D.Disk.meaning c.add_page.new.store c.args.batch.now.pages (viewed c.args.store.now image c.args.batch.now) c.args.owner.0 c.loop-place.place
    c.loop-place.place c.args.data_pages.now
    (record { 0 = get_or c.args.data_pages.now c.loop-place.place 0 }) c.in_err-add_page.field-0.0 (omega arith) refl refl
    (as_kept g.D.Disk.meaning c.args.store.now c.loop-place.store image c.args.batch.now
    (λ (pages : Pages). RefusesTableData g.D.Disk.meaning c.add_page.new.store c.args.batch.now.pages
    (pages (get_or c.args.data_pages.now c.loop-place.place 0)) c.args.owner.0 c.loop-place.place
    (record { 0 = get_or c.args.data_pages.now c.loop-place.place 0 }) c.in_err-add_page.field-0.0)
    c.loop-place.invariant.keeps tells (c.in_err-add_page.ensures.gives image)))

pub loop-place-preserved : goal.loop-place-preserved
loop-place-preserved g c = record {
  keeps = keeps_on g.D.Disk.meaning g.met.D.Disk.counts_now c.args.store.now
      c.loop-place.store c.add_page.new.store c.loop-place.invariant.keeps
      c.in_ok-add_page.ensures.keeps;
  faults = c.in_ok-add_page.ensures.fault.2 ∙ c.loop-place.invariant.faults;
  rest = λ image tells. page_listed (viewed c.args.store.now image c.args.batch.now) c.args.data_pages.now c.loop-place.place
      (get_or c.args.data_pages.now c.loop-place.place 0) c.loop-place.records.items
      c.add_page.new.records.items (records_in (viewed c.args.store.now image c.args.batch.now) c.args.data_pages.now) (omega arith) refl
      (as_kept g.D.Disk.meaning c.args.store.now c.loop-place.store image c.args.batch.now
      (λ (pages : Pages). c.add_page.new.records.items ≡ c.loop-place.records.items
      ++ records_on (pages (get_or c.args.data_pages.now c.loop-place.place 0))
      (get_or c.args.data_pages.now c.loop-place.place 0)) c.loop-place.invariant.keeps tells
      (c.in_ok-add_page.ensures.gives image)) (c.loop-place.invariant.rest image tells);
}

pub returns-clause-gives : goal.returns-clause-gives
returns-clause-gives g c = λ image tells. pages_listed (viewed c.args.store.now image c.args.batch.now) c.args.data_pages.now c.loop-place.place
    c.loop-place.records.items (records_in (viewed c.args.store.now image c.args.batch.now) c.args.data_pages.now) (omega arith)
    (c.loop-place.invariant.rest image tells)

pub add_page-requires-clause-pool : goal.add_page-requires-clause-pool
add_page-requires-clause-pool g c = c.loop-place.invariant.keeps.pool

pub add_page-requires-clause-geometry : goal.add_page-requires-clause-geometry
add_page-requires-clause-geometry g c = subst IsGeometry (sym c.loop-place.invariant.keeps.geometry) c.requires.geometry

pub add_page-requires-clause-whole : goal.add_page-requires-clause-whole
add_page-requires-clause-whole g c =
    whole_kept g.D.Disk.meaning c.args.store.now c.loop-place.store c.args.batch.now.pages c.loop-place.invariant.keeps c.requires.whole

pub returns-in_err-add_page-clause-keeps : goal.returns-in_err-add_page-clause-keeps
returns-in_err-add_page-clause-keeps g c = keeps_on g.D.Disk.meaning g.met.D.Disk.counts_now c.args.store.now c.loop-place.store
    c.add_page.new.store c.loop-place.invariant.keeps c.in_err-add_page.ensures.keeps

pub returns-in_err-add_page-clause-fault : goal.returns-in_err-add_page-clause-fault
returns-in_err-add_page-clause-fault g c = fault_up (Unit {0}) g.D.Disk.meaning c.args.store.now c.loop-place.store c.add_page.new.store
    c.from_residual.result c.in_err-add_page.field-0.0 c.loop-place.invariant.keeps c.loop-place.invariant.faults
    c.from_residual.ensures.0 c.from_residual.ensures.1 c.in_err-add_page.ensures.fault

pub returns-in_err-add_page-clause-own : goal.returns-in_err-add_page-clause-own
returns-in_err-add_page-clause-own g c = reads_same (Unit {0}) c.from_residual.result c.in_err-add_page.field-0.0 c.from_residual.ensures.0 c.from_residual.ensures.1
    c.in_err-add_page.ensures.own

pub returns-clause-keeps : goal.returns-clause-keeps
returns-clause-keeps g c = c.loop-place.invariant.keeps

pub returns-clause-fault : goal.returns-clause-fault
returns-clause-fault g c = (c.requires.online, c.loop-place.invariant.keeps.offline ∙ c.requires.online, c.loop-place.invariant.faults)

pub returns-clause-own : goal.returns-clause-own
returns-clause-own g c = tt
