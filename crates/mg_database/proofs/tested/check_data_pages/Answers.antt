use Rattle.std.proofs.Common.{◌≡◌, ◌+◌, ◌∙◌, ap, arith, refl, get_or, subst, sym, take, take_all}
use Rattle.std.proofs.lemmas.List.{take_more}
use Rattle.mg_heap.specs.HandedLaws.{reads_same}
use Rattle.mg_heap.specs.Reads.{ReadsListed}
use Rattle.mg_heap.specs.ReadsLaws.{listed_more, none_listed}
use Rattle.mg_heap.specs.Walk.{RefusesTableData}
use Rattle.mg_image.specs.Form.{Pages}
use Rattle.mg_base.specs.declared.bytes.Bytes.{Bytes}
use Rattle.mg_base.specs.declared.geometry.Geometry.{Geometry}
use Rattle.mg_space.specs.HandedLaws.{fault_up}
use Rattle.mg_space.specs.Taking.{IsGeometry}
use Rattle.mg_space.specs.View.{AreWhole, viewed}
use Rattle.mg_space.specs.ViewLaws.{keeps_itself, keeps_on}
use Rattle.mg_database.specs.Tested.{AreDataPages, RefusesListed}
use Rattle.mg_database.proofs.TestedLemmas.{as_started, handed_on, page_tested, page_untested}
use Rattle.mg_database.proofs.tested.check_data_pages.Goals as goal

pub loop-place-init : goal.loop-place-init
loop-place-init g c = record {
  keeps = keeps_itself g.D.Disk.meaning c.args.store.now c.requires.pool;
  faults = refl;
  listed = λ image tells. tt;
  reads = none_listed g.D.Disk.meaning c.args.store.now;
}

pub overflow_cast-place : goal.overflow_cast-place
overflow_cast-place g c = omega (arith, c.requires.few)

pub returns-in_err-table_data_page-clause-tests : goal.returns-in_err-table_data_page-clause-tests
returns-in_err-table_data_page-clause-tests g c = λ image tells. handed_on c.from_residual.result
    c.in_err-table_data_page.field-0.0 _
    (RefusesListed g.D.Disk.meaning c.table_data_page.new.store c.args.batch.now.pages
    (viewed c.args.store.now image c.args.batch.now) c.args.owner.0 c.args.data_pages.now)
    c.from_residual.ensures.0 c.from_residual.ensures.1
    (page_untested g.D.Disk.meaning c.table_data_page.new.store c.args.batch.now.pages
    (viewed c.args.store.now image c.args.batch.now) c.args.owner.0 c.loop-place.place
    c.loop-place.place c.args.data_pages.now
    (record { 0 = get_or c.args.data_pages.now c.loop-place.place 0 })
    c.in_err-table_data_page.field-0.0 (omega arith) refl refl
    (c.loop-place.invariant.listed image tells)
    (as_started g.D.Disk.meaning c.args.store.now c.loop-place.store image c.args.batch.now
    c.loop-place.invariant.keeps tells (λ (pages : Pages). RefusesTableData g.D.Disk.meaning
    c.table_data_page.new.store c.args.batch.now.pages
    (pages (get_or c.args.data_pages.now c.loop-place.place 0)) c.args.owner.0 c.loop-place.place
    (record { 0 = get_or c.args.data_pages.now c.loop-place.place 0 })
    c.in_err-table_data_page.field-0.0) (c.in_err-table_data_page.ensures.seen image)))

pub loop-place-preserved : goal.loop-place-preserved
loop-place-preserved g c = record {
  keeps = keeps_on g.D.Disk.meaning g.met.D.Disk.counts_now c.args.store.now c.loop-place.store
      c.table_data_page.new.store c.loop-place.invariant.keeps c.in_ok-table_data_page.ensures.keeps;
  faults = c.in_ok-table_data_page.ensures.fault.2 ∙ c.loop-place.invariant.faults;
  listed = λ image tells. page_tested (viewed c.args.store.now image c.args.batch.now) c.args.owner.0
      c.loop-place.place c.loop-place.place c.args.data_pages.now
      (record { 0 = get_or c.args.data_pages.now c.loop-place.place 0 })
      c.in_ok-table_data_page.field-0 (omega arith) refl refl
      (as_started g.D.Disk.meaning c.args.store.now c.loop-place.store image c.args.batch.now
      c.loop-place.invariant.keeps tells (λ (pages : Pages). c.in_ok-table_data_page.field-0
      ≡ pages (get_or c.args.data_pages.now c.loop-place.place 0))
      (c.in_ok-table_data_page.ensures.seen image))
      c.in_ok-table_data_page.ensures.common c.in_ok-table_data_page.ensures.lawful
      (c.loop-place.invariant.listed image tells);
  reads = listed_more g.D.Disk.meaning c.args.store.now c.loop-place.store c.table_data_page.new.store
      (take c.loop-place.place c.args.data_pages.now)
      (take (c.loop-place.place + 1) c.args.data_pages.now)
      (get_or c.args.data_pages.now c.loop-place.place 0) c.loop-place.invariant.reads
      c.in_ok-table_data_page.ensures.reads
      (take_more c.args.data_pages.now c.loop-place.place 0 (omega arith));
}

pub returns-clause-tests : goal.returns-clause-tests
returns-clause-tests g c = λ image tells. subst (AreDataPages
    (viewed c.args.store.now image c.args.batch.now) c.args.owner.0)
    (take_all c.loop-place.place c.args.data_pages.now (omega arith))
    (c.loop-place.invariant.listed image tells)

pub returns-clause-reads : goal.returns-clause-reads
returns-clause-reads g c = subst (ReadsListed g.D.Disk.meaning c.args.store.now c.loop-place.store)
    (take_all c.loop-place.place c.args.data_pages.now (omega arith)) c.loop-place.invariant.reads

pub table_data_page-requires-clause-pool : goal.table_data_page-requires-clause-pool
table_data_page-requires-clause-pool g c = c.loop-place.invariant.keeps.pool

pub table_data_page-requires-clause-geometry : goal.table_data_page-requires-clause-geometry
table_data_page-requires-clause-geometry g c = subst IsGeometry (sym c.loop-place.invariant.keeps.geometry)
    c.requires.geometry

pub table_data_page-requires-clause-whole : goal.table_data_page-requires-clause-whole
table_data_page-requires-clause-whole g c =
    subst (λ (x : Geometry). AreWhole x c.args.batch.now.pages) (sym c.loop-place.invariant.keeps.geometry) c.requires.whole

pub returns-in_err-table_data_page-clause-keeps : goal.returns-in_err-table_data_page-clause-keeps
returns-in_err-table_data_page-clause-keeps g c = keeps_on g.D.Disk.meaning g.met.D.Disk.counts_now
    c.args.store.now c.loop-place.store
    c.table_data_page.new.store c.loop-place.invariant.keeps c.in_err-table_data_page.ensures.keeps

pub returns-in_err-table_data_page-clause-fault : goal.returns-in_err-table_data_page-clause-fault
returns-in_err-table_data_page-clause-fault g c = fault_up Bytes g.D.Disk.meaning c.args.store.now c.loop-place.store
    c.table_data_page.new.store c.from_residual.result c.in_err-table_data_page.field-0.0 c.loop-place.invariant.keeps
    c.loop-place.invariant.faults c.from_residual.ensures.0 c.from_residual.ensures.1
    c.in_err-table_data_page.ensures.fault

pub returns-in_err-table_data_page-clause-own : goal.returns-in_err-table_data_page-clause-own
returns-in_err-table_data_page-clause-own g c = reads_same Bytes c.from_residual.result
    c.in_err-table_data_page.field-0.0
    c.from_residual.ensures.0 c.from_residual.ensures.1 c.in_err-table_data_page.ensures.own

pub returns-clause-keeps : goal.returns-clause-keeps
returns-clause-keeps g c = c.loop-place.invariant.keeps

pub returns-clause-fault : goal.returns-clause-fault
returns-clause-fault g c = (
  c.requires.online,
  c.loop-place.invariant.keeps.offline ∙ c.requires.online,
  c.loop-place.invariant.faults,
)

pub returns-clause-own : goal.returns-clause-own
returns-clause-own g c = tt
