use Rattle.mg_image.specs.Form.{Pages}
use Rattle.mg_space.specs.HandedLaws.{fault_same, fault_up}
use Rattle.mg_space.specs.View.{AreWhole, viewed}
use Rattle.mg_database.specs.Tested.{AreDataPages, RefusesListed, RefusesTested}
use Rattle.mg_database.proofs.TestedLemmas.{as_started, chain_untested, handed_on, listed_untested, table_read}
use Rattle.mg_space.specs.ViewLaws.{keeps_on}
use Rattle.std.proofs.Common.{◌∙◌, ap, subst, sym}
use Rattle.mg_base.specs.declared.geometry.Geometry.{Geometry}
use Rattle.mg_space.specs.Taking.{IsGeometry}
use Rattle.mg_heap.specs.HandedLaws.{reads_same}
use Rattle.mg_heap.specs.declared.table.TablePages.{TablePages}
use Rattle.mg_database.proofs.tested.check_pages.Goals as goal

pub returns-in_err-table-clause-tests : goal.returns-in_err-table-clause-tests
returns-in_err-table-clause-tests g c = λ image tells. handed_on c.from_residual.result
    c.in_err-table.field-0.0 _
    (RefusesTested g.D.Disk.meaning c.table_pages.new.store c.args.batch.now.pages
    (viewed c.args.store.now image c.args.batch.now) c.args.owner.0)
    c.from_residual.ensures.0 c.from_residual.ensures.1
    (chain_untested g.D.Disk.meaning c.table_pages.new.store c.args.batch.now.pages
    (viewed c.args.store.now image c.args.batch.now) c.args.owner.0 c.in_err-table.field-0.0
    (c.in_err-table.ensures.finds image tells))

pub returns-in_err-check_data_pages-clause-tests : goal.returns-in_err-check_data_pages-clause-tests
returns-in_err-check_data_pages-clause-tests g c = λ image tells. handed_on
    c.from_residual-in_err-check_data_pages.result c.in_err-check_data_pages.field-0.0 _
    (RefusesTested g.D.Disk.meaning c.check_data_pages.new.store c.args.batch.now.pages
    (viewed c.args.store.now image c.args.batch.now) c.args.owner.0)
    c.from_residual-in_err-check_data_pages.ensures.0 c.from_residual-in_err-check_data_pages.ensures.1
    (listed_untested g.D.Disk.meaning c.check_data_pages.new.store c.args.batch.now.pages
    (viewed c.args.store.now image c.args.batch.now) c.args.owner.0 c.in_ok-table.table.pointers.items
    c.in_ok-table.table.data_pages.items c.in_err-check_data_pages.field-0.0
    (c.in_ok-table.ensures.finds image tells)
    (as_started g.D.Disk.meaning c.args.store.now c.table_pages.new.store image c.args.batch.now
    c.in_ok-table.ensures.keeps tells (λ (pages : Pages). RefusesListed g.D.Disk.meaning
    c.check_data_pages.new.store c.args.batch.now.pages pages c.args.owner.0
    c.in_ok-table.table.data_pages.items c.in_err-check_data_pages.field-0.0)
    (rw c.deref.ensures.value at (c.in_err-check_data_pages.ensures.tests image))))

pub returns-clause-tests : goal.returns-clause-tests
returns-clause-tests g c = λ image tells. record {
  table = c.in_ok-table.ensures.finds image tells;
  listed = as_started g.D.Disk.meaning c.args.store.now c.table_pages.new.store image c.args.batch.now
      c.in_ok-table.ensures.keeps tells
      (λ (pages : Pages). AreDataPages pages c.args.owner.0 c.in_ok-table.table.data_pages.items)
      (rw c.deref.ensures.value at (c.in_ok-check_data_pages.ensures.tests image));
}

pub returns-clause-reads : goal.returns-clause-reads
returns-clause-reads g c = table_read g.D.Disk.meaning c.args.store.now c.table_pages.new.store
    c.check_data_pages.new.store c.in_ok-table.table.pointers.items c.in_ok-table.table.data_pages.items
    c.in_ok-table.ensures.reads (rw c.deref.ensures.value at c.in_ok-check_data_pages.ensures.reads)

pub returns-in_err-table-clause-keeps : goal.returns-in_err-table-clause-keeps
returns-in_err-table-clause-keeps g c = c.in_err-table.ensures.keeps

pub returns-in_err-table-clause-fault : goal.returns-in_err-table-clause-fault
returns-in_err-table-clause-fault g c = fault_same TablePages g.D.Disk.meaning c.args.store.now
    c.table_pages.new.store c.from_residual.result c.in_err-table.field-0.0
    c.from_residual.ensures.0 c.from_residual.ensures.1 c.in_err-table.ensures.fault

pub returns-in_err-table-clause-own : goal.returns-in_err-table-clause-own
returns-in_err-table-clause-own g c = reads_same TablePages c.from_residual.result c.in_err-table.field-0.0
    c.from_residual.ensures.0 c.from_residual.ensures.1
    c.in_err-table.ensures.own

pub check_data_pages-requires-clause-pool : goal.check_data_pages-requires-clause-pool
check_data_pages-requires-clause-pool g c = c.in_ok-table.ensures.keeps.pool

pub check_data_pages-requires-clause-geometry : goal.check_data_pages-requires-clause-geometry
check_data_pages-requires-clause-geometry g c = subst IsGeometry (sym c.in_ok-table.ensures.keeps.geometry)
    c.requires.geometry

pub check_data_pages-requires-clause-whole : goal.check_data_pages-requires-clause-whole
check_data_pages-requires-clause-whole g c =
    subst (λ (x : Geometry). AreWhole x c.args.batch.now.pages) (sym c.in_ok-table.ensures.keeps.geometry) c.requires.whole

pub check_data_pages-requires-clause-online : goal.check_data_pages-requires-clause-online
check_data_pages-requires-clause-online g c = c.in_ok-table.ensures.fault.1

pub returns-in_err-check_data_pages-clause-keeps : goal.returns-in_err-check_data_pages-clause-keeps
returns-in_err-check_data_pages-clause-keeps g c = keeps_on g.D.Disk.meaning g.met.D.Disk.counts_now
    c.args.store.now c.table_pages.new.store
    c.check_data_pages.new.store c.in_ok-table.ensures.keeps c.in_err-check_data_pages.ensures.keeps

pub returns-in_err-check_data_pages-clause-fault : goal.returns-in_err-check_data_pages-clause-fault
returns-in_err-check_data_pages-clause-fault g c = fault_up (Unit {0}) g.D.Disk.meaning c.args.store.now
    c.table_pages.new.store
    c.check_data_pages.new.store c.from_residual-in_err-check_data_pages.result c.in_err-check_data_pages.field-0.0
    c.in_ok-table.ensures.keeps c.in_ok-table.ensures.fault.2 c.from_residual-in_err-check_data_pages.ensures.0
    c.from_residual-in_err-check_data_pages.ensures.1 c.in_err-check_data_pages.ensures.fault

pub returns-in_err-check_data_pages-clause-own : goal.returns-in_err-check_data_pages-clause-own
returns-in_err-check_data_pages-clause-own g c = reads_same (Unit {0})
    c.from_residual-in_err-check_data_pages.result c.in_err-check_data_pages.field-0.0
    c.from_residual-in_err-check_data_pages.ensures.0 c.from_residual-in_err-check_data_pages.ensures.1
    c.in_err-check_data_pages.ensures.own

pub returns-clause-keeps : goal.returns-clause-keeps
returns-clause-keeps g c = keeps_on g.D.Disk.meaning g.met.D.Disk.counts_now c.args.store.now c.table_pages.new.store
    c.check_data_pages.new.store c.in_ok-table.ensures.keeps c.in_ok-check_data_pages.ensures.keeps

pub returns-clause-fault : goal.returns-clause-fault
returns-clause-fault g c = (
  c.in_ok-table.ensures.fault.0,
  c.in_ok-check_data_pages.ensures.fault.1,
  c.in_ok-check_data_pages.ensures.fault.2 ∙ c.in_ok-table.ensures.fault.2,
)

pub returns-clause-own : goal.returns-clause-own
returns-clause-own g c = tt
