use Rattle.mg_space.specs.WholeLaws.{whole_kept}
use Rattle.std.proofs.Common.{refl}
use Rattle.mg_pool.specs.declared.fault.PoolFault.TheVariants as pool_faults
use Rattle.mg_space.specs.ViewLaws.{keeps_on, tells_on}
use Rattle.mg_space.specs.declared.fault.SpaceFault.TheVariants as faults
use Rattle.mg_table_batch.specs.Refusals.{RefusesTable, table_memory, table_page}
use Rattle.mg_table_batch.proofs.FillLemmas.{filled_by}
use Rattle.mg_table_batch.proofs.SeenLemmas.{handed_on}
use Rattle.mg_base.specs.declared.geometry.Geometry.{Geometry}
use Rattle.mg_space.specs.View.{AreWhole}
use Rattle.std.specs.Prelude.{OnOk}
use Rattle.std.proofs.Common.{subst}
use Rattle.mg_table_batch.proofs.filling.fill.Goals as goal

pub returns-in_err-page-clause-fills : goal.returns-in_err-page-clause-fills
returns-in_err-page-clause-fills g c = λ image tells. handed_on c.from_residual.result c.in_err-page.field-0.0 _
    (RefusesTable g.D.Disk.meaning c.args.store.now c.take_first.new.store image c.args.catalog.now c.args.t.0 c.args.name.now
    c.args.shape.now c.args.batch.now) c.from_residual.ensures.0 c.from_residual.ensures.1
    (table_page (c.in_err-page.ensures.takes image tells))

pub returns-in_err-rows-clause-fills : goal.returns-in_err-rows-clause-fills
returns-in_err-rows-clause-fills g c = λ image tells.
    handed_on c.from_residual-in_err-rows.result (faults.Pool pool_faults.Memory) _
    (RefusesTable g.D.Disk.meaning c.args.store.now c.take_first.new.store image c.args.catalog.now c.args.t.0 c.args.name.now
    c.args.shape.now c.args.batch.now) c.from_residual-in_err-rows.ensures.0 c.from_residual-in_err-rows.ensures.1
    (table_memory refl)

pub returns-clause-keeps : goal.returns-clause-keeps
returns-clause-keeps g c = keeps_on g.D.Disk.meaning g.met.D.Disk.counts_now c.args.store.now c.take_first.new.store
    c.put_table.new.store c.in_ok-page.ensures.keeps c.put_table.ensures.keeps

pub returns-clause-fills : goal.returns-clause-fills
returns-clause-fills g c = λ image tells. filled_by g.D.Disk.meaning c.args.store.now c.take_first.new.store c.put_table.new.store
    image c.args.catalog.now c.args.t.0 c.args.name.now c.args.shape.now c.deref.result.now c.in_ok-rows.rows.items
    c.in_ok-page.page.0 c.args.batch.now c.take_first.new.batch c.put_table.new.batch c.put_table.result c.deref.ensures.value
    c.in_ok-rows.ensures (c.in_ok-page.ensures.takes image tells) c.in_ok-page.ensures.keeps
    (c.put_table.ensures.puts image (tells_on g.D.Disk.meaning c.args.store.now c.take_first.new.store image
    c.in_ok-page.ensures.keeps tells))

pub returns-clause-whole : goal.returns-clause-whole
returns-clause-whole g c = subst (λ (x : Geometry). OnOk c.put_table.result (AreWhole x c.put_table.new.batch.pages))
    c.in_ok-page.ensures.keeps.geometry c.put_table.ensures.whole

pub put_table-requires-clause-whole : goal.put_table-requires-clause-whole
put_table-requires-clause-whole g c = whole_kept g.D.Disk.meaning c.args.store.now
    c.take_first.new.store c.take_first.new.batch.pages
    c.in_ok-page.ensures.keeps c.in_ok-page.ensures.whole
