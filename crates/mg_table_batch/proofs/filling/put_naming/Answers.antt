use Rattle.mg_space.specs.WholeLaws.{whole_kept}
use Rattle.std.proofs.Common.{◌∙◌, refl}
use Rattle.mg_image.specs.Form.{Pages}
use Rattle.mg_pool.specs.declared.fault.PoolFault.TheVariants as pool_faults
use Rattle.mg_space.specs.ViewLaws.{keeps_on}
use Rattle.mg_space.specs.declared.fault.SpaceFault.TheVariants as faults
use Rattle.mg_chain.specs.Refusals.{RefusesCellAt}
use Rattle.mg_heap.specs.GrowthLaws.{whole_same}
use Rattle.mg_table_batch.specs.Refusals.{RefusesNaming, own_memory, own_row, own_slot}
use Rattle.mg_table_batch.proofs.NamingLemmas.{naming_by}
use Rattle.mg_table_batch.proofs.SeenLemmas.{handed_on, seen_before}
use Rattle.mg_table_batch.proofs.filling.put_naming.Goals as goal

pub returns-in_err-at-clause-puts : goal.returns-in_err-at-clause-puts
returns-in_err-at-clause-puts g c = λ image tells. handed_on c.from_residual.result c.in_err-at.field-0.0 _
    (RefusesNaming g.D.Disk.meaning c.args.store.now c.put_row.new.store image c.args.catalog.now c.args.t.0 c.args.batch.now c.args.row.now)
    c.from_residual.ensures.0 c.from_residual.ensures.1 (own_row (c.in_err-at.ensures.puts image tells))

pub returns-in_err-link-clause-keeps : goal.returns-in_err-link-clause-keeps
returns-in_err-link-clause-keeps g c = keeps_on g.D.Disk.meaning g.met.D.Disk.counts_now c.args.store.now c.put_row.new.store
    c.newest_link.new.store c.in_ok-at.ensures.keeps c.in_err-link.ensures.keeps

pub returns-in_err-link-clause-puts : goal.returns-in_err-link-clause-puts
returns-in_err-link-clause-puts g c = λ image tells. handed_on c.from_residual-in_err-link.result c.in_err-link.field-0.0 _
    (RefusesNaming g.D.Disk.meaning c.args.store.now c.newest_link.new.store image c.args.catalog.now c.args.t.0 c.args.batch.now c.args.row.now)
    c.from_residual-in_err-link.ensures.0 c.from_residual-in_err-link.ensures.1
    (own_slot c.in_ok-at.at c.put_row.new.batch (c.in_ok-at.ensures.puts image tells)
    (seen_before g.D.Disk.meaning c.args.store.now c.put_row.new.store image c.put_row.new.batch c.in_ok-at.ensures.keeps tells
    (λ (pages : Pages). RefusesCellAt g.D.Disk.meaning c.newest_link.new.store c.put_row.new.batch.pages pages c.in_ok-at.at
    c.in_err-link.field-0.0) c.in_err-link.ensures.gives))

pub returns-in_err-order_to-clause-keeps : goal.returns-in_err-order_to-clause-keeps
returns-in_err-order_to-clause-keeps g c = keeps_on g.D.Disk.meaning g.met.D.Disk.counts_now c.args.store.now c.put_row.new.store
    c.newest_link.new.store c.in_ok-at.ensures.keeps c.in_ok-link.ensures.keeps

pub returns-in_err-order_to-clause-puts : goal.returns-in_err-order_to-clause-puts
returns-in_err-order_to-clause-puts g c = λ image tells.
    handed_on c.from_residual-in_err-order_to.result (faults.Pool pool_faults.Memory) _
    (RefusesNaming g.D.Disk.meaning c.args.store.now c.newest_link.new.store image c.args.catalog.now c.args.t.0 c.args.batch.now c.args.row.now)
    c.from_residual-in_err-order_to.ensures.0 c.from_residual-in_err-order_to.ensures.1 (own_memory refl)

pub returns-clause-keeps : goal.returns-clause-keeps
returns-clause-keeps g c = keeps_on g.D.Disk.meaning g.met.D.Disk.counts_now c.args.store.now c.put_row.new.store
    c.newest_link.new.store c.in_ok-at.ensures.keeps c.in_ok-link.ensures.keeps

pub returns-clause-whole : goal.returns-clause-whole
returns-clause-whole g c = whole_same c.args.store.now.geometry c.put_row.new.batch c.order_to.new.batch
    c.in_ok-at.ensures.whole c.in_ok-order_to.ensures.pages

pub returns-clause-puts : goal.returns-clause-puts
returns-clause-puts g c = λ image tells. naming_by g.D.Disk.meaning c.args.store.now c.put_row.new.store image c.args.catalog.now
    c.args.t.0 c.args.batch.now c.put_row.new.batch c.order_to.new.batch c.args.row.now c.args.page.0 c.in_ok-at.at
    c.in_ok-link.link c.geometry.result c.page_of_version.result.0
    (c.geometry.ensures ∙ c.in_ok-link.ensures.keeps.geometry ∙ c.in_ok-at.ensures.keeps.geometry) c.in_ok-at.ensures.keeps tells
    (c.in_ok-at.ensures.puts image tells) c.in_ok-link.ensures.gives c.page_of_version.ensures c.in_ok-order_to.ensures.adds

pub newest_link-requires-clause-whole : goal.newest_link-requires-clause-whole
newest_link-requires-clause-whole g c = whole_kept g.D.Disk.meaning c.args.store.now
    c.put_row.new.store c.put_row.new.batch.pages
    c.in_ok-at.ensures.keeps c.in_ok-at.ensures.whole
