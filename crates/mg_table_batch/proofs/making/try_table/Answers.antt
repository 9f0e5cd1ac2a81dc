use Rattle.std.proofs.Common.{◌∙◌, ap}
use Rattle.mg_base.specs.Image.{Image}
use Rattle.mg_base.specs.declared.geometry.Geometry.{Geometry}
use Rattle.mg_pool.specs.Batch.{Changed, IsLawful}
use Rattle.mg_batches.specs.Batches.{nothing_yet}
use Rattle.mg_space.specs.declared.fault.SpaceFault.{SpaceFault}
use Rattle.mg_table_batch.specs.Filling.{FillsTable}
use Rattle.mg_table_batch.specs.Making.{FailsTry, no_page, not_at_once}
use Rattle.mg_table_batch.specs.Refusals.{RefusesTable}
use Rattle.mg_table_batch.proofs.MakeLemmas.{made_at_once, not_changed_once, not_filled_by, page_wanted}
use Rattle.mg_table_batch.proofs.SeenLemmas.{handed_on}
use Rattle.mg_space.specs.BelowLaws.{below_kept}
use Rattle.mg_table_batch.proofs.making.try_table.Goals as goal

pub returns-in_err-fill-clause-tries : goal.returns-in_err-fill-clause-tries
returns-in_err-fill-clause-tries g c = handed_on c.from_residual.result c.in_err-fill.field-0.0 _
    (FailsTry g.D.Disk.meaning c.args.catalog.now c.args.t.0 c.args.name.now c.args.shape.now c.args.store.now c.fill.new.store)
    c.from_residual.ensures.0 c.from_residual.ensures.1
    (not_at_once (not_filled_by (Unit {0}) g.D.Disk.meaning c.args.store.now c.fill.new.store
    (λ (image : Image). λ (batch : Changed). FillsTable c.args.store.now image c.args.catalog.now c.args.t.0 c.args.name.now c.args.shape.now nothing_yet batch
    × IsLawful c.args.store.now.geometry.size batch.pages batch.orders)
    (λ (empty : Changed). λ (image : Image). λ (f : SpaceFault). RefusesTable g.D.Disk.meaning c.args.store.now c.fill.new.store image c.args.catalog.now c.args.t.0 c.args.name.now
    c.args.shape.now empty f) c.new-batch.result c.in_err-fill.field-0.0 c.new-batch.ensures.pages c.new-batch.ensures.orders
    c.in_err-fill.ensures.keeps c.in_err-fill.ensures.own c.in_err-fill.ensures.fault c.in_err-fill.ensures.fills))

pub returns-in_err-change_lawful-clause-tries : goal.returns-in_err-change_lawful-clause-tries
returns-in_err-change_lawful-clause-tries g c = handed_on c.from_residual-in_err-change_lawful.result
    c.in_err-change_lawful.field-0.0 _
    (FailsTry g.D.Disk.meaning c.args.catalog.now c.args.t.0 c.args.name.now c.args.shape.now c.args.store.now c.change_lawful.new.store)
    c.from_residual-in_err-change_lawful.ensures.0 c.from_residual-in_err-change_lawful.ensures.1
    (not_changed_once g.D.Disk.meaning c.args.catalog.now c.args.t.0 c.args.name.now c.args.shape.now c.args.store.now
    c.fill.new.store c.new-batch.result c.fill.new.batch c.new-batch.ensures.pages c.new-batch.ensures.orders
    c.in_ok-fill.ensures.keeps c.in_ok-fill.ensures.fault c.in_ok-fill.ensures.fills c.geometry.result.size
    c.is_lawful.result (ap (λ (g : Geometry). g.size) (c.geometry.ensures ∙ c.in_ok-fill.ensures.keeps.geometry))
    c.if-is_lawful.true c.is_lawful.ensures.0 c.change_lawful.new.store c.in_err-change_lawful.field-0.0
    c.in_err-change_lawful.ensures.changes)

pub returns-then-is_lawful-clause-tries : goal.returns-then-is_lawful-clause-tries
returns-then-is_lawful-clause-tries g c = made_at_once g.D.Disk.meaning c.args.catalog.now c.args.t.0 c.args.name.now
    c.args.shape.now c.args.store.now c.fill.new.store c.new-batch.result c.fill.new.batch c.new-batch.ensures.pages
    c.new-batch.ensures.orders c.in_ok-fill.ensures.keeps c.in_ok-fill.ensures.fault c.in_ok-fill.ensures.fills
    c.change_lawful.new.store c.in_ok-change_lawful.ensures.changes

pub returns-in_err-grow-clause-tries : goal.returns-in_err-grow-clause-tries
returns-in_err-grow-clause-tries g c = handed_on c.from_residual-in_err-grow.result c.in_err-grow.field-0.0 _
    (FailsTry g.D.Disk.meaning c.args.catalog.now c.args.t.0 c.args.name.now c.args.shape.now c.args.store.now c.grow.new.store)
    c.from_residual-in_err-grow.ensures.0 c.from_residual-in_err-grow.ensures.1
    (no_page c.fill.new.store (page_wanted g.D.Disk.meaning c.args.catalog.now c.args.t.0 c.args.name.now c.args.shape.now
    c.args.store.now c.fill.new.store c.new-batch.result c.fill.new.batch c.new-batch.ensures.pages c.new-batch.ensures.orders
    c.in_ok-fill.ensures.keeps c.in_ok-fill.ensures.fault c.in_ok-fill.ensures.fills c.geometry.result.size
    c.is_lawful.result (ap (λ (g : Geometry). g.size) (c.geometry.ensures ∙ c.in_ok-fill.ensures.keeps.geometry))
    c.if-is_lawful.false c.is_lawful.ensures.1) c.in_err-grow.ensures.grows)

pub returns-clause-tries : goal.returns-clause-tries
returns-clause-tries g c = record {
  ready = c.fill.new.store;
  wants = page_wanted g.D.Disk.meaning c.args.catalog.now c.args.t.0 c.args.name.now c.args.shape.now
      c.args.store.now c.fill.new.store c.new-batch.result c.fill.new.batch c.new-batch.ensures.pages c.new-batch.ensures.orders
      c.in_ok-fill.ensures.keeps c.in_ok-fill.ensures.fault c.in_ok-fill.ensures.fills c.geometry.result.size
      c.is_lawful.result (ap (λ (g : Geometry). g.size) (c.geometry.ensures ∙ c.in_ok-fill.ensures.keeps.geometry))
      c.if-is_lawful.false c.is_lawful.ensures.1;
  grows = c.in_ok-grow.ensures.grows;
}

pub change_lawful-requires-clause-below : goal.change_lawful-requires-clause-below
change_lawful-requires-clause-below g c = below_kept c.args.store.now.geometry c.fill.new.store.geometry
    c.fill.new.batch.pages c.in_ok-fill.ensures.keeps.geometry c.in_ok-fill.ensures.whole
