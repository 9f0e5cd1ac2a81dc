use Rattle.mg_model.specs.Catalog.{columns_said}
use Rattle.mg_catalog.specs.ByKey.{by_key}
use Rattle.mg_catalog.proofs.CatalogLemmas.{columns_step}
use Rattle.mg_catalog.proofs.columns.columns_of.Goals as goal

pub loop-place-preserved : goal.loop-place-preserved
loop-place-preserved c = columns_step (by_key c.args.rows.now) c.args.table.now c.loop-place.place
    c.args.count c.loop-place.columns.items c.add_column.new.columns.items
    (columns_said (by_key c.args.rows.now) c.args.table.now 0 c.args.count)
    c.loop-place-test.true c.loop-place.invariant c.in_ok-add_column.ensures
