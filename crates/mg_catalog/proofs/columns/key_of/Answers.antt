use Rattle.std.proofs.Common.{sym, ◌∙◌}
use Rattle.mg_model.specs.Catalog.{key_said}
use Rattle.mg_catalog.specs.ByKey.{by_key}
use Rattle.mg_catalog.proofs.CatalogLemmas.{key_step}
use Rattle.mg_catalog.proofs.columns.key_of.Goals as goal

pub loop-place-preserved : goal.loop-place-preserved
loop-place-preserved c = key_step (by_key c.args.rows.now) c.args.table.now c.loop-place.place
    c.args.count (key_said (by_key c.args.rows.now) c.args.table.now 0 c.args.count)
    c.loop-place-test.true (sym c.says_key.ensures ∙ c.if-says_key.false) c.loop-place.invariant
