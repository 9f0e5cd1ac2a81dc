use Rattle.mg_catalog.specs.ByKey.{by_key}
use Rattle.mg_catalog.proofs.AllowLemmas.{columns_more, no_column}
use Rattle.mg_catalog.proofs.table_row.has_columns.Goals as goal

pub loop-place-preserved : goal.loop-place-preserved
loop-place-preserved c = columns_more (by_key c.args.rows.now) c.args.name.now c.loop-place.place
    c.in-Some.field-0.now c.loop-place.invariant c.in-Some.ensures

pub returns-in_default : goal.returns-in_default
returns-in_default c = (
  λ passed. absurd cc,
  λ has. absurd (no_column (by_key c.args.rows.now)
      c.args.name.now c.args.count c.loop-place.place c.in_default.ensures c.loop-place-test.true has),
)
