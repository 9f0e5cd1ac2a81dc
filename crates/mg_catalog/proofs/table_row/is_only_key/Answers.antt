use Rattle.mg_catalog.specs.ByKey.{by_key}
use Rattle.mg_catalog.specs.RowRules.{IsKeyAt}
use Rattle.mg_catalog.proofs.AllowLemmas.{allows_more}
use Rattle.mg_catalog.proofs.table_row.is_only_key.Goals as goal

pub loop-other-preserved : goal.loop-other-preserved
loop-other-preserved c = allows_more (IsKeyAt c.args.place) (by_key c.args.rows.now)
    c.args.name.now c.args.rows.now c.loop-other.rest.now c.in-Some.later.now c.in-Some.other.now
    c.in-Some.ensures.cases.0 c.loop-other.invariant
    (c.row_allows_key.ensures.0 c.if-not-row_allows_key.false)
