use Rattle.mg_catalog.specs.ByKey.{by_key}
use Rattle.mg_catalog.specs.RowRules.{ColumnAllows}
use Rattle.mg_catalog.proofs.AllowLemmas.{allows_more}
use Rattle.mg_catalog.proofs.column_row.rows_allow.Goals as goal

pub loop-other-preserved : goal.loop-other-preserved
loop-other-preserved c = allows_more (ColumnAllows c.args.place c.args.row.now)
    (by_key c.args.rows.now) c.args.table.now c.args.rows.now c.loop-other.rest.now
    c.in-Some.later.now c.in-Some.other.now c.in-Some.ensures.cases.0 c.loop-other.invariant
    (c.row_allows.ensures.0 c.if-not-row_allows.false)
