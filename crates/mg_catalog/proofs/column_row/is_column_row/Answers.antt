use Rattle.mg_catalog.proofs.RowLemmas.{column_row_is}
use Rattle.mg_catalog.proofs.column_row.is_column_row.Goals as goal

pub returns : goal.returns
returns c = column_row_is c.args.rows.now c.args.table.now c.args.place c.args.row.now
    c.rows_allow.result c.requires
    (c.is_column_spelled.ensures.0 c.if-not-is_column_spelled.false)
    (c.has_place.ensures.0 c.if-not-has_place.false) c.rows_allow.ensures
