use Rattle.mg_catalog.specs.ByKey.{by_key, row_key}
use Rattle.mg_catalog.proofs.RowLemmas.{column_is_row}
use Rattle.mg_catalog.proofs.catalog_row.is_catalog_row.Goals as goal

pub returns-in-Some-row_column : goal.returns-in-Some-row_column
returns-in-Some-row_column c = column_is_row (by_key c.args.rows.now)
    c.in-Some-row_column.table.now c.in-Some-row_column.place (row_key c.args.row.now)
    c.args.row.now c.is_column_row.result c.in-Some-row_column.ensures c.is_column_row.ensures
