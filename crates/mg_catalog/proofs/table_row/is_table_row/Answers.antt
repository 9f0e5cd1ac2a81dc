use Rattle.mg_catalog.proofs.RowLemmas.{table_row_is}
use Rattle.mg_catalog.proofs.table_row.is_table_row.Goals as goal

pub returns : goal.returns
returns c = rw c.number_at.ensures (table_row_is c.args.rows.now c.args.name.now c.args.row.now
    c.count_indexes.result c.requires.key
    (c.is_table_spelled.ensures.0 c.if-not-is_table_spelled.false)
    (rw c.number_at-count.ensures at (c.has_columns.ensures.0 c.if-not-has_columns.false))
    (rw c.number_at-count.ensures at (c.has_one_key.ensures.0 c.if-not-has_one_key.false))
    (rw c.requires.indexes at c.count_indexes.ensures))
