use Rattle.std.proofs.Common.{◌≡◌, ◌≤◌, ◌+◌, ◌++◌, length}
use Rattle.mg_catalog.specs.RowsSaid.{column_rows}
use Rattle.mg_catalog.proofs.said.add_columns.Given as goal

abbrev pub invariant-loop-column : goal.invariant-loop-column
invariant-loop-column l =
    (l.rows.items ++ column_rows l.table l.key l.place l.rest
    ≡ l.fn.rows.items ++ column_rows l.table l.key 0 l.columns)
    × (l.place + length l.rest ≤ length l.columns)

abbrev pub decreases-loop-column : goal.decreases-loop-column
decreases-loop-column l = length l.rest
