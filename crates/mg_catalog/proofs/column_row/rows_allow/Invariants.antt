use Rattle.std.proofs.Common.{length}
use Rattle.std.specs.Prelude.{◌↔◌}
use Rattle.mg_catalog.specs.ByKey.{by_key}
use Rattle.mg_catalog.specs.RowRules.{ColumnAllows, EachAllows}
use Rattle.mg_catalog.proofs.column_row.rows_allow.Given as goal

abbrev pub invariant-loop-other : goal.invariant-loop-other
invariant-loop-other l =
    EachAllows (ColumnAllows l.place l.row) (by_key l.rows) l.table l.rows
    ↔ EachAllows (ColumnAllows l.place l.row) (by_key l.rows) l.table l.rest

abbrev pub decreases-loop-other : goal.decreases-loop-other
decreases-loop-other l = length l.rest
