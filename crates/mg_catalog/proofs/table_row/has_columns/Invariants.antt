use Rattle.mg_catalog.specs.ByKey.{by_key}
use Rattle.mg_catalog.specs.RowRules.{HasColumns}
use Rattle.mg_catalog.proofs.table_row.has_columns.Given as goal

abbrev pub invariant-loop-place : goal.invariant-loop-place
invariant-loop-place l = HasColumns (by_key l.rows) l.name l.place
