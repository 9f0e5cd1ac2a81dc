use Rattle.std.proofs.Common.{◌≡◌, length}
use Rattle.mg_model.specs.Catalog.{column_key}
use Rattle.mg_catalog.specs.ByKey.{by_key}
use Rattle.mg_catalog.proofs.find.find_column.Given as goal

abbrev pub invariant-loop-row : goal.invariant-loop-row
invariant-loop-row l = by_key l.rows (column_key l.table l.place) ≡ by_key l.rest (column_key l.table l.place)

abbrev pub decreases-loop-row : goal.decreases-loop-row
decreases-loop-row l = length l.rest
