use Rattle.std.proofs.Common.{◌≡◌, drop}
use Rattle.mg_rows.specs.NewRows.{has_null}
use Rattle.mg_rows.proofs.new_rows.has_null.Given as goal

abbrev pub invariant-loop-column : goal.invariant-loop-column
invariant-loop-column l = has_null (drop l.column-index l.columns) l.rest ≡ has_null l.columns l.row
