use Rattle.std.proofs.Common.{◌≡◌, drop}
use Rattle.mg_rows.specs.NewRows.{first_too_long}
use Rattle.mg_rows.proofs.new_rows.first_too_long.Given as goal

abbrev pub invariant-loop-column : goal.invariant-loop-column
invariant-loop-column l = first_too_long (drop l.column-index l.columns) l.rest ≡ first_too_long l.columns l.row
