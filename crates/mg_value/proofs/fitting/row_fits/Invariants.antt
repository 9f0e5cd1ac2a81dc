use Rattle.std.proofs.Common.{drop}
use Rattle.mg_value.specs.Rows.{RowFits}
use Rattle.mg_value.proofs.fitting.row_fits.Given as goal

-- the row fits exactly where what is left of it fits the other columns
abbrev pub invariant-loop-column : goal.invariant-loop-column
invariant-loop-column l = record {
  from_rest : RowFits (drop l.column-index l.s.columns) l.rest → RowFits l.s.columns l.r;
  to_rest : RowFits l.s.columns l.r → RowFits (drop l.column-index l.s.columns) l.rest;
}
