use Rattle.std.proofs.Common.{◌≡◌}
use Rattle.mg_load_rows.specs.LoadRows.{sum_below}
use Rattle.mg_load_rows.proofs.figures.sum_of.Given as goal

abbrev pub invariant-loop-i : goal.invariant-loop-i
invariant-loop-i l = l.sum ≡ sum_below l.i
