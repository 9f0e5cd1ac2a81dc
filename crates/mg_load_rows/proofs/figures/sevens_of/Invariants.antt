use Rattle.std.proofs.Common.{◌≡◌}
use Rattle.mg_load_rows.specs.LoadRows.{sevens_below}
use Rattle.mg_load_rows.proofs.figures.sevens_of.Given as goal

abbrev pub invariant-loop-i : goal.invariant-loop-i
invariant-loop-i l = l.sevens ≡ sevens_below l.i
