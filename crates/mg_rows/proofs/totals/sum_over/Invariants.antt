use Rattle.std.proofs.Common.{◌≡◌, drop}
use Rattle.mg_expr.specs.Trees.{tree_of}
use Rattle.mg_rows.specs.Selecting.{each_of, tree_value}
use Rattle.mg_rows.specs.Totals.{sum_if}
use Rattle.mg_rows.specs.Running.{Holds}
use Rattle.mg_rows.proofs.SumLemmas.{sum_rest}
use Rattle.mg_rows.proofs.totals.sum_over.Given as goal

-- the sum so far is one of that many numbers, and with those to come makes the whole
abbrev pub invariant-loop-count : goal.invariant-loop-count
invariant-loop-count l =
    Holds l.count l.sum × (sum_rest l.sum (each_of (tree_value (tree_of l.e)) (drop l.count l.rows)) ≡ sum_if (each_of (tree_value (tree_of l.e)) l.rows))
