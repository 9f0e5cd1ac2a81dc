use Rattle.std.proofs.Common.{◌≡◌, map, drop}
use Rattle.mg_expr.specs.Trees.{tree_of}
use Rattle.mg_rows.specs.NewRows.{updated}
use Rattle.mg_rows.proofs.RowLemmas.{made_before}
use Rattle.mg_rows.proofs.new_rows.update_rows.Given as goal

-- the rows made so far and those to come are all
abbrev pub invariant-loop-row : goal.invariant-loop-row
invariant-loop-row l =
    made_before l.made.items (updated l.columns l.places (map (λ set. tree_of set.value) l.sets) (drop l.row-index l.found)) ≡ updated l.columns l.places (map (λ set. tree_of set.value) l.sets) l.found
