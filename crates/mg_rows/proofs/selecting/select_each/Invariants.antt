use Rattle.std.proofs.Common.{◌≡◌, drop}
use Rattle.mg_statements.specs.Plain.{trees_in}
use Rattle.mg_rows.specs.Selecting.{each_of, selected}
use Rattle.mg_rows.proofs.EachLemmas.{fronted}
use Rattle.mg_rows.proofs.selecting.select_each.Given as goal

-- the rows so far and those to come are all
abbrev pub invariant-loop-row : goal.invariant-loop-row
invariant-loop-row l =
    fronted l.out.items (each_of (selected (trees_in l.values)) (drop l.row-index l.rows)) ≡ each_of (selected (trees_in l.values)) l.rows
