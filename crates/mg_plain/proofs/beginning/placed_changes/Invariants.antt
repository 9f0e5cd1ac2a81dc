-- The changes so far, and those of the rows that are left.
use Rattle.std.proofs.Common.{◌≡◌, ◌++◌, drop}
use Rattle.mg_model.specs.Machine.{placed}
use Rattle.mg_plain.specs.Beginning.{catalog_of_one}
use Rattle.mg_plain.proofs.beginning.placed_changes.Given as goal

abbrev pub invariant-loop-placed : goal.invariant-loop-placed
invariant-loop-placed l =
    l.changes.items ++ placed (catalog_of_one l.seen) (drop l.placed-index l.rows)
    ≡ placed (catalog_of_one l.seen) l.rows
