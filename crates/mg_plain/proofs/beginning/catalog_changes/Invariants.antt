-- The changes so far, and those of the rows that are left.
use Rattle.std.proofs.Common.{◌≡◌, ◌++◌, drop}
use Rattle.mg_model.specs.Machine.{catalog_changes}
use Rattle.mg_plain.proofs.beginning.catalog_changes.Given as goal

abbrev pub invariant-loop-placed : goal.invariant-loop-placed
invariant-loop-placed l =
    l.changes.items ++ catalog_changes (drop l.placed-index l.rows) ≡ catalog_changes l.rows
