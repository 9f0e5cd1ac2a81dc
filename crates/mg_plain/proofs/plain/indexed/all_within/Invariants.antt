-- The rows so far, and those in the range among the rows that are left.
use Rattle.std.proofs.Common.{◌≡◌, ◌++◌, drop}
use Rattle.std.specs.List.{filter}
use Rattle.mg_indexed.specs.Indexing.{lies_within}
use Rattle.mg_plain.proofs.plain.indexed.all_within.Given as goal

abbrev pub invariant-loop-row : goal.invariant-loop-row
invariant-loop-row l = l.taken.items ++ filter (lies_within l.column l.range) (drop l.row-index l.rows)
    ≡ filter (lies_within l.column l.range) l.rows
