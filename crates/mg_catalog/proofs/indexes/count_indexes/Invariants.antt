use Rattle.std.proofs.Common.{◌≡◌, ◌≤◌, ◌+◌, length}
use Rattle.mg_catalog.specs.ByKey.{by_key}
use Rattle.mg_catalog.specs.TableIndexes.{indexes_among}
use Rattle.mg_catalog.proofs.indexes.count_indexes.Given as goal

abbrev pub invariant-loop-name : goal.invariant-loop-name
invariant-loop-name l =
    (length (indexes_among (by_key l.rows) l.table l.names)
    ≡ l.count + length (indexes_among (by_key l.rows) l.table l.rest))
    × (l.count + length l.rest ≤ length l.names)

abbrev pub decreases-loop-name : goal.decreases-loop-name
decreases-loop-name l = length l.rest
