use Rattle.std.proofs.Common.{◌≡◌, ◌++◌, length}
use Rattle.mg_catalog.specs.ByKey.{by_key}
use Rattle.mg_catalog.specs.TableIndexes.{indexes_among}
use Rattle.mg_catalog.proofs.indexes.add_indexes.Given as goal

abbrev pub invariant-loop-name : goal.invariant-loop-name
invariant-loop-name l =
    l.indexes.items ++ indexes_among (by_key l.rows) l.table l.rest
    ≡ l.fn.indexes.items ++ indexes_among (by_key l.rows) l.table l.names

abbrev pub decreases-loop-name : goal.decreases-loop-name
decreases-loop-name l = length l.rest
