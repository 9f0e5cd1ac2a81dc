use Rattle.std.proofs.Common.{◌≡◌, ◌++◌, length}
use Rattle.mg_catalog.specs.RowsSaid.{index_rows}
use Rattle.mg_catalog.proofs.said.add_indexes.Given as goal

abbrev pub invariant-loop-index : goal.invariant-loop-index
invariant-loop-index l =
    l.rows.items ++ index_rows l.table l.rest ≡ l.fn.rows.items ++ index_rows l.table l.indexes

abbrev pub decreases-loop-index : goal.decreases-loop-index
decreases-loop-index l = length l.rest
