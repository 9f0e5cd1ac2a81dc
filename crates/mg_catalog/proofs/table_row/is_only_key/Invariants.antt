use Rattle.std.proofs.Common.{length}
use Rattle.std.specs.Prelude.{◌↔◌}
use Rattle.mg_catalog.specs.ByKey.{by_key}
use Rattle.mg_catalog.specs.RowRules.{EachAllows, IsKeyAt}
use Rattle.mg_catalog.proofs.table_row.is_only_key.Given as goal

abbrev pub invariant-loop-other : goal.invariant-loop-other
invariant-loop-other l = EachAllows (IsKeyAt l.place) (by_key l.rows) l.name l.rows
    ↔ EachAllows (IsKeyAt l.place) (by_key l.rows) l.name l.rest

abbrev pub decreases-loop-other : goal.decreases-loop-other
decreases-loop-other l = length l.rest
