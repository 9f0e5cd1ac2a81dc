use Rattle.std.proofs.Common.{◌≡◌, length}
use Rattle.std.specs.Prelude.{◌↔◌}
use Rattle.mg_layout.proofs.tables.are_same_columns.Given as goal

abbrev pub invariant-loop-column : goal.invariant-loop-column
invariant-loop-column l = (l.a ≡ l.b) ↔ (l.rest ≡ l.others)

abbrev pub decreases-loop-column : goal.decreases-loop-column
decreases-loop-column l = length l.rest
