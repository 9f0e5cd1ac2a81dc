use Rattle.std.proofs.Common.{◌≡◌, drop}
use Rattle.mg_paths.specs.Plans.{first_index}
use Rattle.mg_paths.proofs.planning.first_index.Given as goal

abbrev pub invariant-loop-place : goal.invariant-loop-place
invariant-loop-place l = first_index l.place (drop l.place l.indexes) l.column ≡ first_index 0 l.indexes l.column
