use Rattle.std.proofs.Common.{◌≡◌, [], length}
use Rattle.mg_catalog.specs.Names.{names_from}
use Rattle.mg_catalog.proofs.names.names_of.Given as goal

abbrev pub invariant-loop-row : goal.invariant-loop-row
invariant-loop-row l = names_from l.letter l.rest l.names.items ≡ names_from l.letter l.rows []

abbrev pub decreases-loop-row : goal.decreases-loop-row
decreases-loop-row l = length l.rest
