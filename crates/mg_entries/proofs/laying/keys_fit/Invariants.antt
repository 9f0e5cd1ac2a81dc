use Rattle.std.proofs.Common.{length}
use Rattle.std.specs.Prelude.{◌↔◌}
use Rattle.mg_entries.specs.Entries.{KeysFit}
use Rattle.mg_entries.proofs.laying.keys_fit.Given as goal

abbrev pub invariant-loop-index : goal.invariant-loop-index
invariant-loop-index l = KeysFit l.size l.row l.indexes ↔ KeysFit l.size l.row l.rest

abbrev pub decreases-loop-index : goal.decreases-loop-index
decreases-loop-index l = length l.rest
