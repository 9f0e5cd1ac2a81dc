use Rattle.std.proofs.Common.{length}
use Rattle.std.specs.Prelude.{◌↔◌}
use Rattle.mg_node.specs.NodePage.{AreBetween}
use Rattle.mg_node.proofs.lawful.are_between.Given as goal

abbrev pub invariant-loop-entry : goal.invariant-loop-entry
invariant-loop-entry l = AreBetween l.low l.high l.entries ↔ AreBetween l.low l.high l.rest

abbrev pub decreases-loop-entry : goal.decreases-loop-entry
decreases-loop-entry l = length l.rest
