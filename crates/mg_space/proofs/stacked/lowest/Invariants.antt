use Rattle.mg_space.specs.Stacked.{IsStacked}
use Rattle.mg_space.proofs.stacked.lowest.Given as goal

abbrev pub invariant-loop-slot : goal.invariant-loop-slot
invariant-loop-slot l = IsStacked l.b l.slot l.low
