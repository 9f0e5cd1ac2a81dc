use Rattle.std.proofs.Common.{◌≡◌, drop}
use Rattle.mg_plan.specs.Shapes.{key_from}
use Rattle.mg_plan.proofs.shapes.key_of.Given as goal

abbrev pub invariant-loop-place : goal.invariant-loop-place
invariant-loop-place l = key_from l.place (drop l.place l.defs) ≡ key_from 0 l.defs
