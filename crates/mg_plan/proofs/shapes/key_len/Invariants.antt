use Rattle.std.proofs.Common.{◌≡◌, length}
use Rattle.mg_plan.specs.Shapes.{key_len}
use Rattle.mg_plan.proofs.shapes.key_len.Given as goal

abbrev pub invariant-loop-d : goal.invariant-loop-d
invariant-loop-d l = key_len l.rest ≡ key_len l.defs

abbrev pub decreases-loop-d : goal.decreases-loop-d
decreases-loop-d l = length l.rest
