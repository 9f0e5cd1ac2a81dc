use Rattle.std.proofs.Common.{◌≡◌, map, take}
use Rattle.mg_plan.proofs.statements.names_defined.Given as goal

abbrev pub invariant-loop-d : goal.invariant-loop-d
invariant-loop-d l = l.names.items ≡ map (λ d. d.name) (take l.d-index l.defs)
