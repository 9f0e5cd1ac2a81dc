use Rattle.std.proofs.Common.{◌≡◌, take}
use Rattle.mg_plan.proofs.statements.copy_defs.Given as goal

abbrev pub invariant-loop-d : goal.invariant-loop-d
invariant-loop-d l = l.copied.items ≡ take l.d-index l.defs
