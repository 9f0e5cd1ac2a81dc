-- So many changes are steps.
use Rattle.std.proofs.Common.{◌≡◌, map, take}
use Rattle.mg_model.specs.Machine.{limbo_step}
use Rattle.mg_plain.proofs.beginning.limbo_steps.Given as goal

abbrev pub invariant-loop-change : goal.invariant-loop-change
invariant-loop-change l = l.steps.items ≡ map limbo_step (take l.change-index l.limbo)
