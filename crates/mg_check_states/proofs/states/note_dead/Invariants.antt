use Rattle.std.proofs.Common.{length}
use Rattle.mg_base.specs.Image.{page_at}
use Rattle.mg_check_states.proofs.StepLemmas.{IsPassed}
use Rattle.mg_check_states.specs.States.{dead_of}
use Rattle.mg_image.specs.Inventory.{state_at}
use Rattle.mg_check_states.proofs.states.note_dead.Given as goal

-- what is told of the versions that are left completes the whole
abbrev pub invariant-loop-entry : goal.invariant-loop-entry
invariant-loop-entry l = IsPassed (dead_of (state_at l.size (page_at l.size l.pages))) l.entries l.rest
    l.initial.findings.items l.findings.items

abbrev pub decreases-loop-entry : goal.decreases-loop-entry
decreases-loop-entry l = length l.rest
