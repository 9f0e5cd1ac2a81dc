use Rattle.mg_transcript.specs.Growing.{grown_then}
use Rattle.mg_transcript.specs.OwnEventLaws.{starts_own, runs_own, takes_own}
use Rattle.mg_transcript.proofs.laws.events_are_own.Goals as goal

pub returns-clause-statements : goal.returns-clause-statements
returns-clause-statements c = λ o t size s h mid after begun comes starts runs.
    grown_then (starts_own starts) (runs_own runs)

pub returns-clause-steps : goal.returns-clause-steps
returns-clause-steps c = λ o t n h after from comes takes. takes_own takes
