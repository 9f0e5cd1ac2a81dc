use Rattle.std.proofs.Common.{refl}
use Rattle.mg_waits.proofs.MachineLemmas.{notes_follow, others_note, last_is_enough}
use Rattle.mg_waits.proofs.laws.notes_follow_the_machine.Goals as goal

pub returns-clause-none : goal.returns-clause-none
returns-clause-none c = record {
  first = λ t. refl;
  enough = last_is_enough;
}

pub returns-clause-its : goal.returns-clause-its
returns-clause-its c = notes_follow

pub returns-clause-others : goal.returns-clause-others
returns-clause-others c = others_note
