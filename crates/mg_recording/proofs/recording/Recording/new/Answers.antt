use Rattle.mg_recording.specs.KnowingLaws.{known_first}
use Rattle.mg_recording.proofs.recording.Recording.new.Goals as goal

pub returns-clause-stands : goal.returns-clause-stands
returns-clause-stands g c = λ o ended s. (s, known_first c.new.result c.new-2.result o c.new.ensures.empty c.new-2.ensures ended)
