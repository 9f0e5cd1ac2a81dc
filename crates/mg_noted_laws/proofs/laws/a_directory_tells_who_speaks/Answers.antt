use Rattle.mg_noted_laws.specs.SpeakingLaws.{built_noted, speaker_by_directory}
use Rattle.mg_noted_laws.proofs.laws.a_directory_tells_who_speaks.Goals as goal

pub returns-clause-speakers : goal.returns-clause-speakers
returns-clause-speakers c = speaker_by_directory c.records_are_those_of_every_reading.ensures.speakers

pub returns-clause-built : goal.returns-clause-built
returns-clause-built c = built_noted c.records_are_those_of_every_reading.ensures.keys
