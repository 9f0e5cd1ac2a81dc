use Rattle.mg_row_writes.proofs.finding.speaker_from.Goals as goal

pub returns-in-None-clause-gives : goal.returns-in-None-clause-gives
returns-in-None-clause-gives g c = λ image tells. c.speaker_at.ensures.gives image tells tt
