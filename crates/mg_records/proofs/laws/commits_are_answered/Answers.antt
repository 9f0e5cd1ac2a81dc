use Rattle.mg_records.specs.AnsweredLaws.{commits_answered, rollbacks_answered, steps_answered}
use Rattle.mg_records.proofs.laws.commits_are_answered.Goals as goal

pub returns-clause-asks : goal.returns-clause-asks
returns-clause-asks g c = steps_answered g.R.Records.meaning

pub returns-clause-steps : goal.returns-clause-steps
returns-clause-steps g c = steps_answered g.R.Records.meaning

pub returns-clause-ends : goal.returns-clause-ends
returns-clause-ends g c = commits_answered g.R.Records.meaning

pub returns-clause-rollbacks : goal.returns-clause-rollbacks
returns-clause-rollbacks g c = rollbacks_answered g.R.Records.meaning
