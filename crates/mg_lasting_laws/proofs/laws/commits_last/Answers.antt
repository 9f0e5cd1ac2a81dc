use Rattle.mg_image.specs.Form.{packed_form}
use Rattle.mg_lasting_laws.specs.CommitLaws.{goes_midway, midway_goes_on, midway_is_written}
use Rattle.mg_lasting_laws.proofs.laws.commits_last.Goals as goal

pub returns-clause-changed : goal.returns-clause-changed
returns-clause-changed c = goes_midway packed_form (λ page number is. is)

pub returns-clause-others : goal.returns-clause-others
returns-clause-others c = midway_goes_on packed_form

pub returns-clause-written : goal.returns-clause-written
returns-clause-written c = midway_is_written packed_form
