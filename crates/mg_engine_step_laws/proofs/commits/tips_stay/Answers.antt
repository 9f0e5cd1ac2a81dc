use Rattle.mg_image.specs.Form.{packed_form}
use Rattle.mg_engine_step_laws.specs.commits.ListShows.{behind_keeps_tips, data_keeps_tips, tips_stay_on}
use Rattle.mg_engine_step_laws.proofs.commits.tips_stay.Goals as goal

pub returns-clause-data : goal.returns-clause-data
returns-clause-data c = data_keeps_tips packed_form

pub returns-clause-behind : goal.returns-clause-behind
returns-clause-behind c = behind_keeps_tips

pub returns-clause-on : goal.returns-clause-on
returns-clause-on c = tips_stay_on
