use Rattle.mg_image.specs.Form.{packed_form}
use Rattle.mg_engine_step_laws.specs.standing.QuietLaws.{begin_shows, commit_shows, idle_shows}
use Rattle.mg_engine_step_laws.proofs.standing.quiet_pages_go_on.Goals as goal

pub returns-clause-idle : goal.returns-clause-idle
returns-clause-idle c = idle_shows packed_form

pub returns-clause-begin : goal.returns-clause-begin
returns-clause-begin c = begin_shows packed_form

pub returns-clause-commit : goal.returns-clause-commit
returns-clause-commit c = commit_shows packed_form
