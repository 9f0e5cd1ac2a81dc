use Rattle.mg_image.specs.Form.{packed_form}
use Rattle.mg_lasting_laws.specs.ChangingLaws.{quiet_holds}
use Rattle.mg_lasting_laws.specs.StepLaws.{idle_lasts, rollback_lasts}
use Rattle.mg_engine_step_laws.specs.standing.QuietLaws.{idle_shows}
use Rattle.mg_engine_step_laws.specs.commits.IdleLaws.{idle_goes_on, rollback_lasts_on}
use Rattle.mg_engine_step_laws.proofs.entries.entries_go_on.Goals as goal

pub returns-clause-idle : goal.returns-clause-idle
returns-clause-idle g c = idle_goes_on g.row.D.Denot g.row.L.Denot g.D.Disk.meaning packed_form
    c.histories_go_on.ensures.begins (idle_lasts packed_form) (quiet_holds packed_form)
    (idle_shows packed_form) c.standings_go_on.ensures

pub returns-clause-rollback : goal.returns-clause-rollback
returns-clause-rollback g c = rollback_lasts_on g.row.D.Denot g.row.L.Denot g.D.Disk.meaning packed_form
    (rollback_lasts packed_form) (quiet_holds packed_form)
