use Rattle.mg_image.specs.Form.{packed_form}
use Rattle.mg_lasting_laws.specs.CommitLaws.{goes_midway}
use Rattle.mg_lasting_laws.specs.SettlingLaws.{settling_lasts}
use Rattle.mg_lasting_laws.specs.StepLaws.{asking_lasts}
use Rattle.mg_engine_step_laws.specs.standing.QuietLaws.{commit_shows}
use Rattle.mg_engine_step_laws.specs.commits.CommitLaws.{commits_go_on}
use Rattle.mg_engine_step_laws.proofs.commits.commits_go_on.Goals as goal

pub returns : goal.returns
returns g c = commits_go_on g.row.D.Denot g.row.L.Denot g.D.Disk.meaning g.met.D.Disk.holds packed_form
    (λ page n is. is) c.histories_go_on.ensures.begins (goes_midway packed_form (λ page n is. is))
    (settling_lasts g.row.D.Denot g.row.L.Denot g.D.Disk.meaning g.met.D.Disk.counts_now
    g.met.D.Disk.holds packed_form) (asking_lasts packed_form) (commit_shows packed_form)
    c.standings_go_on.ensures
