use Rattle.mg_image.specs.Form.{packed_form}
use Rattle.mg_lasting_laws.specs.CommitLaws.{goes_midway}
use Rattle.mg_lasting_laws.specs.CrashLaws.{failed_leaves, midway_holds_from}
use Rattle.mg_lasting_laws.specs.PoolLaws.{pool_leaves, runs_last}
use Rattle.mg_engine_step_laws.specs.commits.FailLaws.{commits_fail}
use Rattle.mg_engine_step_laws.specs.commits.PageWriteLaws.{page_writes_fail}
use Rattle.mg_engine_step_laws.proofs.commits.commits_fail.Goals as goal

pub returns : goal.returns
returns g c = commits_fail g.row.D.Denot g.row.L.Denot g.D.Disk.meaning g.met.D.Disk.counts_now
    g.met.D.Disk.holds packed_form (λ page n is. is) c.histories_go_on.ensures.begins
    (goes_midway packed_form (λ page n is. is))
    (pool_leaves g.row.D.Denot g.row.L.Denot g.D.Disk.meaning g.met.D.Disk.counts_now packed_form)
    (midway_holds_from packed_form) (failed_leaves g.row.D.Denot g.D.Disk.meaning packed_form)
    (page_writes_fail g.row.D.Denot g.row.L.Denot g.D.Disk.meaning packed_form
    c.histories_go_on.ensures.begins (runs_last g.row.D.Denot g.row.L.Denot g.D.Disk.meaning
    g.met.D.Disk.counts_now g.met.D.Disk.holds packed_form)
    (pool_leaves g.row.D.Denot g.row.L.Denot g.D.Disk.meaning g.met.D.Disk.counts_now packed_form))
    c.standings_go_on.ensures
