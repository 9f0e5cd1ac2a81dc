use Rattle.mg_image.specs.Form.{packed_form}
use Rattle.mg_lasting_laws.specs.PoolLaws.{pool_leaves, runs_last}
use Rattle.mg_lasting_laws.specs.StepLaws.{asking_lasts}
use Rattle.mg_engine_step_laws.specs.commits.PageWriteLaws.{asking_goes_on, asks_otherwise, page_writes_fail, page_writes_go_on}
use Rattle.mg_engine_step_laws.proofs.commits.page_writes_go_on.Goals as goal

pub returns-clause-otherwise : goal.returns-clause-otherwise
returns-clause-otherwise g c = asks_otherwise g.row.D.Denot g.row.L.Denot g.D.Disk.meaning packed_form
    (asking_lasts packed_form)

pub returns-clause-asking : goal.returns-clause-asking
returns-clause-asking g c = asking_goes_on g.row.D.Denot g.row.L.Denot g.D.Disk.meaning packed_form
    (asking_lasts packed_form)

pub returns-clause-writes : goal.returns-clause-writes
returns-clause-writes g c = page_writes_go_on g.row.D.Denot g.row.L.Denot g.D.Disk.meaning packed_form
    c.histories_go_on.ensures.begins (runs_last g.row.D.Denot g.row.L.Denot g.D.Disk.meaning
    g.met.D.Disk.counts_now g.met.D.Disk.holds packed_form)

pub returns-clause-failed : goal.returns-clause-failed
returns-clause-failed g c = page_writes_fail g.row.D.Denot g.row.L.Denot g.D.Disk.meaning packed_form
    c.histories_go_on.ensures.begins (runs_last g.row.D.Denot g.row.L.Denot g.D.Disk.meaning
    g.met.D.Disk.counts_now g.met.D.Disk.holds packed_form)
    (pool_leaves g.row.D.Denot g.row.L.Denot g.D.Disk.meaning g.met.D.Disk.counts_now packed_form)
