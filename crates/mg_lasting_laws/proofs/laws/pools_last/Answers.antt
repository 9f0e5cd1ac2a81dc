use Rattle.mg_image.specs.Form.{packed_form}
use Rattle.mg_lasting_laws.specs.ChangingLaws.{changes_last}
use Rattle.mg_lasting_laws.specs.PoolLaws.{pool_leaves, runs_last}
use Rattle.mg_lasting_laws.specs.SettlingLaws.{settling_lasts}
use Rattle.mg_lasting_laws.proofs.laws.pools_last.Goals as goal

pub returns-clause-leaves : goal.returns-clause-leaves
returns-clause-leaves g c = pool_leaves g.row.D.Denot g.row.L.Denot g.D.Disk.meaning
    g.met.D.Disk.counts_now packed_form

pub returns-clause-writes : goal.returns-clause-writes
returns-clause-writes g c = runs_last g.row.D.Denot g.row.L.Denot g.D.Disk.meaning
    g.met.D.Disk.counts_now g.met.D.Disk.holds packed_form

pub returns-clause-settles : goal.returns-clause-settles
returns-clause-settles g c = settling_lasts g.row.D.Denot g.row.L.Denot g.D.Disk.meaning
    g.met.D.Disk.counts_now g.met.D.Disk.holds packed_form

pub returns-clause-changes : goal.returns-clause-changes
returns-clause-changes g c = changes_last g.row.D.Denot g.row.L.Denot g.D.Disk.meaning
    g.met.D.Disk.counts_now g.met.D.Disk.holds packed_form
