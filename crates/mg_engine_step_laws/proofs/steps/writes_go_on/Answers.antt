use Rattle.mg_image.specs.Form.{packed_form}
use Rattle.mg_lasting_laws.specs.ChangingLaws.{changes_last, quiet_holds}
use Rattle.mg_engine_step_laws.specs.writes.BatchLaws.{batches_last, rows_last}
use Rattle.mg_engine_step_laws.specs.writes.GoesOnLaws.{writes_go_on}
use Rattle.mg_engine_step_laws.proofs.steps.writes_go_on.Goals as goal

pub returns : goal.returns
returns g c = writes_go_on g.row.D.Denot g.row.L.Denot g.D.Disk.meaning packed_form
    c.histories_go_on.ensures.begins
    (rows_last g.row.D.Denot g.row.L.Denot g.D.Disk.meaning packed_form
    (batches_last g.row.D.Denot g.row.L.Denot g.D.Disk.meaning packed_form
    (changes_last g.row.D.Denot g.row.L.Denot g.D.Disk.meaning g.met.D.Disk.counts_now g.met.D.Disk.holds
    packed_form)) (quiet_holds packed_form)) c.writes_stand.ensures.engine
