use Rattle.mg_image.specs.Form.{packed_form}
use Rattle.mg_lasting_laws.specs.ChangingLaws.{changes_last, quiet_holds}
use Rattle.mg_engine_step_laws.specs.writes.BatchLaws.{batches_last, pool_bits_are, reads_last, rows_last, rows_last_still}
use Rattle.mg_engine_step_laws.specs.writes.GoesOnLaws.{pool_is_kept}
use Rattle.mg_engine_step_laws.proofs.steps.batches_last.Goals as goal

pub returns-clause-bits : goal.returns-clause-bits
returns-clause-bits g c = pool_bits_are packed_form

pub returns-clause-pool : goal.returns-clause-pool
returns-clause-pool g c = pool_is_kept packed_form g.row.D.Denot g.row.L.Denot

pub returns-clause-reads : goal.returns-clause-reads
returns-clause-reads g c = reads_last g.row.D.Denot g.row.L.Denot g.D.Disk.meaning packed_form

pub returns-clause-batches : goal.returns-clause-batches
returns-clause-batches g c = batches_last g.row.D.Denot g.row.L.Denot g.D.Disk.meaning packed_form
    (changes_last g.row.D.Denot g.row.L.Denot g.D.Disk.meaning g.met.D.Disk.counts_now g.met.D.Disk.holds
    packed_form)

pub returns-clause-rows : goal.returns-clause-rows
returns-clause-rows g c = rows_last g.row.D.Denot g.row.L.Denot g.D.Disk.meaning packed_form
    (batches_last g.row.D.Denot g.row.L.Denot g.D.Disk.meaning packed_form
    (changes_last g.row.D.Denot g.row.L.Denot g.D.Disk.meaning g.met.D.Disk.counts_now g.met.D.Disk.holds
    packed_form)) (quiet_holds packed_form)

pub returns-clause-still : goal.returns-clause-still
returns-clause-still g c = rows_last_still g.row.D.Denot g.row.L.Denot g.D.Disk.meaning packed_form
    (batches_last g.row.D.Denot g.row.L.Denot g.D.Disk.meaning packed_form
    (changes_last g.row.D.Denot g.row.L.Denot g.D.Disk.meaning g.met.D.Disk.counts_now g.met.D.Disk.holds
    packed_form))
