use Rattle.std.proofs.Common.{refl}
use Rattle.mg_image.specs.Form.{packed_form}
use Rattle.mg_engine_step_laws.specs.backs.BackLaws.{keys_come_back}
use Rattle.mg_engine_step_laws.specs.backs.GivenUp.{midways_are_given_up}
use Rattle.mg_engine_step_laws.specs.backs.MidwayLaws.{midways_begin, midways_end}
use Rattle.mg_engine_step_laws.specs.backs.OutLaws.{keys_go_out}
use Rattle.mg_engine_step_laws.proofs.backs.changes_are_taken_back.Goals as goal

pub returns-clause-begin : goal.returns-clause-begin
returns-clause-begin g c = midways_begin packed_form g.row.D.Denot g.row.L.Denot g.D.Disk.meaning
    c.entries_go_on.ensures.rollback

pub returns-clause-out : goal.returns-clause-out
returns-clause-out g c = keys_go_out packed_form g.row.D.Denot g.row.L.Denot g.D.Disk.meaning
    c.one_reading.ensures.packed_rows (λ page n is. is) refl c.batches_last.ensures.still

pub returns-clause-back : goal.returns-clause-back
returns-clause-back g c = keys_come_back packed_form g.row.D.Denot g.row.L.Denot g.D.Disk.meaning
    c.one_reading.ensures.packed_rows (λ page n is. is) refl c.batches_last.ensures.still

pub returns-clause-end : goal.returns-clause-end
returns-clause-end g c = midways_end packed_form g.row.D.Denot g.row.L.Denot g.D.Disk.meaning

pub returns-clause-given_up : goal.returns-clause-given_up
returns-clause-given_up g c = midways_are_given_up packed_form g.row.D.Denot g.row.L.Denot g.D.Disk.meaning
