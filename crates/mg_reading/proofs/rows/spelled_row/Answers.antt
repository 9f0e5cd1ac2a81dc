use Rattle.mg_reading.proofs.rows.spelled_row.Goals as goal

pub returns-in-Plain : goal.returns-in-Plain
returns-in-Plain c = rw c.in-Plain.is c.plain_row.ensures

pub returns-in-Packed : goal.returns-in-Packed
returns-in-Packed c = rw c.in-Packed.is c.packed_row.ensures
