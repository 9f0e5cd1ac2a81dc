use Rattle.mg_image.specs.Form.{packed_form}
use Rattle.mg_tie_laws.specs.Made.{filled_tables_go, filled_tables_keep}
use Rattle.mg_tie_laws.proofs.tables.made_tables_are_kept.Goals as goal

pub returns-clause-pool : goal.returns-clause-pool
returns-clause-pool g c = filled_tables_go packed_form c.one_reading.ensures.packed_rows (λ page n is. is)
    g.row.D.Denot g.row.L.Denot g.D.Disk.meaning

pub returns-clause-alone : goal.returns-clause-alone
returns-clause-alone g c = filled_tables_keep packed_form c.one_reading.ensures.packed_rows (λ page n is. is)
    g.row.D.Denot g.row.L.Denot g.D.Disk.meaning
