use Rattle.mg_engine_step_laws.specs.tables_back.TablesBackLaws.{tables_are_taken, tables_go_back}
use Rattle.mg_engine_step_laws.proofs.shown.tables_go_back.Goals as goal

pub returns-clause-back : goal.returns-clause-back
returns-clause-back g c = tables_go_back g.row.D.Denot g.row.L.Denot g.D.Disk.meaning c.one_reading.ensures.packed_rows
    (λ page n is. is) c.left_tables_are_shown.ensures c.taken_tables_are_there.ensures
    c.changed_tables_are_there.ensures.gone c.rows_go_on.ensures

pub returns-clause-taken : goal.returns-clause-taken
returns-clause-taken g c = tables_are_taken g.row.D.Denot g.row.L.Denot g.D.Disk.meaning
    c.one_reading.ensures.packed_rows (λ page n is. is) c.left_tables_are_shown.ensures
    c.taken_tables_are_there.ensures c.changed_tables_are_there.ensures.gone c.rows_go_on.ensures
