use Rattle.mg_engine_meaning_laws.specs.TableLaws.{gives_table}
use Rattle.mg_engine_meaning_laws.proofs.calls.tables_go_on.Goals as goal

pub returns : goal.returns
returns g c = λ places old new t name result core counts answers. gives_table g.D.Disk.meaning places
    c.reads_go_on.ensures (c.engines_keep.ensures places) c.histories_go_on.ensures.begins
    c.tables_are_answered.ensures c.found_tables_stand.ensures old t name core counts new result answers
