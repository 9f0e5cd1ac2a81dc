use Rattle.mg_engine_meaning_laws.specs.LookLaws.{looks_give}
use Rattle.mg_engine_meaning_laws.proofs.calls.looks_go_on.Goals as goal

pub returns : goal.returns
returns g c = λ places old new t result looks. looks_give g.D.Disk.meaning places c.entries_go_on.ensures.idle
    c.standings_go_on.ensures c.crashes_hold.ensures.quiet c.histories_go_on.ensures.begins
    c.bases_have_tables.ensures.look c.tables_are_found.ensures.look c.catalogs_grow.ensures.within
    c.databases_are_lawful.ensures old new t result looks
