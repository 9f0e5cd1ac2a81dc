use Rattle.mg_engine_change_laws.specs.rows.NotedLaws as laws
use Rattle.mg_engine_change_laws.proofs.row_writes.outcomes.noted_writes_give.Goals as goal

pub returns-clause-writes : goal.returns-clause-writes
returns-clause-writes g c = laws.noted_writes_give g.D.Disk.meaning c.noted_tables_are_quiet.ensures.works
    c.noted_tables_are_quiet.ensures.kept c.noted_tables_are_quiet.ensures.stands c.made_rows_give.ensures

pub returns-clause-fails : goal.returns-clause-fails
returns-clause-fails g c = laws.noted_fails_give g.D.Disk.meaning c.noted_tables_are_quiet.ensures.works
    c.noted_tables_are_quiet.ensures.kept c.noted_tables_are_quiet.ensures.stands c.entries_go_on.ensures.idle c.standings_go_on.ensures
    c.crashes_hold.ensures.quiet c.refusals_go_on.ensures c.not_laid_give.ensures
