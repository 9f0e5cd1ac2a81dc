use Rattle.mg_engine_change_laws.specs.rows.ApartLaws as laws
use Rattle.mg_engine_change_laws.proofs.row_writes.outcomes.noted_writes_keep_apart.Goals as goal

pub returns-clause-writes : goal.returns-clause-writes
returns-clause-writes g c = laws.noted_writes_apart g.D.Disk.meaning g.met.D.Disk.counts_now
    c.noted_tables_are_quiet.ensures.works c.noted_tables_are_quiet.ensures.stands

pub returns-clause-fails : goal.returns-clause-fails
returns-clause-fails g c = laws.noted_fails_apart g.D.Disk.meaning c.noted_tables_are_quiet.ensures.works
    c.noted_tables_are_quiet.ensures.kept c.noted_tables_are_quiet.ensures.stands c.refusals_go_on.ensures c.not_laid_give.ensures
