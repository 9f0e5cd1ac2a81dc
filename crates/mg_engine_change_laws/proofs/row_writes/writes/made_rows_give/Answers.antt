use Rattle.mg_engine_change_laws.specs.rows.MadeLaws as laws
use Rattle.mg_engine_change_laws.proofs.row_writes.writes.made_rows_give.Goals as goal

pub returns : goal.returns
returns g c = λ places old new t table write. laws.made_rows_give g.D.Disk.meaning g.met.D.Disk.counts_now
    c.rows_go_on.ensures.pushed c.rows_go_on.ensures.replaced c.new_rows_go_on.ensures
    c.over_dead_rows_go_on.ensures places old new t table write
