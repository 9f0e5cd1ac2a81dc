use Rattle.mg_engine_change_laws.specs.tables_back.OverOutcomesLaws.{refusals_give_over}
use Rattle.mg_engine_change_laws.proofs.over_tables.outcomes.refusals_give_over.Goals as goal

pub returns : goal.returns
returns g c = refusals_give_over g.D.Disk.meaning c.backs_are_known.ensures c.rows_are_given.ensures.apart
    c.rows_go_on.ensures
