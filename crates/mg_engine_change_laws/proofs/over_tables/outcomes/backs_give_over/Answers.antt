use Rattle.mg_engine_change_laws.specs.tables_back.OverOutcomesLaws.{marks_give_over, savepoints_give_over}
use Rattle.mg_engine_change_laws.proofs.over_tables.outcomes.backs_give_over.Goals as goal

pub returns-clause-marks : goal.returns-clause-marks
returns-clause-marks g c = marks_give_over g.D.Disk.meaning c.backs_are_known.ensures c.refusals_give_over.ensures
    c.engines_go_over.ensures.stands c.engines_go_over.ensures.walks

pub returns-clause-savepoints : goal.returns-clause-savepoints
returns-clause-savepoints g c = savepoints_give_over g.D.Disk.meaning c.backs_are_known.ensures
    c.refusals_give_over.ensures c.engines_go_over.ensures.stands c.engines_go_over.ensures.walks
