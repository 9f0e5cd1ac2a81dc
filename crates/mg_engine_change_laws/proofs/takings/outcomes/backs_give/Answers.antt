use Rattle.mg_engine_change_laws.specs.backs.StepsLaws as laws
use Rattle.mg_engine_change_laws.proofs.takings.outcomes.backs_give.Goals as goal

pub returns-clause-marks : goal.returns-clause-marks
returns-clause-marks g c = laws.marks_give g.D.Disk.meaning c.backs_are_known.ensures

pub returns-clause-savepoints : goal.returns-clause-savepoints
returns-clause-savepoints g c = laws.savepoints_give g.D.Disk.meaning c.backs_are_known.ensures
