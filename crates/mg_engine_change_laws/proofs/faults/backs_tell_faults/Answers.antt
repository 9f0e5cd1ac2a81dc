use Rattle.mg_engine_change_laws.specs.faults.FaultCallLaws.{marks_tell, savepoints_tell, table_marks_tell, table_savepoints_tell}
use Rattle.mg_engine_change_laws.proofs.faults.backs_tell_faults.Goals as goal

pub returns-clause-marks : goal.returns-clause-marks
returns-clause-marks g c = marks_tell g.D.Disk.meaning

pub returns-clause-savepoints : goal.returns-clause-savepoints
returns-clause-savepoints g c = savepoints_tell g.D.Disk.meaning

pub returns-clause-table_marks : goal.returns-clause-table_marks
returns-clause-table_marks g c = table_marks_tell g.D.Disk.meaning

pub returns-clause-table_savepoints : goal.returns-clause-table_savepoints
returns-clause-table_savepoints g c = table_savepoints_tell g.D.Disk.meaning
