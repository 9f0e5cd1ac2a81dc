use Rattle.mg_engine_change_laws.specs.faults.FaultCallLaws.{tables_tell, walks_tell}
use Rattle.mg_engine_change_laws.proofs.faults.readings_tell_faults.Goals as goal

pub returns-clause-tables : goal.returns-clause-tables
returns-clause-tables g c = tables_tell g.D.Disk.meaning

pub returns-clause-walks : goal.returns-clause-walks
returns-clause-walks g c = walks_tell g.D.Disk.meaning
