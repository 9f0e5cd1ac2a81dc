use Rattle.mg_engine_change_laws.specs.faults.FaultCallLaws.{asks_tell, page_writes_tell, steps_tell}
use Rattle.mg_engine_change_laws.proofs.faults.page_writes_tell_faults.Goals as goal

pub returns-clause-asks : goal.returns-clause-asks
returns-clause-asks g c = asks_tell g.D.Disk.meaning

pub returns-clause-steps : goal.returns-clause-steps
returns-clause-steps g c = steps_tell g.D.Disk.meaning

pub returns-clause-pages : goal.returns-clause-pages
returns-clause-pages g c = page_writes_tell g.D.Disk.meaning
