use Rattle.mg_engine_change_laws.specs.faults.AskedLaws.{asking_asks, page_writes_ask, steps_ask}
use Rattle.mg_engine_change_laws.proofs.asked.page_writes_ask_one.Goals as goal

pub returns-clause-asking : goal.returns-clause-asking
returns-clause-asking g c = asking_asks g.D.Disk.meaning

pub returns-clause-steps : goal.returns-clause-steps
returns-clause-steps g c = steps_ask g.D.Disk.meaning

pub returns-clause-pages : goal.returns-clause-pages
returns-clause-pages g c = page_writes_ask g.D.Disk.meaning
