use Rattle.mg_engine_change_laws.specs.faults.AskedLaws.{tables_ask, walks_ask}
use Rattle.mg_engine_change_laws.proofs.asked.readings_write_none.Goals as goal

pub returns-clause-tables : goal.returns-clause-tables
returns-clause-tables g c = tables_ask g.D.Disk.meaning

pub returns-clause-walks : goal.returns-clause-walks
returns-clause-walks g c = walks_ask g.D.Disk.meaning
