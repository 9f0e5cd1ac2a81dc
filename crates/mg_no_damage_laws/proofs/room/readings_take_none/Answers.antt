use Rattle.mg_no_damage_laws.specs.EventRoom.{tables, visits}
use Rattle.mg_no_damage_laws.proofs.room.readings_take_none.Goals as goal

pub returns-clause-tables : goal.returns-clause-tables
returns-clause-tables g c = tables g.D.Disk.meaning

pub returns-clause-visits : goal.returns-clause-visits
returns-clause-visits g c = visits g.D.Disk.meaning
