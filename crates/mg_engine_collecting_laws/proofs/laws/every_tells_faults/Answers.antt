use Rattle.mg_engine_collecting_laws.specs.EveryTells.{every_tells}
use Rattle.mg_engine_collecting_laws.proofs.laws.every_tells_faults.Goals as goal

pub returns : goal.returns
returns g c = every_tells g.row.D.Denot g.D.Disk.meaning
