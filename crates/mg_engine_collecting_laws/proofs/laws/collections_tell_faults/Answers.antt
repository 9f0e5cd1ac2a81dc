use Rattle.mg_engine_collecting_laws.specs.PlaceTells.{collections_tell}
use Rattle.mg_engine_collecting_laws.proofs.laws.collections_tell_faults.Goals as goal

pub returns : goal.returns
returns g c = collections_tell g.row.D.Denot g.D.Disk.meaning
