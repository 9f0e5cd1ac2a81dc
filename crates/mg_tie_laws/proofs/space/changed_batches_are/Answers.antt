use Rattle.mg_tie_laws.specs.Changed.{changed_batches_are}
use Rattle.mg_tie_laws.proofs.space.changed_batches_are.Goals as goal

pub returns : goal.returns
returns g c = changed_batches_are g.row.D.Denot g.row.L.Denot g.D.Disk.meaning
