use Rattle.mg_pool_overlay_laws.specs.Ties.{runs_are}
use Rattle.mg_pool_overlay_laws.proofs.laws.page_writes_are.Goals as goal

pub returns : goal.returns
returns g c = runs_are g.row.D.Denot g.row.L.Denot g.D.Disk.meaning
