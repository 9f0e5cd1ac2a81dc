use Rattle.mg_pool_overlay_laws.specs.Ties.{changes_are}
use Rattle.mg_pool_overlay_laws.proofs.laws.changes_are.Goals as goal

pub returns : goal.returns
returns g c = changes_are g.row.D.Denot g.row.L.Denot
