use Rattle.mg_engine_demand_laws.specs.TableLaws.{tables_go}
use Rattle.mg_engine_demand_laws.proofs.calls.tables_are_made.Goals as goal

pub returns : goal.returns
returns g c = tables_go g.row.D.Denot g.D.Disk.meaning c.tables_go.ensures.growths c.tables_go.ensures.makings
