use Rattle.mg_engine_demand_laws.specs.MakingLaws.{growths_go, makings_go}
use Rattle.mg_engine_demand_laws.proofs.runs.tables_go.Goals as goal

pub returns-clause-growths : goal.returns-clause-growths
returns-clause-growths g c = growths_go g.row.D.Denot g.D.Disk.meaning

pub returns-clause-makings : goal.returns-clause-makings
returns-clause-makings g c = makings_go g.row.D.Denot g.D.Disk.meaning
