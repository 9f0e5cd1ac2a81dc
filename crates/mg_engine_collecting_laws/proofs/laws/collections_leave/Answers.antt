use Rattle.mg_engine_collecting_laws.specs.PlaceLeaves.{collections_leave}
use Rattle.mg_engine_collecting_laws.proofs.laws.collections_leave.Goals as goal

pub returns : goal.returns
returns g c = collections_leave c.tables_of_layouts_are_walked.ensures g.row.D.Denot g.row.P.Denot g.D.Disk.meaning
    g.met.D.Disk.holds
