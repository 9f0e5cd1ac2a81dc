use Rattle.mg_floor.specs.ComingLaws.{comes_still, stop_comes, stop_ready}
use Rattle.mg_floor.proofs.stage.Stage+R+R+Run.stop_short.Goals as goal

pub returns-in-Some-clause-comes : goal.returns-in-Some-clause-comes
returns-in-Some-clause-comes g c =
    comes_still g.R.Records.meaning g.R.Statements.runs g.met.R.Records.crashes c.args.self.now

pub returns-in-None-clause-comes : goal.returns-in-None-clause-comes
returns-in-None-clause-comes g c =
    stop_comes g.R.Records.meaning g.R.Statements.runs g.met.R.Records.crashes c.args.self.now c.in-None.is

pub returns-in-None-clause-ready : goal.returns-in-None-clause-ready
returns-in-None-clause-ready g c =
    stop_ready g.R.Records.meaning g.R.Statements.runs c.args.self.now c.requires
