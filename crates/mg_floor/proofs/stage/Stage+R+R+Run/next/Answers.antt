use Rattle.mg_floor.specs.ComingLaws.{comes_still}
use Rattle.mg_floor.proofs.stage.Stage+R+R+Run.next.Goals as goal

pub returns-in-Some-clause-comes : goal.returns-in-Some-clause-comes
returns-in-Some-clause-comes g c =
    comes_still g.R.Records.meaning g.R.Statements.runs g.met.R.Records.crashes c.args.self.now
