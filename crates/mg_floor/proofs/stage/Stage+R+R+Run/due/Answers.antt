use Rattle.mg_floor.specs.ComingLaws.{comes_still}
use Rattle.mg_floor.proofs.stage.Stage+R+R+Run.due.Goals as goal

pub returns-then-session-len-clause-comes : goal.returns-then-session-len-clause-comes
returns-then-session-len-clause-comes g c =
    comes_still g.R.Records.meaning g.R.Statements.runs g.met.R.Records.crashes c.args.self.now
