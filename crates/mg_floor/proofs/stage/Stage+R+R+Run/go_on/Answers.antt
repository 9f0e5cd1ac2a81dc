use Rattle.mg_floor.specs.ComingLaws.{comes_still}
use Rattle.mg_floor.proofs.stage.Stage+R+R+Run.go_on.Goals as goal

pub returns-then-polls-lt-MOST_POLLS-clause-comes : goal.returns-then-polls-lt-MOST_POLLS-clause-comes
returns-then-polls-lt-MOST_POLLS-clause-comes g c =
    comes_still g.R.Records.meaning g.R.Statements.runs g.met.R.Records.crashes c.args.self.now
