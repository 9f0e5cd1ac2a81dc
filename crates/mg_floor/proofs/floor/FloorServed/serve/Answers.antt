use Rattle.mg_floor.specs.ComingLaws.{comes_still}
use Rattle.mg_floor.proofs.floor.FloorServed.serve.Goals as goal

pub returns-in-Collect : goal.returns-in-Collect
returns-in-Collect g c =
    comes_still g.R.Records.meaning g.R.Statements.runs g.met.R.Records.crashes c.args.self.now
