use Rattle.mg_floor.proofs.StageLemmas.{comes_by, stage_by, try_turns}
use Rattle.mg_floor.proofs.stage.Stage+R+R+Run.try_again.Goals as goal

pub returns-clause-comes : goal.returns-clause-comes
returns-clause-comes g c =
    let m = g.R.Records.meaning in
    let runs = g.R.Statements.runs in
    comes_by m runs c.args.self.now c.try_once-answered.new.r c.try_once-answered.new.sessions c.settle.new.self c.args.session
    c.try_once-answered.result c.is_busy-busy.result c.is_busy-busy.ensures c.settle.ensures.settles
    c.try_once-answered.ensures.accounts c.requires.flows
    (try_turns m runs c.args.self.now c.try_once-answered.new.r c.try_once-answered.new.sessions c.args.session c.args.place
    c.requires.first c.args.on c.requires.waits c.try_once-answered.result c.try_once-answered.ensures.does)

pub returns-clause-ready : goal.returns-clause-ready
returns-clause-ready g c =
    stage_by g.R.Records.meaning g.R.Statements.runs c.args.self.now c.try_once-answered.new.r c.try_once-answered.new.sessions
    c.settle.new.self c.args.session c.try_once-answered.result c.is_busy-busy.result c.is_busy-busy.ensures
    c.settle.ensures.settles c.try_once-answered.ensures.accounts c.requires.stage c.settle.ensures.board
    c.try_once-answered.ensures.ready
