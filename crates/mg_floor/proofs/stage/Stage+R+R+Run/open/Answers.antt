use Rattle.mg_floor.proofs.StartLemmas.{open_ready, open_stands}
use Rattle.mg_floor.proofs.stage.Stage+R+R+Run.open.Goals as goal

pub returns-clause-ready : goal.returns-clause-ready
returns-clause-ready g c =
    open_ready g.R.Records.meaning g.R.Statements.runs
    (record { keeper = c.args.keeper; size = c.args.size; sessions = c.args.sessions; board = c.args.board })
    c.requires.transactions c.requires.pending c.requires.free c.requires.size c.requires.board.0 c.requires.board.2
    c.requires.few

pub returns-clause-stands : goal.returns-clause-stands
returns-clause-stands g c = λ o stands none.
    open_stands g.R.Records.meaning g.R.Statements.runs
    (record { keeper = c.args.keeper; size = c.args.size; sessions = c.args.sessions; board = c.args.board })
    c.requires.transactions c.requires.pending c.requires.board.1 o stands none
