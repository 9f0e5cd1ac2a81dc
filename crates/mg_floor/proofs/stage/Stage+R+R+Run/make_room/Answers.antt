use Rattle.std.proofs.Common.{◌<◌, length, ◌∙◌, subst, sym}
use Rattle.mg_interleavings.specs.Standings.{Scripts}
use Rattle.mg_floor.specs.ComingLaws.{board_stays, comes_on, stage_stays, with_board}
use Rattle.mg_floor.proofs.stage.Stage+R+R+Run.make_room.Goals as goal

pub step-requires-clause-stage : goal.step-requires-clause-stage
step-requires-clause-stage g c =
    stage_stays g.R.Records.meaning g.R.Statements.runs c.args.self.now c.reserve.new.self c.reserve.ensures.stays
    c.reserve.ensures.board c.requires.stage

pub step-requires-clause-flows : goal.step-requires-clause-flows
step-requires-clause-flows g c = c.reserve.ensures.stays.stopped ∙ c.requires.flows

pub step-requires-clause-inside : goal.step-requires-clause-inside
step-requires-clause-inside g c =
    subst (λ (scripts : Scripts). c.args.session.0 < length scripts) (sym c.reserve.ensures.stays.scripts) c.requires.inside

pub stop_short-requires : goal.stop_short-requires
stop_short-requires g c =
    stage_stays g.R.Records.meaning g.R.Statements.runs c.args.self.now c.reserve.new.self c.reserve.ensures.stays
    c.reserve.ensures.board c.requires.stage

pub returns-in-Ok-clause-comes : goal.returns-in-Ok-clause-comes
returns-in-Ok-clause-comes g c =
    let m = g.R.Records.meaning in
    let runs = g.R.Statements.runs in
    comes_on m runs g.met.R.Records.lasts c.args.self.now (with_board c.args.self.now c.reserve.new.self) c.step.new.self
    (board_stays m runs g.met.R.Records.crashes c.args.self.now c.reserve.new.self c.reserve.ensures.stays)
    c.step.ensures.comes

pub returns-in-Err-clause-comes : goal.returns-in-Err-clause-comes
returns-in-Err-clause-comes g c =
    let m = g.R.Records.meaning in
    let runs = g.R.Statements.runs in
    comes_on m runs g.met.R.Records.lasts c.args.self.now (with_board c.args.self.now c.reserve.new.self)
    c.stop_short.new.self
    (board_stays m runs g.met.R.Records.crashes c.args.self.now c.reserve.new.self c.reserve.ensures.stays)
    c.stop_short.ensures.comes
