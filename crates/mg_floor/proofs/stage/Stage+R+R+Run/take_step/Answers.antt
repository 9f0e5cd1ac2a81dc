use Rattle.mg_interleavings.specs.declared.answered.Answered.TheVariants.{Replied}
use Rattle.mg_floor.proofs.StageLemmas.{comes_by, stage_by, step_turns}
use Rattle.mg_floor.proofs.stage.Stage+R+R+Run.take_step.Goals as goal

pub returns-clause-comes : goal.returns-clause-comes
returns-clause-comes g c =
    let m = g.R.Records.meaning in
    let runs = g.R.Statements.runs in
    comes_by m runs c.args.self.now c.step_at-reply.new.r c.step_at-reply.new.sessions c.settle.new.self c.args.session
    (Replied c.step_at-reply.result) c.is_busy-busy.result c.is_busy-busy.ensures c.settle.ensures.settles
    c.step_at-reply.ensures.accounts c.requires.flows
    (step_turns m runs c.args.self.now c.step_at-reply.new.r c.step_at-reply.new.sessions c.args.session c.args.place
    c.requires.first c.requires.released c.step_at-reply.result c.step_at-reply.ensures.does)

pub returns-clause-ready : goal.returns-clause-ready
returns-clause-ready g c =
    stage_by g.R.Records.meaning g.R.Statements.runs c.args.self.now c.step_at-reply.new.r c.step_at-reply.new.sessions
    c.settle.new.self c.args.session (Replied c.step_at-reply.result) c.is_busy-busy.result c.is_busy-busy.ensures
    c.settle.ensures.settles c.step_at-reply.ensures.accounts c.requires.stage c.settle.ensures.board
    c.step_at-reply.ensures.ready
