use Rattle.std.proofs.Common.{List, ℕ, sym, ap, ◌∙◌}
use Rattle.std.specs.Option.{option_copied}
use Rattle.mg_script.specs.declared.line.LineKind.TheVariants.{Sql}
use Rattle.mg_interleavings.specs.declared.answered.Answered.TheVariants.{Replied}
use Rattle.mg_floor.specs.ComingLaws.{comes_still}
use Rattle.mg_floor.proofs.StageLemmas.{comes_by, line_passed, stage_by, take_turns}
use Rattle.mg_floor.proofs.stage.Stage+R+R+Run.take_line.Goals as goal

pub returns-in_default-clause-comes : goal.returns-in_default-clause-comes
returns-in_default-clause-comes g c =
    comes_still g.R.Records.meaning g.R.Statements.runs g.met.R.Records.crashes c.args.self.now

pub returns-in_default-kind-clause-comes : goal.returns-in_default-kind-clause-comes
returns-in_default-kind-clause-comes g c =
    comes_still g.R.Records.meaning g.R.Statements.runs g.met.R.Records.crashes c.args.self.now

pub returns-in-Silent-clause-comes : goal.returns-in-Silent-clause-comes
returns-in-Silent-clause-comes g c =
    line_passed g.R.Records.meaning g.R.Statements.runs c.args.self.now c.args.session c.requires.free c.in-Some.line.now
    (sym c.line_at.ensures ∙ ap option_copied c.in-Some.is) c.in-Silent.is g.met.R.Records.crashes c.pass.new.self c.pass.ensures.passes c.requires.flows

pub returns-in-Sql-clause-comes : goal.returns-in-Sql-clause-comes
returns-in-Sql-clause-comes g c =
    let m = g.R.Records.meaning in
    let runs = g.R.Statements.runs in
    comes_by m runs c.args.self.now c.take_up-reply.new.r c.take_up-reply.new.sessions c.settle.new.self c.args.session
    (Replied c.take_up-reply.result) c.is_busy-busy.result c.is_busy-busy.ensures c.settle.ensures.settles
    c.take_up-reply.ensures.accounts c.requires.flows
    (take_turns m runs c.args.self.now c.args.session c.requires.free c.in-Some.line.now (sym c.line_at.ensures ∙ ap option_copied c.in-Some.is)
    c.requires.stage.own c.in-Sql.session c.as_slice.result.now
    (c.in-Sql.is ∙ ap (λ (bytes : List ℕ). Sql c.in-Sql.session bytes) (sym c.as_slice.ensures)) c.take_up-reply.new.r c.take_up-reply.new.sessions
    c.take_up-reply.result c.take_up-reply.ensures.does)

pub returns-in-Sql-clause-ready : goal.returns-in-Sql-clause-ready
returns-in-Sql-clause-ready g c =
    stage_by g.R.Records.meaning g.R.Statements.runs c.args.self.now c.take_up-reply.new.r c.take_up-reply.new.sessions
    c.settle.new.self c.args.session (Replied c.take_up-reply.result) c.is_busy-busy.result c.is_busy-busy.ensures
    c.settle.ensures.settles c.take_up-reply.ensures.accounts c.requires.stage c.settle.ensures.board
    c.take_up-reply.ensures.ready
