use Rattle.std.proofs.Common.{None, Some, ap, subst, sym}
use Rattle.mg_courses.specs.BesideLaws.{works_stay_at, works_stay_ready}
use Rattle.mg_floor.specs.declared.board.Board.{Board}
use Rattle.mg_floor.specs.Coming.{Comes, IsStage}
use Rattle.mg_floor.specs.ComingLaws.{read_comes, read_ready, stopped_with, with_keeper}
use Rattle.mg_floor.proofs.stage.Stage+R+R+Run.write.Goals as goal

pub returns-in-Ok-clause-comes : goal.returns-in-Ok-clause-comes
returns-in-Ok-clause-comes g c =
    let m = g.R.Records.meaning in
    let runs = g.R.Statements.runs in
    let s = c.args.self.now in
    subst (λ (b : Board). Comes m runs s (with_keeper s c.write_page.new.self b))
    (ap (stopped_with s.board) (sym c.requires.flows))
    (read_comes m runs g.met.R.Records.lasts (works_stay_at m runs g.met.R.Statements.courses)
    (works_stay_ready m runs g.met.R.Statements.stay) s c.write_page.new.self None c.requires.flows c.in-Ok.ensures.reads
    c.in-Ok.ensures.told c.write_page.ensures.undamaged c.write_page.ensures.crash c.write_page.ensures.sessions)

pub returns-in-Ok-clause-ready : goal.returns-in-Ok-clause-ready
returns-in-Ok-clause-ready g c =
    let m = g.R.Records.meaning in
    let runs = g.R.Statements.runs in
    let s = c.args.self.now in
    subst (λ (b : Board). IsStage m runs (with_keeper s c.write_page.new.self b))
    (ap (stopped_with s.board) (sym c.requires.flows))
    (read_ready m runs g.met.R.Records.lasts (works_stay_at m runs g.met.R.Statements.courses)
    (works_stay_ready m runs g.met.R.Statements.stay) s c.write_page.new.self None c.requires.flows c.in-Ok.ensures.reads
    c.in-Ok.ensures.told c.write_page.ensures.undamaged c.write_page.ensures.crash c.write_page.ensures.sessions
    c.requires.stage)

pub returns-in-Err-clause-comes : goal.returns-in-Err-clause-comes
returns-in-Err-clause-comes g c =
    let m = g.R.Records.meaning in
    let runs = g.R.Statements.runs in
    read_comes m runs g.met.R.Records.lasts (works_stay_at m runs g.met.R.Statements.courses)
    (works_stay_ready m runs g.met.R.Statements.stay) c.args.self.now c.write_page.new.self (Some c.in-Err.refusal)
    c.requires.flows c.in-Err.ensures.reads c.in-Err.ensures.told c.write_page.ensures.undamaged
    c.write_page.ensures.crash c.write_page.ensures.sessions

pub returns-in-Err-clause-ready : goal.returns-in-Err-clause-ready
returns-in-Err-clause-ready g c =
    let m = g.R.Records.meaning in
    let runs = g.R.Statements.runs in
    read_ready m runs g.met.R.Records.lasts (works_stay_at m runs g.met.R.Statements.courses)
    (works_stay_ready m runs g.met.R.Statements.stay) c.args.self.now c.write_page.new.self (Some c.in-Err.refusal)
    c.requires.flows c.in-Err.ensures.reads c.in-Err.ensures.told c.write_page.ensures.undamaged
    c.write_page.ensures.crash c.write_page.ensures.sessions c.requires.stage
