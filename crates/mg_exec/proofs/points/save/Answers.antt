use Rattle.std.proofs.Common.{None, Some, Ok, Err, refl}
use Rattle.mg_model.specs.declared.answer.Answer.TheVariants.{Fine, No}
use Rattle.mg_model.specs.declared.event.Event.TheVariants.{Savepoint}
use Rattle.mg_rows.specs.declared.outcome.Outcome.TheVariants as outcomes
use Rattle.mg_rows.specs.declared.statement_fault.StatementFault.TheVariants.{Engine}
use Rattle.mg_calls.specs.FrameLaws.{frames_leaves}
use Rattle.mg_calls.specs.QuietLaws.{quiet_event}
use Rattle.mg_exec.specs.declared.phase.Step.TheVariants.{Done}
use Rattle.mg_exec.proofs.PointLemmas.{ended_leaves, not_saved, saved}
use Rattle.mg_exec.proofs.ProgressLemmas.{done_at_end, refused_at_end}
use Rattle.mg_exec.proofs.ReadLemmas.{ended_quiet}
use Rattle.mg_exec.proofs.points.save.Goals as goal

pub returns-in-Ok : goal.returns-in-Ok
returns-in-Ok g c =
    let quiet = quiet_event g.R.Records.meaning c.args.r.now c.savepoint.new.self
    (Savepoint c.args.t c.args.name.now) Fine None None None refl c.in-Ok.ensures.adds
    c.in-Ok.ensures.leaves c.in-Ok.ensures.undamaged c.in-Ok.ensures.crash c.in-Ok.ensures.sessions in
    record {
      saves = saved g.R.Records.meaning c.args.r.now c.savepoint.new.self c.args.t c.args.name.now
          c.ended.result c.ended.ensures c.in-Ok.ensures.adds;
      behind = done_at_end outcomes.Fine c.ended.result c.ended.ensures;
      leaves = ended_leaves g.R.Records.meaning c.args.r.now c.savepoint.new.self c.args.t.0
          (Ok (Done outcomes.Fine)) c.ended.result c.ended.ensures
          (frames_leaves g.R.Records.meaning c.args.r.now c.savepoint.new.self c.args.t.0 None
          c.in-Ok.ensures.leaves c.in-Ok.ensures.told) quiet;
      quiet = ended_quiet g.R.Records.meaning c.args.r.now c.savepoint.new.self c.args.t.0
          (Ok (Done outcomes.Fine)) c.ended.result c.ended.ensures quiet;
    }

pub returns-in-Err : goal.returns-in-Err
returns-in-Err g c =
    let quiet = quiet_event g.R.Records.meaning c.args.r.now c.savepoint.new.self
    (Savepoint c.args.t c.args.name.now) (No c.in-Err.refusal) (Some c.in-Err.refusal) None None refl
    c.in-Err.ensures.adds c.in-Err.ensures.leaves
    c.in-Err.ensures.undamaged c.in-Err.ensures.crash c.in-Err.ensures.sessions in
    record {
      saves = not_saved g.R.Records.meaning c.args.r.now c.savepoint.new.self c.args.t c.args.name.now
          c.in-Err.refusal c.refused.result c.refused.ensures c.in-Err.ensures.adds;
      behind = refused_at_end (Engine c.in-Err.refusal) c.refused.result c.refused.ensures;
      leaves = ended_leaves g.R.Records.meaning c.args.r.now c.savepoint.new.self c.args.t.0
          (Err (Engine c.in-Err.refusal)) c.refused.result c.refused.ensures
          (frames_leaves g.R.Records.meaning c.args.r.now c.savepoint.new.self c.args.t.0
          (Some c.in-Err.refusal) c.in-Err.ensures.leaves c.in-Err.ensures.told) quiet;
      quiet = ended_quiet g.R.Records.meaning c.args.r.now c.savepoint.new.self c.args.t.0
          (Err (Engine c.in-Err.refusal)) c.refused.result c.refused.ensures quiet;
    }
