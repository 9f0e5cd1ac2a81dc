use Rattle.std.proofs.Common.{Bool, None, Some, Ok, Err, refl, subst}
use Rattle.mg_records.specs.TakingBack.{GoesBack}
use Rattle.mg_model.specs.declared.event.Event.TheVariants.{BackTo}
use Rattle.mg_rows.specs.declared.outcome.Outcome.TheVariants as outcomes
use Rattle.mg_rows.specs.declared.statement_fault.StatementFault.TheVariants.{NoSavepoint}
use Rattle.mg_calls.specs.Quiet.{as_it_was}
use Rattle.mg_calls.specs.FrameLaws.{frames_changes}
use Rattle.mg_calls.specs.QuietLaws.{quiet_given_up, quiet_one}
use Rattle.mg_exec.specs.declared.phase.Step.TheVariants.{Done}
use Rattle.mg_exec.proofs.PointLemmas.{ended_leaves, goes_back_quietly, not_back, not_back_at_end, not_back_leaves, not_back_quiet, quiet_nowhere, went_back, went_nowhere}
use Rattle.mg_exec.proofs.ProgressLemmas.{done_at_end, refused_at_end}
use Rattle.mg_exec.proofs.ReadLemmas.{ended_quiet}
use Rattle.mg_exec.proofs.points.go_back.Goals as goal

pub returns-in-Ok-true : goal.returns-in-Ok-true
returns-in-Ok-true g c =
    let quiet = quiet_one g.R.Records.meaning c.args.r.now c.back_to.new.self None None
    c.in-Ok-true.ensures.leaves.keeps
    c.in-Ok-true.ensures.undamaged c.in-Ok-true.ensures.crash c.in-Ok-true.ensures.sessions
    (goes_back_quietly g.R.Records.meaning c.args.r.now c.back_to.new.self c.args.t c.args.name.now
    (subst (λ (found : Bool). GoesBack g.R.Records.meaning c.args.r.now
    c.back_to.new.self c.args.t c.args.name.now (Ok found)) c.in-Ok-true.field-0-test c.in-Ok-true.ensures.goes)) in
    record {
      returns = went_back g.R.Records.meaning c.args.r.now c.back_to.new.self c.args.t c.args.name.now
          c.ended.result c.ended.ensures (subst (λ (found : Bool). GoesBack g.R.Records.meaning c.args.r.now
          c.back_to.new.self c.args.t c.args.name.now (Ok found)) c.in-Ok-true.field-0-test c.in-Ok-true.ensures.goes);
      behind = done_at_end outcomes.Fine c.ended.result c.ended.ensures;
      leaves = ended_leaves g.R.Records.meaning c.args.r.now c.back_to.new.self c.args.t.0
          (Ok (Done outcomes.Fine)) c.ended.result c.ended.ensures
          (frames_changes g.R.Records.meaning c.args.r.now c.back_to.new.self c.args.t.0 None
          c.in-Ok-true.ensures.leaves c.in-Ok-true.ensures.told) quiet;
      quiet = ended_quiet g.R.Records.meaning c.args.r.now c.back_to.new.self c.args.t.0
          (Ok (Done outcomes.Fine)) c.ended.result c.ended.ensures quiet;
    }

pub returns-in-Ok-false : goal.returns-in-Ok-false
returns-in-Ok-false g c =
    let quiet = quiet_one g.R.Records.meaning c.args.r.now c.back_to.new.self None None
    c.in-Ok-false.ensures.leaves.keeps
    c.in-Ok-false.ensures.undamaged c.in-Ok-false.ensures.crash c.in-Ok-false.ensures.sessions
    (λ o h stands. (
      h,
      quiet_nowhere g.R.Records.meaning c.args.r.now c.back_to.new.self c.args.t
          c.args.name.now (subst (λ (found : Bool). GoesBack g.R.Records.meaning c.args.r.now
          c.back_to.new.self c.args.t c.args.name.now (Ok found)) c.in-Ok-false.field-0-test c.in-Ok-false.ensures.goes) o h stands,
      as_it_was,
    )) in
    record {
      returns = went_nowhere g.R.Records.meaning c.args.r.now c.back_to.new.self c.args.t c.args.name.now
          c.ended-in-Ok-false.result c.ended-in-Ok-false.ensures (subst (λ (found : Bool). GoesBack g.R.Records.meaning c.args.r.now
          c.back_to.new.self c.args.t c.args.name.now (Ok found)) c.in-Ok-false.field-0-test c.in-Ok-false.ensures.goes);
      behind = refused_at_end NoSavepoint c.ended-in-Ok-false.result c.ended-in-Ok-false.ensures;
      leaves = ended_leaves g.R.Records.meaning c.args.r.now c.back_to.new.self c.args.t.0
          (Err NoSavepoint) c.ended-in-Ok-false.result c.ended-in-Ok-false.ensures
          (frames_changes g.R.Records.meaning c.args.r.now c.back_to.new.self c.args.t.0 None
          c.in-Ok-false.ensures.leaves c.in-Ok-false.ensures.told) quiet;
      quiet = ended_quiet g.R.Records.meaning c.args.r.now c.back_to.new.self c.args.t.0
          (Err NoSavepoint) c.ended-in-Ok-false.result c.ended-in-Ok-false.ensures quiet;
    }

pub returns-in-Err : goal.returns-in-Err
returns-in-Err g c =
    let quiet = quiet_given_up g.R.Records.meaning c.args.r.now c.back_to.new.self c.args.t
    (BackTo c.args.t c.args.name.now) c.in-Err.refusal (Some c.args.t.0) (Some c.args.t.0) refl
    c.in-Err.ensures.goes c.in-Err.ensures.leaves
    c.in-Err.ensures.undamaged c.in-Err.ensures.crash c.in-Err.ensures.sessions in
    record {
      returns = not_back g.R.Records.meaning c.args.r.now c.back_to.new.self c.args.t c.args.name.now
          c.in-Err.refusal c.not_back.result c.not_back.ensures c.in-Err.ensures.goes;
      behind = not_back_at_end c.in-Err.refusal c.not_back.result c.not_back.ensures;
      leaves = not_back_leaves g.R.Records.meaning c.args.r.now c.back_to.new.self c.args.t.0
          c.in-Err.refusal c.not_back.result c.not_back.ensures
          (frames_changes g.R.Records.meaning c.args.r.now c.back_to.new.self c.args.t.0
          (Some c.in-Err.refusal) c.in-Err.ensures.leaves c.in-Err.ensures.told) quiet;
      quiet = not_back_quiet g.R.Records.meaning c.args.r.now c.back_to.new.self c.args.t.0
          c.in-Err.refusal c.not_back.result c.not_back.ensures quiet;
    }
