use Rattle.std.proofs.Common.{ap, refl, ◌∷◌, None, Some, Ok, Err}
use Rattle.mg_base.specs.declared.transaction.TxState.TheVariants.{Committed}
use Rattle.mg_model.specs.declared.answer.Answer.TheVariants.{Fine, No}
use Rattle.mg_model.specs.declared.event.Event.TheVariants.{Commit}
use Rattle.mg_model.specs.Answers.{is_active}
use Rattle.mg_model.specs.History.{entry}
use Rattle.mg_model.specs.Machine.{state_of}
use Rattle.mg_transcript.specs.Courses.{Later, Ends, Committing}
use Rattle.mg_transcript.specs.Steps.{refused, reply_to, commits, writes_page, writes_no_page}
use Rattle.mg_courses.specs.CarryLaws.{carries_lasting, carries_read}
use Rattle.mg_courses.proofs.WorkLemmas.{still_active, ended_over}
use Rattle.mg_transcript.specs.OutsideLaws.{refused_outside}
use Rattle.mg_courses.proofs.work.step_commit.Goals as goal

pub returns-in-Ok-clause-steps : goal.returns-in-Ok-clause-steps
returns-in-Ok-clause-steps g c = λ o h stands active.
    let made = c.in-Ok.ensures.adds o h stands in
    record {
      after = entry (Commit c.args.t) Fine ∷ h;
      comes = Ends (reply_to Fine);
      does = rw c.if-written.true (commits Fine made.0);
      stands = made.1;
      told = c.over.ensures.reply;
      active = ended_over c.args.t.0 (state_of o h c.args.t.0) Committed c.over.result.over refl
          c.over.ensures.over;
      carries = carries_lasting g.R.Records.meaning g.met.R.Records.lasts c.args.r.now c.commit_end.new.self o h
          (Commit c.args.t) (Ok tt) stands c.in-Ok.ensures.leaves.keeps
          c.in-Ok.ensures.undamaged c.in-Ok.ensures.crash;
    }

pub returns-in-Err-clause-steps : goal.returns-in-Err-clause-steps
returns-in-Err-clause-steps g c = λ o h stands active.
    let made = c.in-Err.ensures.adds o h stands in
    record {
      after = entry (Commit c.args.t) (No c.in-Err.refusal) ∷ h;
      comes = refused c.in-Err.refusal;
      does = rw c.if-written.true (commits (No c.in-Err.refusal) made.0);
      stands = made.1;
      told = c.refused.ensures.reply;
      active = still_active (state_of o h c.args.t.0) c.refused.result.over active c.refused.ensures.over;
      carries = carries_lasting g.R.Records.meaning g.met.R.Records.lasts c.args.r.now c.commit_end.new.self o h
          (Commit c.args.t) (Err c.in-Err.refusal) stands c.in-Err.ensures.leaves.keeps
          c.in-Err.ensures.undamaged c.in-Err.ensures.crash;
    }

pub returns-in-Ok-commit_step-clause-steps : goal.returns-in-Ok-commit_step-clause-steps
returns-in-Ok-commit_step-clause-steps g c = λ o h stands active. record {
  after = h;
  comes = Later (Committing c.in-Ok-commit_step.all);
  does = rw c.if-written.false (writes_page c.in-Ok-commit_step.all);
  stands = c.in-Ok-commit_step.ensures.reads.stays o h stands;
  told = refl;
  active = ap is_active active;
  carries = carries_read g.R.Records.meaning g.met.R.Records.lasts c.args.r.now c.commit_step.new.self o h None
      None stands c.in-Ok-commit_step.ensures.reads
      c.in-Ok-commit_step.ensures.undamaged c.in-Ok-commit_step.ensures.crash;
}

pub returns-in-Err-commit_step-clause-steps : goal.returns-in-Err-commit_step-clause-steps
returns-in-Err-commit_step-clause-steps g c = λ o h stands active. record {
  after = h;
  comes = refused c.in-Err-commit_step.refusal;
  does = rw c.if-written.false (writes_no_page c.in-Err-commit_step.refusal
      (refused_outside o h c.args.t.0 c.in-Err-commit_step.refusal active
      (c.in-Err-commit_step.ensures.answers o h stands)));
  stands = c.in-Err-commit_step.ensures.reads.stays o h stands;
  told = c.refused-in-Err-commit_step.ensures.reply;
  active = still_active (state_of o h c.args.t.0) c.refused-in-Err-commit_step.result.over active
      c.refused-in-Err-commit_step.ensures.over;
  carries = carries_read g.R.Records.meaning g.met.R.Records.lasts c.args.r.now c.commit_step.new.self o h
      (Some c.in-Err-commit_step.refusal) None stands c.in-Err-commit_step.ensures.reads
      c.in-Err-commit_step.ensures.undamaged c.in-Err-commit_step.ensures.crash;
}
