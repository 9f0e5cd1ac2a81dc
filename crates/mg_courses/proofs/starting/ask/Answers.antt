use Rattle.std.proofs.Common.{ap, refl, false, None, Some}
use Rattle.mg_model.specs.Answers.{is_active}
use Rattle.mg_model.specs.Machine.{state_of}
use Rattle.mg_transcript.specs.Courses.{Later, Committing}
use Rattle.mg_transcript.specs.Steps.{asks, asks_not, refused}
use Rattle.mg_courses.specs.CarryLaws.{carries_read}
use Rattle.mg_courses.proofs.WorkLemmas.{still_active}
use Rattle.mg_transcript.specs.OutsideLaws.{refused_outside}
use Rattle.mg_courses.proofs.starting.ask.Goals as goal

pub returns-in-Ok-clause-starts : goal.returns-in-Ok-clause-starts
returns-in-Ok-clause-starts g c = λ o h stands active size. record {
  after = h;
  comes = Later (Committing false);
  does = asks;
  stands = c.in-Ok.ensures.reads.stays o h stands;
  told = refl;
  active = ap is_active active;
  carries = carries_read g.R.Records.meaning g.met.R.Records.lasts c.args.r.now c.commit_ask.new.self o h None
      (Some c.args.t.0) stands c.in-Ok.ensures.reads c.in-Ok.ensures.undamaged c.in-Ok.ensures.crash;
}

pub returns-in-Err-clause-starts : goal.returns-in-Err-clause-starts
returns-in-Err-clause-starts g c = λ o h stands active size. record {
  after = h;
  comes = refused c.in-Err.refusal;
  does = asks_not c.in-Err.refusal
      (refused_outside o h c.args.t.0 c.in-Err.refusal active (c.in-Err.ensures.answers o h stands));
  stands = c.in-Err.ensures.reads.stays o h stands;
  told = c.refused.ensures.reply;
  active = still_active (state_of o h c.args.t.0) c.refused.result.over active c.refused.ensures.over;
  carries = carries_read g.R.Records.meaning g.met.R.Records.lasts c.args.r.now c.commit_ask.new.self o h
      (Some c.in-Err.refusal) (Some c.args.t.0) stands c.in-Err.ensures.reads
      c.in-Err.ensures.undamaged c.in-Err.ensures.crash;
}
