use Rattle.std.proofs.Common.{refl, ◌∷◌, None, Some}
use Rattle.mg_base.specs.declared.transaction.TxState.TheVariants.{Dead}
use Rattle.mg_model.specs.declared.answer.Answer.TheVariants.{Fine, No}
use Rattle.mg_model.specs.declared.event.Event.TheVariants.{Rollback}
use Rattle.mg_model.specs.History.{entry}
use Rattle.mg_model.specs.Machine.{state_of}
use Rattle.mg_transcript.specs.Courses.{Ends}
use Rattle.mg_transcript.specs.Steps.{rolls_back, refused, reply_to}
use Rattle.mg_courses.specs.CarryLaws.{carries_event}
use Rattle.mg_courses.proofs.WorkLemmas.{still_active, ended_over}
use Rattle.mg_courses.proofs.starting.roll_back.Goals as goal

pub returns-in-Ok-clause-starts : goal.returns-in-Ok-clause-starts
returns-in-Ok-clause-starts g c = λ o h stands active size.
    let made = c.in-Ok.ensures.adds o h stands in
    record {
      after = entry (Rollback c.args.t) Fine ∷ h;
      comes = Ends (reply_to Fine);
      does = rolls_back Fine made.0;
      stands = made.1;
      told = c.over.ensures.reply;
      active = ended_over c.args.t.0 (state_of o h c.args.t.0) Dead c.over.result.over refl c.over.ensures.over;
      carries = carries_event g.R.Records.meaning g.met.R.Records.lasts c.args.r.now c.rollback.new.self o h
          (entry (Rollback c.args.t) Fine) None refl stands c.in-Ok.ensures.leaves.keeps
          c.in-Ok.ensures.undamaged c.in-Ok.ensures.crash;
    }

pub returns-in-Err-clause-starts : goal.returns-in-Err-clause-starts
returns-in-Err-clause-starts g c = λ o h stands active size.
    let made = c.in-Err.ensures.adds o h stands in
    record {
      after = entry (Rollback c.args.t) (No c.in-Err.refusal) ∷ h;
      comes = refused c.in-Err.refusal;
      does = rolls_back (No c.in-Err.refusal) made.0;
      stands = made.1;
      told = c.refused.ensures.reply;
      active = still_active (state_of o h c.args.t.0) c.refused.result.over active c.refused.ensures.over;
      carries = carries_event g.R.Records.meaning g.met.R.Records.lasts c.args.r.now c.rollback.new.self o h
          (entry (Rollback c.args.t) (No c.in-Err.refusal)) (Some c.in-Err.refusal) refl stands
          c.in-Err.ensures.leaves.keeps c.in-Err.ensures.undamaged c.in-Err.ensures.crash;
    }
