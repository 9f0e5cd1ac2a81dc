use Rattle.std.proofs.Common.{◌∷◌, refl, None, Some}
use Rattle.mg_model.specs.declared.answer.Answer.TheVariants.{Fine, No}
use Rattle.mg_model.specs.declared.event.Event.TheVariants.{Look}
use Rattle.mg_model.specs.History.{entry}
use Rattle.mg_model.specs.Machine.{state_of}
use Rattle.mg_transcript.specs.Steps.{looks_not, refused}
use Rattle.mg_courses.specs.CarryLaws.{carries_event}
use Rattle.mg_courses.proofs.WorkLemmas.{still_active}
use Rattle.mg_courses.proofs.StartLemmas.{looks_and_begins}
use Rattle.mg_statements.specs.Plain.{plain_of}
use Rattle.mg_courses.proofs.starting.look_and_begin.Goals as goal

pub returns-in-Ok-clause-starts : goal.returns-in-Ok-clause-starts
returns-in-Ok-clause-starts g c = λ o h stands active mode.
    let made = c.in-Ok.ensures.adds o h stands in
    looks_and_begins g.R.Records.meaning g.R.Statements.runs c.args.r.now c.look.new.self c.begin.new.r o h
    c.args.t c.args.read_only c.args.size (plain_of c.args.s) c.begin.result c.requires.looks mode active
    made.0 g.met.R.Records.lasts
    (carries_event g.R.Records.meaning g.met.R.Records.lasts c.args.r.now c.look.new.self o h
    (entry (Look c.args.t) Fine) None refl stands c.in-Ok.ensures.leaves.keeps
    c.in-Ok.ensures.undamaged c.in-Ok.ensures.crash)
    (c.begin.ensures.begins o (entry (Look c.args.t) Fine ∷ h) made.1 active)

pub returns-in-Err-clause-starts : goal.returns-in-Err-clause-starts
returns-in-Err-clause-starts g c = λ o h stands active mode.
    let made = c.in-Err.ensures.adds o h stands in
    record {
      after = entry (Look c.args.t) (No c.in-Err.refusal) ∷ h;
      comes = refused c.in-Err.refusal;
      does = looks_not (plain_of c.args.s) c.in-Err.refusal c.requires.looks made.0;
      stands = made.1;
      told = c.refused.ensures.reply;
      active = still_active (state_of o h c.args.t.0) c.refused.result.over active c.refused.ensures.over;
      carries = carries_event g.R.Records.meaning g.met.R.Records.lasts c.args.r.now c.look.new.self o h
          (entry (Look c.args.t) (No c.in-Err.refusal)) (Some c.in-Err.refusal) refl stands
          c.in-Err.ensures.leaves.keeps c.in-Err.ensures.undamaged c.in-Err.ensures.crash;
    }
