use Rattle.std.proofs.Common.{◌∷◌, inl, inr, None, Some, refl}
use Rattle.mg_model.specs.declared.answer.Answer.TheVariants.{Fine, No}
use Rattle.mg_model.specs.declared.event.Event.TheVariants.{Mark}
use Rattle.mg_model.specs.History.{entry}
use Rattle.mg_calls.specs.FrameLaws.{frames_leaves}
use Rattle.mg_calls.specs.QuietLaws.{quiet_event, quiet_then}
use Rattle.mg_calls.specs.Steps.{ended_at}
use Rattle.mg_calls.proofs.WriteLemmas.{steps_behind}
use Rattle.mg_calls.proofs.steps.mark_and_write.Goals as goal

pub returns-in-Ok-clause-quiet : goal.returns-in-Ok-clause-quiet
returns-in-Ok-clause-quiet g c = quiet_then g.R.Records.meaning g.met.R.Records.lasts c.args.r.now
    c.mark.new.self c.write_next.new.r (ended_at c.args.t.0 c.write_next.result)
    (quiet_event g.R.Records.meaning c.args.r.now c.mark.new.self (Mark c.args.t) Fine None None None
    refl c.in-Ok.ensures.adds c.in-Ok.ensures.leaves
    c.in-Ok.ensures.undamaged c.in-Ok.ensures.crash c.in-Ok.ensures.sessions)
    c.write_next.ensures.quiet

pub returns-in-Err-clause-quiet : goal.returns-in-Err-clause-quiet
returns-in-Err-clause-quiet g c = quiet_event g.R.Records.meaning c.args.r.now c.mark.new.self
    (Mark c.args.t) (No c.in-Err.refusal) (Some c.in-Err.refusal) None None refl
    c.in-Err.ensures.adds c.in-Err.ensures.leaves
    c.in-Err.ensures.undamaged c.in-Err.ensures.crash c.in-Err.ensures.sessions

pub returns-in-Ok-clause-writes : goal.returns-in-Ok-clause-writes
returns-in-Ok-clause-writes g c = λ o h stands.
    let came = c.in-Ok.ensures.adds o h stands in
    inr (came.0, c.write_next.ensures.writes o (entry (Mark c.args.t) Fine ∷ h) came.1)

pub returns-in-Err-clause-writes : goal.returns-in-Err-clause-writes
returns-in-Err-clause-writes g c = λ o h stands.
    let came = c.in-Err.ensures.adds o h stands in
    inl (c.in-Err.refusal, refl, record { lawful = came.0; stands = came.1 })

pub returns-in-Ok-clause-steps : goal.returns-in-Ok-clause-steps
returns-in-Ok-clause-steps g c =
    steps_behind g.R.Records.meaning c.args.r.now c.mark.new.self c.write_next.new.r c.args.t.0 c.args.w.now
    c.write_next.new.w c.write_next.result c.in-Ok.ensures.leaves c.in-Ok.ensures.told c.write_next.ensures.steps

pub returns-in-Err-clause-steps : goal.returns-in-Err-clause-steps
returns-in-Err-clause-steps g c = record {
  frames = frames_leaves g.R.Records.meaning c.args.r.now c.mark.new.self c.args.t.0 (Some c.in-Err.refusal)
      c.in-Err.ensures.leaves c.in-Err.ensures.told;
  table = refl;
  ready = tt;
  fewer = tt;
}
