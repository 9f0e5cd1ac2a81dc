use Rattle.std.proofs.Common.{◌∷◌, inl, inr, None, Some, refl}
use Rattle.mg_model.specs.declared.answer.Answer.TheVariants.{Fine, No}
use Rattle.mg_model.specs.declared.event.Event.TheVariants.{Mark}
use Rattle.mg_model.specs.History.{entry}
use Rattle.mg_calls.specs.FrameLaws.{frames_after, frames_leaves}
use Rattle.mg_calls.specs.QuietLaws.{quiet_event, quiet_then}
use Rattle.mg_calls.specs.Writes.{ended_by, refusal_written}
use Rattle.mg_calls.proofs.tables.mark_and_make.Goals as goal

pub returns-in-Ok-clause-quiet : goal.returns-in-Ok-clause-quiet
returns-in-Ok-clause-quiet g c = quiet_then g.R.Records.meaning g.met.R.Records.lasts c.args.r.now
    c.mark.new.self c.make_table.new.r (ended_by c.args.t.0 c.make_table.result)
    (quiet_event g.R.Records.meaning c.args.r.now c.mark.new.self (Mark c.args.t) Fine None None None
    refl c.in-Ok.ensures.adds c.in-Ok.ensures.leaves
    c.in-Ok.ensures.undamaged c.in-Ok.ensures.crash c.in-Ok.ensures.sessions)
    c.make_table.ensures.quiet

pub returns-in-Err-clause-quiet : goal.returns-in-Err-clause-quiet
returns-in-Err-clause-quiet g c = quiet_event g.R.Records.meaning c.args.r.now c.mark.new.self
    (Mark c.args.t) (No c.in-Err.refusal) (Some c.in-Err.refusal) None None refl
    c.in-Err.ensures.adds c.in-Err.ensures.leaves
    c.in-Err.ensures.undamaged c.in-Err.ensures.crash c.in-Err.ensures.sessions

pub returns-in-Ok-clause-makes : goal.returns-in-Ok-clause-makes
returns-in-Ok-clause-makes g c = λ o h stands.
    let came = c.in-Ok.ensures.adds o h stands in
    inr (came.0, c.make_table.ensures.makes o (entry (Mark c.args.t) Fine ∷ h) came.1)

pub returns-in-Err-clause-makes : goal.returns-in-Err-clause-makes
returns-in-Err-clause-makes g c = λ o h stands.
    let came = c.in-Err.ensures.adds o h stands in
    inl (c.in-Err.refusal, refl, record { lawful = came.0; stands = came.1 })

pub returns-in-Ok-clause-frames : goal.returns-in-Ok-clause-frames
returns-in-Ok-clause-frames g c =
    frames_after g.R.Records.meaning c.args.r.now c.mark.new.self c.make_table.new.r c.args.t.0
    (refusal_written c.make_table.result)
    (frames_leaves g.R.Records.meaning c.args.r.now c.mark.new.self c.args.t.0 None c.in-Ok.ensures.leaves
    c.in-Ok.ensures.told)
    c.make_table.ensures.frames

pub returns-in-Err-clause-frames : goal.returns-in-Err-clause-frames
returns-in-Err-clause-frames g c =
    frames_leaves g.R.Records.meaning c.args.r.now c.mark.new.self c.args.t.0 (Some c.in-Err.refusal)
    c.in-Err.ensures.leaves c.in-Err.ensures.told
