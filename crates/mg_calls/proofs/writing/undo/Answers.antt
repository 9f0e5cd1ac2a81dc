use Rattle.std.proofs.Common.{Some, None, refl, subst, sym, ap, ◌∙◌}
use Rattle.mg_model.specs.declared.answer.Answer.TheVariants.{Fine}
use Rattle.mg_model.specs.declared.event.Event.TheVariants.{UndoMark}
use Rattle.mg_calls.specs.FrameLaws.{frames_changes, frames_first}
use Rattle.mg_calls.specs.Frames.{Frames}
use Rattle.mg_calls.specs.Quiet.{AreQuiet}
use Rattle.mg_calls.specs.Undoing.{Undoes, taken_back}
use Rattle.mg_calls.specs.declared.writing.Written.{Written}
use Rattle.mg_calls.specs.Writes.{ended_by, goes_on, refusal_written}
use Rattle.mg_calls.specs.QuietLaws.{quiet_event}
use Rattle.mg_calls.proofs.WriteLemmas.{ends_twice, not_undone, not_undone_frames, quiet_not_undone}
use Rattle.mg_calls.proofs.writing.undo.Goals as goal

pub returns-in-Ok-clause-undoes : goal.returns-in-Ok-clause-undoes
returns-in-Ok-clause-undoes g c = λ o h stands.
    let back = c.in-Ok.ensures.undoes o h stands in taken_back back.0 back.1

pub returns-in-Ok-clause-frames : goal.returns-in-Ok-clause-frames
returns-in-Ok-clause-frames g c = λ before first.
    frames_first g.R.Records.meaning before c.args.r.now c.undo_mark.new.self c.args.t.0
    (Some c.args.refusal) None (λ k quiet. refl) first
    (frames_changes g.R.Records.meaning c.args.r.now c.undo_mark.new.self c.args.t.0 None
    c.in-Ok.ensures.leaves c.in-Ok.ensures.told)

pub returns-in-Ok-clause-quiet : goal.returns-in-Ok-clause-quiet
returns-in-Ok-clause-quiet g c = quiet_event g.R.Records.meaning c.args.r.now c.undo_mark.new.self
    (UndoMark c.args.t) Fine None (Some c.args.t.0) (Some c.args.t.0) refl c.in-Ok.ensures.undoes
    c.in-Ok.ensures.leaves c.in-Ok.ensures.undamaged c.in-Ok.ensures.crash c.in-Ok.ensures.sessions

pub returns-in-Err-clause-undoes : goal.returns-in-Err-clause-undoes
returns-in-Err-clause-undoes g c = λ o h stands.
    subst (λ (w : Written). Undoes g.R.Records.meaning c.undo_mark.new.self o h c.args.t c.args.refusal w)
    (sym c.not_undone.ensures)
    (not_undone g.R.Records.meaning c.args.r.now c.undo_mark.new.self c.args.t c.args.refusal
    c.in-Err.later c.in-Err.ensures.undoes o h stands)

pub returns-in-Err-clause-ends : goal.returns-in-Err-clause-ends
returns-in-Err-clause-ends g c = ap goes_on c.not_undone.ensures ∙ ends_twice c.args.refusal c.in-Err.later

pub returns-in-Err-clause-frames : goal.returns-in-Err-clause-frames
returns-in-Err-clause-frames g c = λ before first.
    subst (λ (w : Written). Frames g.R.Records.meaning before c.undo_mark.new.self c.args.t.0
    (refusal_written w)) (sym c.not_undone.ensures)
    (not_undone_frames g.R.Records.meaning before c.args.r.now c.undo_mark.new.self c.args.t.0
    c.args.refusal c.in-Err.later first c.in-Err.ensures.leaves c.in-Err.ensures.told)

pub returns-in-Err-clause-quiet : goal.returns-in-Err-clause-quiet
returns-in-Err-clause-quiet g c =
    subst (λ (w : Written). AreQuiet g.R.Records.meaning c.args.r.now c.undo_mark.new.self
    (ended_by c.args.t.0 w)) (sym c.not_undone.ensures)
    (quiet_not_undone g.R.Records.meaning c.args.r.now c.undo_mark.new.self c.args.t c.args.refusal
    c.in-Err.later (Some c.args.t.0) (Some c.args.t.0) c.in-Err.ensures.undoes c.in-Err.ensures.leaves
    c.in-Err.ensures.undamaged c.in-Err.ensures.crash c.in-Err.ensures.sessions)
