use Rattle.mg_model.specs.declared.event.Event.TheVariants as events
use Rattle.std.proofs.Common.{refl}
use Rattle.mg_recording.specs.ActiveLaws.{kept_or}
use Rattle.mg_recording.specs.declared.recording.Recording.{Recording}
use Rattle.mg_recording.specs.ViaLaws.{adds_quiet}
use Rattle.mg_recording.proofs.recording.RecordingRecords.mark.Goals as goal

pub returns-clause-adds : goal.returns-clause-adds
returns-clause-adds g c =
    adds_quiet g.R.Records.meaning (λ (t : Recording g.row.R.Denot). t.keeper) (λ t. t.trace) (λ t. t.active)
    c.args.self.now (record { keeper = c.mark-result.new.self; trace = c.note_mark.new.self; active = c.args.self.now.active })
    _ _ _ c.fine_answer.ensures refl (kept_or (events.Mark c.args.t) c.mark-result.result refl) c.mark-result.ensures.adds c.note_mark.ensures
